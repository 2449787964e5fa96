-- A chain that reads the lists of the services, one after another.
use Rattle.std.proofs.Common.{◌≡◌, ℕ, ◌+◌, ◌<◌, ◌≤◌, Bool, Result, Ok, Err, true, false, List, [], ◌∷◌, ◌++◌, Some, inl, inr, refl, sym, ap, ◌∙◌, subst, slice_get, length, length-append, append_assoc, arith, Contains}
use mathlib.Core.List.{IsPrefix}
use Rattle.std.specs.Prelude.{IfErr}
use Rattle.std.proofs.lemmas.Bool.{cases_eq}
use Rattle.std.proofs.lemmas.List.{append-nil}
use Rattle.std.proofs.lemmas.Option.{slice_get_within}
use Rattle.ms_base.specs.Places.{append_cases}
use Rattle.ms_ken.specs.Prefixes.{prefix_self, prefix_trans}
use Rattle.ms_link.specs.Composing.{learns_on, learns_self}
use Rattle.ms_link.specs.Links.{Learns as PassLearns, LinkView}
use Rattle.ms_core.specs.Views.{IsClosed}
use Rattle.ms_ken.specs.Known.{Known}
use Rattle.ms_record.specs.declared.item.Item.{Item}
use Rattle.ms_local.specs.declared.deed.Deed.{Deed}
use Rattle.ms_local.specs.declared.deed.Deed.TheVariants.{Listed}
use Rattle.ms_local.specs.Desks.{DeskView, IsDesk, KnowsTold, LanesStay}
use Rattle.ms_local.specs.Learning.{Begins, Brings, ChainView, IsFailed, IsOfDesk, ReadsOn, ReadsSome, StartsOn, texts_read}
use Rattle.ms_record.specs.declared.setting.Setting.{Setting}
use Rattle.ms_chain.specs.Readings.{DeskGoes, IsBroken, IsRead, ListsGoOn, ReadsUpTo}
use Rattle.ms_chain.proofs.Faults.{fault_before, fault_on}
use Rattle.ms_chain.proofs.Places.{length_more}
use Rattle.ms_chain.proofs.Rounds.{each_more, failed_no, failed_yes, none_failed}
use Rattle.ms_chain.proofs.Telling.{TextsOn, told_texts}

-- what was read so far from the first desk on, and the reading of the list of service n
pub record Reads (start mid new : ChainView) (first here after : DeskView) (n : ℕ) : Type 0 where
  pub before : LanesStay first.lanes here.lanes
  pub behind : LanesStay here.lanes after.lanes
  pub told : (setting : Setting) → KnowsTold first setting → KnowsTold here setting
  pub texts : IsPrefix (told_texts first n) (told_texts here n)
  pub same : texts_read mid n ≡ texts_read start n
  pub others : (x : ℕ) → (x ≡ n → ⊥) → texts_read new x ≡ texts_read mid x

module _ (start mid new : ChainView) (first here after : DeskView) (n : ℕ) (r : Reads start mid new first here after n) where
  keeps_bring : (s count : ℕ) (ok : Bool) → (s ≡ n → ⊥) → Brings start mid first here s count ok → Brings start new first after s count ok
  keeps_bring s count true ne b =
      let stays = r.others s ne in
      (ap (λ (t : List (List ℕ)). length t) stays ∙ b.0, λ setting told. subst (IsPrefix (told_texts first s)) (sym stays) (b.1 setting told))
  keeps_bring s count false ne b = (b.0, r.others s ne ∙ b.1, fault_on first here after s r.behind b.2)

  keeps_read : (s : ℕ) (deed : Deed) → (s ≡ n → ⊥) → ReadsOn start mid first here s deed → ReadsOn start new first after s deed
  keeps_read s (Listed service list from count ok) ne h = (h.0, h.1, h.2, keeps_bring s count ok ne h.3)
  keeps_read s deed ne h = absurd h

  brings_later : (count : ℕ) (ok : Bool) → Brings mid new here after n count ok → Brings start new first after n count ok
  brings_later count true b = (
    b.0 ∙ ap (λ (t : List (List ℕ)). length t + count) r.same,
    λ setting told. prefix_trans (told_texts first n) (told_texts here n) (texts_read new n) r.texts (b.1 setting (r.told setting told)),
  )
  brings_later count false b = (b.0, b.1 ∙ r.same, fault_before first here after n r.before b.2)

  reads_later : (deed : Deed) → ReadsOn mid new here after n deed → ReadsOn start new first after n deed
  reads_later (Listed service list from count ok) h = (h.0, h.1, h.2 ∙ ap (λ (t : List (List ℕ)). length t) r.same, brings_later count ok h.3)
  reads_later deed h = absurd h

  begins_later : (count : ℕ) (ok : Bool) → Begins mid new here after n count ok → Begins start new first after n count ok
  begins_later count true b = subst (λ (t : List (List ℕ)). length (texts_read new n) ≤ length t + count) r.same b
  begins_later count false b = (b.0, b.1 ∙ r.same, fault_before first here after n r.before b.2)

  starts_later : (deed : Deed) → StartsOn mid new here after n deed → StartsOn start new first after n deed
  starts_later (Listed service list from count ok) h = (h.0, h.1, h.2 ∙ ap (λ (t : List (List ℕ)). length t) r.same, begins_later count ok h.3)
  starts_later deed h = absurd h

begins_by : (old new : ChainView) (before after : DeskView) (s count : ℕ) (ok : Bool) → Brings old new before after s count ok → Begins old new before after s count ok
begins_by old new before after s count true b = (let e = b.0 in omega (arith, e))
begins_by old new before after s count false b = b

pub starts_by : (old new : ChainView) (before after : DeskView) (s : ℕ) (deed : Deed) → ReadsOn old new before after s deed → StartsOn old new before after s deed
starts_by old new before after s (Listed service list from count ok) h = (h.0, h.1, h.2, begins_by old new before after s count ok h.3)
starts_by old new before after s deed h = absurd h

-- ---- the desk and the chain, so far

pub goes_self : (chain : ChainView) → ListsGoOn chain chain
goes_self chain = record { same = refl; many = refl; goes = λ s. prefix_self (texts_read chain s) }

pub goes_trans : (old mid new : ChainView) → ListsGoOn old mid → ListsGoOn mid new → ListsGoOn old new
goes_trans old mid new h k = record {
  same = k.same ∙ ap (λ (v : ChainView). the_lists v new.lists) h.same;
  many = k.many ∙ h.many;
  goes = λ s. prefix_trans (texts_read old s) (texts_read mid s) (texts_read new s) (h.goes s) (k.goes s);
}
  where
    the_lists : ChainView → List (List (List ℕ)) → ChainView
    the_lists chain lists = record chain { lists = lists }

-- what the law of desks says of lanes
abbrev pub LanesOn : Type 0
LanesOn = (old mid new : List (List LinkView)) → LanesStay old mid → LanesStay mid new → LanesStay old new

pub desk_on : (old mid new : DeskView) → LanesOn → DeskGoes old mid → DeskGoes mid new → DeskGoes old new
desk_on old mid new lanes_on h k = record {
  same = k.same ∙ ap (λ (d : DeskView). parts d new) h.same;
  pass = learns_on old.pass mid.pass new.pass h.pass k.pass;
  lanes = lanes_on old.lanes mid.lanes new.lanes h.lanes k.lanes;
}
  where
    parts : DeskView → DeskView → DeskView
    parts d e = record d { pass = e.pass; lanes = e.lanes; deeds = e.deeds }

-- the lists of the services below n were read, and these failed
pub record HasReadOn (start now : ChainView) (first here : DeskView) (n : ℕ) (failed : List ℕ) : Type 0 where
  pub reads : ReadsUpTo start now first here n failed
  pub lists : ListsGoOn start now
  pub effect : DeskGoes first here
  pub desk : IsDesk here
  pub chain : IsOfDesk now here

pub none_read : (chain : ChainView) (desk : DeskView) → ((lanes : List (List LinkView)) → LanesStay lanes lanes) → IsDesk desk → IsOfDesk chain desk → HasReadOn chain chain desk desk 0 []
none_read chain desk lanes_self is of = record {
  reads = record {
    more = [];
    noted = sym (append-nil desk.deeds);
    all = refl;
    each = λ s deed got. absurd cc;
    no_others = λ s le. refl;
    failed_are = none_failed IsFailed;
  };
  lists = goes_self chain;
  effect = record { same = refl; pass = learns_self desk.pass; lanes = lanes_self desk.lanes };
  desk = is;
  chain = of;
}

-- ---- one service more

-- what the law of tellings says
abbrev pub ToldOn : Type 0
ToldOn = (desk : DeskView) (pass : Known Item) (setting : Setting) → IsClosed pass.lists → PassLearns desk.pass pass → KnowsTold desk setting → KnowsTold (record desk { pass = pass }) setting

pub reads_here : (start mid new : ChainView) (first here after : DeskView) (n : ℕ) (failed : List ℕ) → ToldOn → TextsOn → HasReadOn start mid first here n failed → IsClosed here.pass.lists → DeskGoes here after
    → ((x : ℕ) → (x ≡ n → ⊥) → texts_read new x ≡ texts_read mid x) → Reads start mid new first here after n
reads_here start mid new first here after n failed told_on texts_on h closed goes others = record {
  before = h.effect.lanes;
  behind = goes.lanes;
  told = λ setting told. told_on first here.pass setting closed h.effect.pass told;
  texts = texts_on first.pass.lists here.pass.lists n 0 h.effect.pass.more;
  same = h.reads.no_others n (omega arith);
  others = others;
}

-- each service that failed is below n
pub failed_below : (start now : ChainView) (first here : DeskView) (n : ℕ) (failed : List ℕ) → HasReadOn start now first here n failed → (s : ℕ) → Contains failed s → s < n
failed_below start now first here n failed h s is =
    let w = (h.reads.failed_are s).0 is in
    subst (λ (k : ℕ). s < k) h.reads.all (slice_get_within h.reads.more s w.0 w.1)

module _ (start mid new : ChainView) (first here after : DeskView) (n : ℕ) (failed : List ℕ) (r : Reads start mid new first here after n) (h : ReadsUpTo start mid first here n failed) where
  others_same : (s : ℕ) → n + 1 ≤ s → texts_read new s ≡ texts_read start s
  others_same s le = r.others s (λ e. absurd (omega (arith, e))) ∙ h.no_others s (omega arith)

  each_on : (deed : Deed) → ReadsOn mid new here after n deed → (s : ℕ) (d : Deed) → slice_get (h.more ++ deed ∷ []) s ≡ Some d → ReadsOn start new first after s d
  each_on deed reads =
      each_more (ReadsOn start mid first here) (ReadsOn start new first after) h.more n deed h.all h.each
      (λ s d lt. keeps_read start mid new first here after n r s d (λ e. absurd (omega (arith, e)))) (reads_later start mid new first here after n r deed reads)

  noted_on : (deed : Deed) → after.deeds ≡ here.deeds ++ deed ∷ [] → after.deeds ≡ first.deeds ++ (h.more ++ deed ∷ [])
  noted_on deed noted = noted ∙ ap (λ (ds : List Deed). ds ++ deed ∷ []) h.noted ∙ append_assoc first.deeds h.more (deed ∷ [])

  pub read_well : IsRead mid new here after n true → ReadsUpTo start new first after (n + 1) failed
  read_well is = record {
    more = h.more ++ is.deed ∷ [];
    noted = noted_on is.deed is.noted;
    all = length_more h.more is.deed ∙ ap (λ (k : ℕ). k + 1) h.all;
    each = each_on is.deed is.reads;
    no_others = others_same;
    failed_are = failed_no IsFailed h.more is.deed failed (λ f. let q = is.failed.0 f in cc q) h.failed_are;
  }

  pub read_badly : IsRead mid new here after n false → ReadsUpTo start new first after (n + 1) (failed ++ n ∷ [])
  read_badly is = record {
    more = h.more ++ is.deed ∷ [];
    noted = noted_on is.deed is.noted;
    all = length_more h.more is.deed ∙ ap (λ (k : ℕ). k + 1) h.all;
    each = each_on is.deed is.reads;
    no_others = others_same;
    failed_are = failed_yes IsFailed h.more is.deed n failed (is.failed.1 refl) h.all h.failed_are;
  }

  -- without memory what was read before stays
  pub read_some : n < first.services → IsBroken mid new here after n → ReadsSome start new first after
  read_some lt is = record {
    more = h.more ++ is.more;
    deeds = is.noted ∙ ap (λ (ds : List Deed). ds ++ is.more) h.noted ∙ append_assoc first.deeds h.more is.more;
    few = (let few = is.few in let all = h.all in omega (arith, length-append h.more is.more));
    each = λ s d got.
        elim (append_cases h.more is.more s d got) [
          | inl l ↦
              let below = slice_get_within h.more s d l in
              let all = h.all in
              starts_by start new first after s d (keeps_read start mid new first here after n r s d (λ e. absurd (omega (arith, e))) (h.each s d l))
          | inr w ↦
              let inside = slice_get_within is.more w.0 d w.2 in
              let few = is.few in
              let all = h.all in
              let at = w.1 in
              let here_is : s ≡ n = omega arith in
              subst (λ (k : ℕ). StartsOn start new first after k d) (sym here_is) (starts_later start mid new first here after n r d (is.starts w.0 d w.2))
        ];
    no_others = λ s le.
        let many = length-append h.more is.more in
        let all = h.all in
        elim (cases_eq s n) [
          | inl e ↦
              let none : length is.more ≡ 0 = omega arith in
              subst (λ (k : ℕ). texts_read new k ≡ texts_read start k) (sym e) (is.none none ∙ r.same)
          | inr ne ↦ r.others s ne ∙ h.no_others s (omega arith)
        ];
  }

pub if_err : {T E : Type 0} (r : Result T E) (P : Type 0) → P → IfErr r (λ _. P)
if_err (Ok x) P p = tt
if_err (Err e) P p = p
