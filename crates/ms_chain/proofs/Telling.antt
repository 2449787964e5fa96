-- Chains that are known at a desk, as the desk learns and they read on.
use Rattle.std.proofs.Common.{◌≡◌, ℕ, ◌+◌, ◌<◌, ◌≤◌, true, List, [], ◌∷◌, ◌++◌, Result, Ok, Err, inl, inr, refl, sym, ap, ◌∙◌, subst, length, drop, length-append, arith}
use mathlib.Core.List.{IsPrefix}
use Rattle.std.specs.Prelude.{Bool}
use Rattle.std.specs.Result.{IsErr}
use Rattle.std.proofs.lemmas.Bool.{cases_eq}
use Rattle.ms_base.specs.declared.bytes.NoMemory.{NoMemory}
use Rattle.ms_base.specs.declared.names.ServiceId.{ServiceId}
use Rattle.ms_base.specs.Places.{alone}
use Rattle.ms_core.specs.Views.{View, log_in, votes_told}
use Rattle.ms_ken.specs.Known.{Known}
use Rattle.ms_ken.specs.Lists.{Begins}
use Rattle.ms_ken.specs.Prefixes.{prefix_length, prefix_trans}
use Rattle.ms_link.specs.Links.{Learns as PassLearns}
use Rattle.ms_local.specs.declared.deed.Deed.{Deed}
use Rattle.ms_local.specs.declared.deed.Deed.TheVariants.{Listed}
use Rattle.ms_local.specs.Desks.{DeskView, IsDesk, KnowsTold, OnTold}
use Rattle.ms_local.specs.Calls.{DeskCalls}
use Rattle.ms_local.specs.Learning.{Brings, ChainView, IsOfDesk, StartsOn, texts_read}
use Rattle.ms_record.specs.declared.entry.Entry.{Entry}
use Rattle.ms_record.specs.declared.item.Item.{Item}
use Rattle.ms_record.specs.declared.log.ListId.{ListId}
use Rattle.ms_record.specs.declared.setting.Setting.{Setting}
use Rattle.ms_record.specs.Chains.{IsLinked}
use Rattle.ms_record.specs.Logs.{texts_in, vote_texts}
use Rattle.ms_record.specs.Settings.{origin_of}
use Rattle.ms_chain.specs.Readings.{IsRead, ReadsOne, with_texts}
use Rattle.ms_chain.proofs.ReadingOn.{reads_all, reads_front, texts_here, texts_there}

-- the texts of the service's vote list, as far as the desk knows
abbrev pub told_texts : DeskView → ℕ → List (List ℕ)
told_texts desk s = vote_texts (log_in desk.pass.lists s)

-- the desk knows what it knew, or more
pub record KnowsMore (old new : DeskView) : Type 0 where
  pub services : new.services ≡ old.services
  pub client : new.client ≡ old.client
  pub back : (setting : Setting) → KnowsTold new setting → KnowsTold old setting
  pub linked : (setting : Setting) (members : List Entry) → IsLinked (votes_told old.pass.lists) (origin_of setting) members → IsLinked (votes_told new.pass.lists) (origin_of setting) members
  pub texts : (s : ℕ) → IsPrefix (told_texts old s) (told_texts new s)

-- what the laws of desks and of views say
abbrev pub ToldBack : Type 0
ToldBack = (desk : DeskView) (pass : Known Item) (setting : Setting) → IsDesk desk → PassLearns desk.pass pass → KnowsTold (record desk { pass = pass }) setting → KnowsTold desk setting

abbrev pub LinkedOn : Type 0
LinkedOn = (old new : View) (setting : Setting) (members : List Entry) → Begins old new → IsLinked (votes_told old) (origin_of setting) members → IsLinked (votes_told new) (origin_of setting) members

abbrev pub TextsOn : Type 0
TextsOn = (old new : View) (service list : ℕ) → Begins old new → IsPrefix (texts_in list (log_in old service)) (texts_in list (log_in new service))

pub knows_more : (old mid new : DeskView) (s : ℕ) → ToldBack → LinkedOn → TextsOn → IsDesk old → DeskCalls s mid new → mid.services ≡ old.services → mid.client ≡ old.client → mid.pass ≡ old.pass → KnowsMore old new
knows_more old mid new s back linked texts desk calls services client pass =
    let learns : PassLearns old.pass new.pass = subst (λ (p : Known Item). PassLearns p new.pass) pass calls.pass in
    record {
      services = ap (λ (d : DeskView). d.services) calls.same ∙ services;
      client = ap (λ (d : DeskView). d.client) calls.same ∙ client;
      back = λ setting told. back old new.pass setting desk learns told;
      linked = λ setting members h. linked old.pass.lists new.pass.lists setting members learns.more h;
      texts = λ x. texts old.pass.lists new.pass.lists x 0 learns.more;
    }

pub known_on : (chain : ChainView) (old new : DeskView) → KnowsMore old new → IsOfDesk chain old → IsOfDesk chain new
known_on chain old new more h = record {
  services = h.services ∙ sym more.services;
  client = subst (λ (n : ℕ). n < chain.setting.clients) (sym more.client) h.client;
  known = λ setting told.
      let k = h.known setting (more.back setting told) in
      record {
        setting_is = k.setting_is;
        linked = more.linked chain.setting chain.members k.linked;
        read = λ s. prefix_trans (texts_read chain s) (told_texts old s) (told_texts new s) (k.read s) (more.texts s);
      };
}

-- these texts came of the service's list, from where the chain left off
abbrev pub Came : ChainView → DeskView → DeskView → ℕ → List (List ℕ) → Type 0
Came chain old new s texts = OnTold old (texts ≡ drop (length (texts_read chain s)) (told_texts new s))

pub came_from : (chain : ChainView) (old new : DeskView) (s from : ℕ) (texts : List (List ℕ)) → from ≡ length (texts_read chain s) → OnTold old (texts ≡ drop from (told_texts new s)) → Came chain old new s texts
came_from chain old new s from texts start came = λ setting told. came setting told ∙ ap (λ (n : ℕ). drop n (told_texts new s)) start

pub read_on : (chain : ChainView) (old new : DeskView) (s : ℕ) (texts front : List (List ℕ)) → s < length chain.lists → KnowsMore old new → IsOfDesk chain old → Came chain old new s texts → IsPrefix front texts
    → IsOfDesk (with_texts chain s front) new
read_on chain old new s texts front lt more h came p = record {
  services = on.services;
  client = on.client;
  known = λ setting told.
      let k = on.known setting told in
      record {
        setting_is = k.setting_is;
        linked = k.linked;
        read = λ x.
            elim (cases_eq x s) [
              | inl e ↦
                  let here = reads_front (texts_read chain s) front texts (told_texts new s) (k.read s) (came setting (more.back setting told)) p in
                  subst (λ (y : ℕ). IsPrefix (texts_read (with_texts chain s front) y) (told_texts new y)) (sym e)
                  (subst (λ (t : List (List ℕ)). IsPrefix t (told_texts new s)) (sym (texts_here chain s front lt)) here)
              | inr ne ↦ subst (λ (t : List (List ℕ)). IsPrefix t (told_texts new x)) (sym (texts_there chain s x front ne)) (k.read x)
            ];
      };
}
  where
    on : IsOfDesk chain new
    on = known_on chain old new more h

pub brings_all : (chain : ChainView) (old new : DeskView) (s : ℕ) (texts : List (List ℕ)) → s < length chain.lists → KnowsMore old new → IsOfDesk chain old → Came chain old new s texts
    → Brings chain (with_texts chain s texts) old new s (length texts) true
brings_all chain old new s texts lt more h came = (
  ap (λ (t : List (List ℕ)). length t) (texts_here chain s texts lt) ∙ length-append (texts_read chain s) texts,
  λ setting told.
      let k = h.known setting told in
      let left = prefix_trans (texts_read chain s) (told_texts old s) (told_texts new s) (k.read s) (more.texts s) in
      let whole = reads_all (texts_read chain s) texts (told_texts new s) left (came setting told) in
      subst (λ (t : List (List ℕ)). IsPrefix (told_texts old s) t) (sym (texts_here chain s texts lt ∙ whole)) (more.texts s),
)

pub reads_one : (chain : ChainView) (old new : DeskView) (service : ServiceId) (list : ListId) (from : ℕ) (texts : List (List ℕ)) → list.0 ≡ 0 → from ≡ length (texts_read chain service.0) → service.0 < length chain.lists
    → KnowsMore old new → IsOfDesk chain old → Came chain old new service.0 texts → new.deeds ≡ old.deeds ++ Listed service list from (length texts) true ∷ []
    → IsRead chain (with_texts chain service.0 texts) old new service.0 true
reads_one chain old new service list from texts votes start lt more h came noted = record {
  deed = Listed service list from (length texts) true;
  noted = noted;
  reads = (refl, votes, start, brings_all chain old new service.0 texts lt more h came);
  failed = (λ e. e, λ e. e);
}

-- without memory nothing was read
pub breaks_before : (chain : ChainView) (old new : DeskView) (s : ℕ) (r : Result Bool NoMemory) → IsErr r → new.deeds ≡ old.deeds → ReadsOne chain chain old new s r
breaks_before chain old new s (Ok ok) is same = absurd (cc is)
breaks_before chain old new s (Err error) is same = record {
  more = [];
  noted = same ∙ nothing old.deeds;
  few = omega arith;
  starts = λ place deed got. absurd cc;
  none = λ e. refl;
}
  where
    nothing : (xs : List Deed) → xs ≡ xs ++ []
    nothing [] = refl
    nothing (x ∷ xs) = ap (λ (t : List Deed). x ∷ t) (nothing xs)

-- or a front of what came
pub breaks_amid : (chain : ChainView) (old new : DeskView) (service : ServiceId) (list : ListId) (from : ℕ) (texts front : List (List ℕ)) (r : Result Bool NoMemory) → IsErr r → list.0 ≡ 0
    → from ≡ length (texts_read chain service.0) → service.0 < length chain.lists → IsPrefix front texts → new.deeds ≡ old.deeds ++ Listed service list from (length texts) true ∷ []
    → ReadsOne chain (with_texts chain service.0 front) old new service.0 r
breaks_amid chain old new service list from texts front (Ok ok) is votes start lt p noted = absurd (cc is)
breaks_amid chain old new service list from texts front (Err error) is votes start lt p noted = record {
  more = Listed service list from (length texts) true ∷ [];
  noted = noted;
  few = omega arith;
  starts = λ place deed got. subst (StartsOn chain (with_texts chain service.0 front) old new service.0) (alone _ deed place got).1 (refl, votes, start, many);
  none = λ e. absurd (omega (arith, e));
}
  where
    many : length (texts_read (with_texts chain service.0 front) service.0) ≤ length (texts_read chain service.0) + length texts
    many =
        let here = ap (λ (t : List (List ℕ)). length t) (texts_here chain service.0 front lt) ∙ length-append (texts_read chain service.0) front in
        let few = prefix_length front texts p in
        omega (arith, here, few)
