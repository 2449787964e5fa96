-- A chain that has read on and gained members: at its desk, and in what it answers.
use Rattle.std.proofs.Common.{◌≡◌, ℕ, ◌+◌, ◌<◌, ◌≤◌, Bool, true, false, List, [], ◌∷◌, ◌++◌, Option, Some, None, Result, Ok, Err, inl, inr, refl, sym, ap, ◌∙◌, subst, slice_get, slice_index_or, length, take, arith}
use mathlib.Core.List.{IsPrefix}
use Rattle.std.proofs.lemmas.Bool.{cases_lt}
use Rattle.std.proofs.lemmas.Option.{slice_get_within}
use Rattle.ms_base.specs.Places.{contains_at}
use Rattle.ms_core.specs.Views.{log_in, votes_told}
use Rattle.ms_ken.specs.Prefixes.{prefix_self, prefix_trans}
use Rattle.ms_local.specs.declared.deed.Deed.{Deed}
use Rattle.ms_local.specs.declared.deed.Deed.TheVariants.{Listed}
use Rattle.ms_local.specs.declared.learner.Learnt.{Learnt}
use Rattle.ms_local.specs.Desks.{DeskView, OnTold}
use Rattle.ms_local.specs.Learning.{Begins, Brings, ChainGrows, ChainView, DeskLearns, IsKnown, IsListing, IsOfDesk, IsSplit, IsWhole, LacksMajority, Learns, ReadsAll, ReadsOn, ReadsSome, StartsOn, texts_read, votes_read}
use Rattle.ms_record.specs.declared.entry.Entry.{Entry}
use Rattle.ms_record.specs.declared.record.Record.{Record}
use Rattle.ms_record.specs.declared.refusal.Refusal.{Refusal}
use Rattle.ms_record.specs.declared.refusal.Refusal.TheVariants as refusals
use Rattle.ms_record.specs.declared.setting.Setting.{Setting}
use Rattle.ms_record.specs.Chains.{Agrees, IsChosen, IsLinked, LinksBehind, Origin, voters_behind}
use Rattle.ms_record.specs.Growing.{chosen_grows}
use Rattle.ms_record.specs.Logs.{vote_texts}
use Rattle.ms_record.specs.Offers.{GrowsTo}
use Rattle.ms_record.specs.Reading.{record_at, votes_of, with_record}
use Rattle.ms_record.specs.Settings.{origin_of}
use Rattle.ms_record.specs.Votes.{ChosenBy}
use Rattle.ms_chain.specs.Readings.{DeskGoes, ListsGoOn, ReadsUpTo}
use Rattle.ms_chain.specs.Splits.{AnswersOf}
use Rattle.ms_chain.proofs.Places.{length_take, place_left, take_left}
use Rattle.ms_chain.proofs.ReadingAll.{starts_by}

-- ---- one chain's lists are another's

like_texts : (mid new : ChainView) → new.lists ≡ mid.lists → (s : ℕ) → texts_read new s ≡ texts_read mid s
like_texts mid new e s = ap (λ (lists : List (List (List ℕ))). slice_index_or lists s []) e

like_brings : (old mid new : ChainView) (b a : DeskView) → new.lists ≡ mid.lists → (s count : ℕ) (ok : Bool) → Brings old mid b a s count ok → Brings old new b a s count ok
like_brings old mid new b a e s count true h =
    (ap (λ (t : List (List ℕ)). length t) (like_texts mid new e s) ∙ h.0, λ setting told. subst (IsPrefix (vote_texts (log_in b.pass.lists s))) (sym (like_texts mid new e s)) (h.1 setting told))
like_brings old mid new b a e s count false h = (h.0, like_texts mid new e s ∙ h.1, h.2)

like_reads : (old mid new : ChainView) (b a : DeskView) → new.lists ≡ mid.lists → (s : ℕ) (deed : Deed) → ReadsOn old mid b a s deed → ReadsOn old new b a s deed
like_reads old mid new b a e s (Listed service list from count ok) h = (h.0, h.1, h.2, like_brings old mid new b a e s count ok h.3)
like_reads old mid new b a e s deed h = absurd h

like_begins : (old mid new : ChainView) (b a : DeskView) → new.lists ≡ mid.lists → (s count : ℕ) (ok : Bool) → Begins old mid b a s count ok → Begins old new b a s count ok
like_begins old mid new b a e s count true h = subst (λ (t : List (List ℕ)). length t ≤ length (texts_read old s) + count) (sym (like_texts mid new e s)) h
like_begins old mid new b a e s count false h = (h.0, like_texts mid new e s ∙ h.1, h.2)

like_starts : (old mid new : ChainView) (b a : DeskView) → new.lists ≡ mid.lists → (s : ℕ) (deed : Deed) → StartsOn old mid b a s deed → StartsOn old new b a s deed
like_starts old mid new b a e s (Listed service list from count ok) h = (h.0, h.1, h.2, like_begins old mid new b a e s count ok h.3)
like_starts old mid new b a e s deed h = absurd h

-- ---- what was read

pub some_like : (old mid new : ChainView) (b a : DeskView) → new.lists ≡ mid.lists → ReadsSome old mid b a → ReadsSome old new b a
some_like old mid new b a e h = record {
  more = h.more;
  deeds = h.deeds;
  few = h.few;
  each = λ s deed got. like_starts old mid new b a e s deed (h.each s deed got);
  no_others = λ s le. like_texts mid new e s ∙ h.no_others s le;
}

pub some_of : (old new : ChainView) (b a : DeskView) (failed : List ℕ) → ReadsUpTo old new b a b.services failed → ReadsSome old new b a
some_of old new b a failed h = record {
  more = h.more;
  deeds = h.noted;
  few = (let all = h.all in omega (arith, all));
  each = λ s deed got. starts_by old new b a s deed (h.each s deed got);
  no_others = λ s le. h.no_others s (let all = h.all in omega (arith, all));
}

pub all_like : (old mid new : ChainView) (b a : DeskView) (failed : List ℕ) → new.lists ≡ mid.lists → ReadsUpTo old mid b a b.services failed → ReadsAll old new b a failed
all_like old mid new b a failed e h = record {
  more = h.more;
  deeds = h.noted;
  all = h.all;
  each = λ s deed got. like_reads old mid new b a e s deed (h.each s deed got);
  no_others = λ s le. like_texts mid new e s ∙ h.no_others s le;
  failed_are = h.failed_are;
}

listing : (old new : ChainView) (b a : DeskView) (s : ℕ) (deed : Deed) → StartsOn old new b a s deed → IsListing deed
listing old new b a s (Listed service list from count ok) h = h.1
listing old new b a s deed h = absurd h

pub desk_learns : (old new : ChainView) (b a : DeskView) → DeskGoes b a → ReadsSome old new b a → DeskLearns b a
desk_learns old new b a goes h = record {
  same = goes.same;
  pass = goes.pass;
  lanes = goes.lanes;
  deeds = (h.more, h.deeds, λ deed is. let w = contains_at h.more deed is in listing old new b a w.0 deed (h.each w.0 deed w.1));
}

-- ---- what was gained

pub grows_lists : (old mid : ChainView) → ListsGoOn old mid → ChainGrows old mid
grows_lists old mid h = record {
  setting = ap (λ (v : ChainView). v.setting) h.same;
  members = subst (IsPrefix old.members) (sym members) (prefix_self old.members);
  lists = h.goes;
  gained = λ k e le got. let lt = slice_get_within mid.members k e got in absurd (omega (arith, ap (λ (ms : List Entry). length ms) members));
}
  where
    members : mid.members ≡ old.members
    members = ap (λ (v : ChainView). v.members) h.same

pub grows_both : (old mid new : ChainView) → ListsGoOn old mid → ChainGrows mid new → ChainGrows old new
grows_both old mid new h g = record {
  setting = g.setting ∙ ap (λ (v : ChainView). v.setting) h.same;
  members = subst (λ (ms : List Entry). IsPrefix ms new.members) members g.members;
  lists = λ s. prefix_trans (texts_read old s) (texts_read mid s) (texts_read new s) (h.goes s) (g.lists s);
  gained = λ k e le got. g.gained k e (subst (λ (ms : List Entry). length ms ≤ k) (sym members) le) got;
}
  where
    members : mid.members ≡ old.members
    members = ap (λ (v : ChainView). v.members) h.same

-- ---- where a setting is told

votes_append : (texts more : List (List ℕ)) → votes_of (texts ++ more) ≡ votes_of texts ++ votes_of more
votes_append [] more = refl
votes_append (t ∷ texts) more = ap (with_record (record_at t)) (votes_append texts more) ∙ by (record_at t)
  where
    by : (o : Option Record) → with_record o (votes_of texts ++ votes_of more) ≡ with_record o (votes_of texts) ++ votes_of more
    by None = refl
    by (Some r) = refl

-- what it has read is told
votes_by : (chain : ChainView) (desk : DeskView) → ((s : ℕ) → IsPrefix (texts_read chain s) (vote_texts (log_in desk.pass.lists s))) → GrowsTo (votes_read chain) (votes_told desk.pass.lists)
votes_by chain desk read s =
    let p = read s in
    (votes_of p.0, sym (votes_append (texts_read chain s) p.0) ∙ ap votes_of p.1)

linked_on : (votes : ℕ → List Record) (mid new : ChainView) → GrowsTo (votes_read new) votes → ChainGrows mid new → IsLinked votes (origin_of new.setting) mid.members → IsLinked votes (origin_of new.setting) new.members
linked_on votes mid new grows g h = record { chosen = λ i e got. (at i e got).0; links = λ i e got. (at i e got).1 }
  where
    at : (i : ℕ) (e : Entry) → slice_get new.members i ≡ Some e
        → ChosenBy votes (voters_behind (origin_of new.setting) (take i new.members)) (i + 1) e × LinksBehind (origin_of new.setting) (take i new.members) e
    at i e got =
        elim (cases_lt i (length mid.members)) [
          | inl lt ↦
              let p = g.members in
              let here : slice_get mid.members i ≡ Some e = sym (place_left mid.members p.0 i lt) ∙ ap (λ (ms : List Entry). slice_get ms i) p.1 ∙ got in
              let front : take i mid.members ≡ take i new.members = sym (take_left i mid.members p.0 (omega arith)) ∙ ap (λ (ms : List Entry). take i ms) p.1 in (
                subst (λ (ms : List Entry). ChosenBy votes (voters_behind (origin_of new.setting) ms) (i + 1) e) front (h.chosen i e here),
                subst (λ (ms : List Entry). LinksBehind (origin_of new.setting) ms e) front (h.links i e here),
              )
          | inr le ↦
              let next = g.gained i e le got in
              let lt = slice_get_within new.members i e got in
              let many : length (take i new.members) ≡ i = length_take i new.members (omega arith) in (
                chosen_grows (votes_read new) votes (voters_behind (origin_of new.setting) (take i new.members)) (i + 1) e grows
                    (subst (λ (n : ℕ). ChosenBy (votes_read new) (voters_behind (origin_of new.setting) (take i new.members)) (n + 1) e) many next.chosen),
                next.links,
              )
        ]

pub known_gained : (mid new : ChainView) (desk : DeskView) → ChainGrows mid new → new.lists ≡ mid.lists → IsOfDesk mid desk → IsOfDesk new desk
known_gained mid new desk g e h = record {
  services = ap (λ (s : Setting). s.services) g.setting ∙ h.services;
  client = subst (λ (s : Setting). desk.client < s.clients) (sym g.setting) h.client;
  known = λ setting told.
      let k = h.known setting told in
      let read : (s : ℕ) → IsPrefix (texts_read new s) (vote_texts (log_in desk.pass.lists s)) = λ s. subst (λ (t : List (List ℕ)). IsPrefix t (vote_texts (log_in desk.pass.lists s))) (sym (like_texts mid new e s)) (k.read s) in
      record {
        setting_is = k.setting_is ∙ sym g.setting;
        linked =
            linked_on (votes_told desk.pass.lists) mid new (votes_by new desk read) g
            (subst (λ (s : Setting). IsLinked (votes_told desk.pass.lists) (origin_of s) mid.members) (sym g.setting) k.linked);
        read = read;
      };
}

-- what the law of linked lists says of their fronts
abbrev pub FrontLinked : Type 0
FrontLinked = (votes : ℕ → List Record) (origin : Origin) (c : List Entry) (n : ℕ) → IsLinked votes origin c → IsLinked votes origin (take n c)

-- no position is split
pub one_told : (new : ChainView) (desk : DeskView) (setting : Setting) → FrontLinked → Agrees (votes_told desk.pass.lists) (origin_of setting) → IsKnown new desk setting → (k : ℕ) (first second : List ℕ) → IsSplit new k first second → ⊥
one_told new desk setting front agrees known k first second s = s.differ (one k s.one s.other (is s.one s.one_chosen) (is s.other s.other_chosen))
  where
    one : Agrees (votes_told desk.pass.lists) (origin_of new.setting)
    one = subst (λ (x : Setting). Agrees (votes_told desk.pass.lists) (origin_of x)) known.setting_is agrees

    is : (e : Entry) → ChosenBy (votes_read new) (voters_behind (origin_of new.setting) (take s.members new.members)) k e → IsChosen (votes_told desk.pass.lists) (origin_of new.setting) k e
    is e c = record {
      members = take s.members new.members;
      linked = front (votes_told desk.pass.lists) (origin_of new.setting) new.members s.members known.linked;
      at = s.at ∙ ap (λ (n : ℕ). n + 1) (sym (length_take s.members new.members s.within));
      chosen = chosen_grows (votes_read new) (votes_told desk.pass.lists) (voters_behind (origin_of new.setting) (take s.members new.members)) k e (votes_by new desk known.read) c;
    }

-- ---- what it answers

pub learns_by : (old new : ChainView) (b a : DeskView) (failed : List ℕ) (r : Result Learnt Refusal) → AnswersOf new failed r → ReadsAll old new b a failed → IsWhole new
    → ((k : ℕ) (first second : List ℕ) → IsSplit new k first second → OnTold b ⊥) → Learns old new b a r
learns_by old new b a failed (Ok learnt) h reads whole one = record {
  reads = record { failed = failed; reads = reads; enough = h.0 };
  one = h.1;
  whole = whole;
  end = h.2;
  seen = h.3;
}
learns_by old new b a failed (Err (refusals.NoMajority services)) h reads whole one = (subst (ReadsAll old new b a) (sym h.0) reads, subst (LacksMajority new) (sym h.0) h.1, whole)
learns_by old new b a failed (Err (refusals.Split position first second)) h reads whole one = (record { failed = failed; reads = reads; enough = h.0 }, h.1, one position first.0 second.0 h.1)
learns_by old new b a failed (Err refusal) h reads whole one = absurd h
