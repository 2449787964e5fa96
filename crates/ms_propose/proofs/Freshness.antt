-- What was chosen at entry is in the chain.
use Rattle.std.proofs.Common.{◌≡◌, ℕ, ◌+◌, ◌*◌, ◌<◌, ◌≤◌, ◌==◌, ◌⊎◌, Bool, true, false, List, [], ◌∷◌, ◌++◌, Option, Some, None, inl, inr, refl, sym, ap, ◌∙◌, subst, length, count_by, arith, take}
use Rattle.std.specs.Prelude.{Contains}
use Rattle.std.specs.List.{list_any}
use Rattle.std.proofs.Math.Seq.{take-length}
use Rattle.std.proofs.lemmas.Bool.{cases_lt}
use Rattle.std.proofs.lemmas.List.{length-take}
use mathlib.Core.List.{IsPrefix}
use Rattle.ms_base.specs.CountLaws.{count_known}
use Rattle.ms_base.specs.Places.{some_or_past}
use Rattle.ms_core.specs.Closing.{logs_grow}
use Rattle.ms_core.specs.Views.{IsClosed, Tells, View, log_in, votes_told}
use Rattle.ms_record.specs.declared.entry.Entry.{Entry}
use Rattle.ms_record.specs.declared.record.Record.{Record}
use Rattle.ms_record.specs.declared.setting.Setting.{Setting}
use Rattle.ms_record.specs.Chains.{IsChosen, IsLinked, Origin, voters_behind}
use Rattle.ms_record.specs.Growing.{is_chosen_grows, linked_grows, taken_grows, votes_grow}
use Rattle.ms_record.specs.Logs.{vote_texts}
use Rattle.ms_record.specs.Offers.{GrowsTo}
use Rattle.ms_record.specs.Reading.{record_at, votes_of, with_record}
use Rattle.ms_record.specs.Settings.{origin_of}
use Rattle.ms_record.specs.Votes.{ChosenBy}
use Rattle.ms_local.specs.declared.deed.Deed.{Deed}
use Rattle.ms_local.specs.declared.deed.Deed.TheVariants.{Listed}
use Rattle.ms_local.specs.declared.learner.Learnt.{Learnt}
use Rattle.ms_local.specs.Desks.{DeskView, KnowsTold, OnTold}
use Rattle.ms_local.specs.Learning.{ChainView, HasHalf, IsFailed, IsLearnt, IsOfDesk, IsSeen, ReadsAll, ReadsEnough, ReadsOn, texts_read, votes_read}
use Rattle.ms_propose.specs.Catching.{IsUpToDate}
use Rattle.ms_propose.specs.Going.{DeskBids}
use Rattle.ms_propose.proofs.Composing.{bids_self, bids_services}
use Rattle.ms_propose.proofs.Lists.{member_is}

-- ---- counting

more_step : (p q : ℕ → Bool) (x : ℕ) (xs : List ℕ) (a b : Bool) → p x ≡ a → q x ≡ b → (count_by q xs < count_by p xs → (s : ℕ) × (p s ≡ true) × (q s ≡ false)) → count_by q (x ∷ xs) < count_by p (x ∷ xs)
    → (s : ℕ) × (p s ≡ true) × (q s ≡ false)
more_step p q x xs true false pa qb rest h = (x, pa, qb)
more_step p q x xs true true pa qb rest h = rest (omega (arith, h, count_known p x xs true pa, count_known q x xs true qb))
more_step p q x xs false true pa qb rest h = rest (omega (arith, h, count_known p x xs false pa, count_known q x xs true qb))
more_step p q x xs false false pa qb rest h = rest (omega (arith, h, count_known p x xs false pa, count_known q x xs false qb))

-- where more are in the one part than in the other, one is in that part alone
one_more_there : (p q : ℕ → Bool) (xs : List ℕ) → count_by q xs < count_by p xs → (s : ℕ) × (p s ≡ true) × (q s ≡ false)
one_more_there p q [] h = absurd (omega (arith, h))
one_more_there p q (x ∷ xs) h = more_step p q x xs (p x) (q x) refl refl (one_more_there p q xs) h

-- ---- texts

votes_more : (a b : List (List ℕ)) → votes_of (a ++ b) ≡ votes_of a ++ votes_of b
votes_more [] b = refl
votes_more (text ∷ a) b = ap (with_record (record_at text)) (votes_more a b) ∙ by (record_at text) where
  by : (o : Option Record) → with_record o (votes_of a ++ votes_of b) ≡ with_record o (votes_of a) ++ votes_of b
  by None = refl
  by (Some r) = refl

votes_prefix : (a b : List (List ℕ)) → IsPrefix a b → IsPrefix (votes_of a) (votes_of b)
votes_prefix a b p = (votes_of p.0, sym (votes_more a p.0) ∙ ap votes_of p.1)

-- ---- what comes next

abbrev pub OneList : Type 0
OneList = (view : View) (setting : Setting) → Tells view setting → (c d : List Entry) → IsLinked (votes_told view) (origin_of setting) c → IsLinked (votes_told view) (origin_of setting) d → length c ≡ length d → c ≡ d

abbrev pub Fronts : Type 0
Fronts = (votes : ℕ → List Record) (origin : Origin) (c : List Entry) (n : ℕ) → IsLinked votes origin c → IsLinked votes origin (take n c)

-- where an entry was chosen past the members of a linked list, one was chosen behind them
pub next_chosen : OneList → Fronts → (view : View) (setting : Setting) (votes : ℕ → List Record) (members : List Entry) (k : ℕ) (e : Entry) → Tells view setting → GrowsTo votes (votes_told view)
    → IsLinked (votes_told view) (origin_of setting) members → IsChosen votes (origin_of setting) k e → length members < k → (f : Entry) × ChosenBy votes (voters_behind (origin_of setting) members) (length members + 1) f
next_chosen one front view setting votes members k e tells grows linked h past = elim (some_or_past h.members (length members)) [
  | inl x ↦ (x.0, subst (λ (c : List Entry). ChosenBy votes (voters_behind (origin_of setting) c) (length members + 1) x.0) same (h.linked.chosen (length members) x.0 x.1))
  | inr short ↦ (
      let all : length h.members ≡ length members = omega (arith, short, past, h.at) in
      let is : h.members ≡ members = one view setting tells h.members members there linked all in
      let at : k ≡ length members + 1 = omega (arith, h.at, all) in
      (e, subst (λ (i : ℕ). ChosenBy votes (voters_behind (origin_of setting) members) i e) at (subst (λ (c : List Entry). ChosenBy votes (voters_behind (origin_of setting) c) k e) is h.chosen))
      )
] where
  there : IsLinked (votes_told view) (origin_of setting) h.members
  there = linked_grows votes (votes_told view) (origin_of setting) h.members grows h.linked

  long : length members ≤ length h.members
  long = omega (arith, past, h.at)

  same : take (length members) h.members ≡ members
  same = one view setting tells (take (length members) h.members) members (front (votes_told view) (origin_of setting) h.members (length members) there) linked (omega (arith, length-take (length members) h.members, long))

-- ---- what was read

-- the service's list was read as far as it was known, or the reading failed
read_or_failed : (old new : ChainView) (a b : DeskView) (s : ℕ) (deed : Deed) (setting : Setting) → KnowsTold a setting → ReadsOn old new a b s deed → IsPrefix (vote_texts (log_in a.pass.lists s)) (texts_read new s) ⊎ IsFailed deed
read_or_failed old new a b s (Listed service list from count true) setting told h = inl (h.3.1 setting told)
read_or_failed old new a b s (Listed service list from count false) setting told h = inr refl
read_or_failed old new a b s deed setting told h = absurd h

fresh_at : (old new : ChainView) (a b : DeskView) (failed : List ℕ) (s : ℕ) (setting : Setting) → KnowsTold a setting → ReadsAll old new a b failed → s < a.services → list_any (λ (f : ℕ). f == s) failed ≡ false
    → IsPrefix (vote_texts (log_in a.pass.lists s)) (texts_read new s)
fresh_at old new a b failed s setting told reads below free = elim (some_or_past reads.more s) [
  | inl x ↦ elim (read_or_failed old new a b s x.0 setting told (reads.each s x.0 x.1)) [
    | inl read ↦ read
    | inr fails ↦ absurd (let q : false ≡ true = sym free ∙ member_is failed s ((reads.failed_are s).1 (x.0, x.1, fails)) in cc)
  ]
  | inr past ↦ absurd (omega (arith, past, reads.all, below))
]

-- what was chosen behind the end before the reading is seen
pub seen_next : (old new : ChainView) (a b : DeskView) (setting : Setting) (seen : ℕ) (f : Entry) → KnowsTold a setting → ReadsEnough old new a b → IsSeen new seen
    → ((s : ℕ) → Contains (voters_behind (origin_of new.setting) new.members) s → s < a.services)
    → ChosenBy (votes_told a.pass.lists) (voters_behind (origin_of new.setting) new.members) (length new.members + 1) f → length new.members + 1 ≤ seen
seen_next old new a b setting seen f told reads is_seen below chosen =
    let voters = voters_behind (origin_of new.setting) new.members in
    let fails : ℕ → Bool = λ s. list_any (λ (x : ℕ). x == s) reads.failed in
    let few : 2 * count_by fails voters < length voters = elim (cases_lt (2 * count_by fails voters) (length voters)) [
      | inl l ↦ l
      | inr half ↦ absurd (reads.enough (record { members = length new.members; within = omega arith; half = subst (λ (c : List Entry). HasHalf reads.failed (voters_behind (origin_of new.setting) c)) (sym (take-length new.members)) half }))
    ] in
    let x = one_more_there chosen.part fails voters (omega (arith, few, chosen.majority.more_than_half)) in
    let s = x.0 in
    let read = fresh_at old new a b reads.failed s setting told reads.reads (below s (chosen.majority.within s x.1)) x.2 in
    let p = votes_prefix (vote_texts (log_in a.pass.lists s)) (texts_read new s) read in
    let t = chosen.taken s x.1 in
    is_seen.none_above s t.0 (length new.members + 1) chosen.ballot f (taken_grows (votes_told a.pass.lists s) (votes_read new s) p.0 t.0 (length new.members + 1) chosen.ballot f p.1 t.1)

-- ---- the end

abbrev pub KnownVoters : Type 0
KnownVoters = (view : View) (setting : Setting) (c : List Entry) (service : ℕ) → Tells view setting → IsLinked (votes_told view) (origin_of setting) c → Contains (voters_behind (origin_of setting) c) service → service < setting.services

votes_later : (a b : DeskView) → DeskBids a b → GrowsTo (votes_told a.pass.lists) (votes_told b.pass.lists)
votes_later a b goes = votes_grow (log_in a.pass.lists) (log_in b.pass.lists) (logs_grow a.pass.lists b.pass.lists goes.more)

-- nothing was to be settled behind the end
pub all_settled : OneList → Fronts → (chain : ChainView) (first now : DeskView) (end : ℕ) → end ≡ length chain.members → DeskBids first now → IsClosed now.pass.lists → IsOfDesk chain now
    → OnTold now ((e : Entry) → ChosenBy (votes_told now.pass.lists) (voters_behind (origin_of chain.setting) chain.members) (length chain.members + 1) e → ⊥) → IsUpToDate first end
all_settled one front chain first now end is goes closed of_desk none setting told k e h =
    let known = of_desk.known setting (goes.told setting told) in
    let linked = subst (λ (x : Setting). IsLinked (votes_told now.pass.lists) (origin_of x) chain.members) (sym known.setting_is) known.linked in
    elim (cases_lt end k) [
      | inl past ↦ absurd (
          let c = is_chosen_grows (votes_told first.pass.lists) (votes_told now.pass.lists) (origin_of setting) k e (votes_later first now goes) h in
          let f = next_chosen one front now.pass.lists setting (votes_told now.pass.lists) chain.members k e (record { closed = closed; told = goes.told setting told }) (votes_later now now (bids_self now)) linked c (omega (arith, past, is)) in
          none setting (goes.told setting told) f.0 (subst (λ (x : Setting). ChosenBy (votes_told now.pass.lists) (voters_behind (origin_of x) chain.members) (length chain.members + 1) f.0) known.setting_is f.1)
          )
      | inr up ↦ up
    ]

-- nothing is seen behind the end
pub up_to_date : OneList → Fronts → KnownVoters → (old chain : ChainView) (first before now : DeskView) (learnt : Learnt) → DeskBids first before → DeskBids before now → IsClosed now.pass.lists → IsOfDesk chain now
    → IsLearnt old chain before now learnt → learnt.seen ≤ learnt.end → IsUpToDate first learnt.end
up_to_date one front voters old chain first before now learnt early late closed of_desk learns low setting told k e h =
    let was = early.told setting told in
    let is = late.told setting was in
    let known = of_desk.known setting is in
    let tells : Tells now.pass.lists setting = record { closed = closed; told = is } in
    let linked = subst (λ (x : Setting). IsLinked (votes_told now.pass.lists) (origin_of x) chain.members) (sym known.setting_is) known.linked in
    elim (cases_lt learnt.end k) [
      | inl past ↦ absurd (
          let c = is_chosen_grows (votes_told first.pass.lists) (votes_told before.pass.lists) (origin_of setting) k e (votes_later first before early) h in
          let f = next_chosen one front now.pass.lists setting (votes_told before.pass.lists) chain.members k e tells (votes_later before now late) linked c (omega (arith, past, learns.end)) in
          let below : (s : ℕ) → Contains (voters_behind (origin_of chain.setting) chain.members) s → s < before.services = λ s v.
          omega (
            arith,
            voters now.pass.lists setting chain.members s tells linked (subst (λ (x : Setting). Contains (voters_behind (origin_of x) chain.members) s) (sym known.setting_is) v),
            ap (λ (x : Setting). x.services) known.setting_is,
            of_desk.services,
            bids_services before now late,
          ) in
          omega (
            arith,
            low,
            learns.end,
            seen_next old chain before now setting learnt.seen f.0 was learns.reads learns.seen below
                (subst (λ (x : Setting). ChosenBy (votes_told before.pass.lists) (voters_behind (origin_of x) chain.members) (length chain.members + 1) f.0) known.setting_is f.1),
          )
          )
      | inr up ↦ up
    ]
