-- Votes whose ballots do not fall, searched by ballot.
use Rattle.std.proofs.Common.{◌≡◌, ◌≢◌, ℕ, zero, suc, ◌+◌, ◌-◌, ◌<◌, ◌≤◌, Bool, true, false, ◌&&◌, ◌||◌, nat_eq, nat_lt, List, [], ◌∷◌, Some, inl, inr, refl, sym, ap, ◌∙◌, subst, slice_get, length, drop, get_or, Contains, arith}
use Rattle.std.specs.List.Sorted.{IsPartitionedBy, IsPartitionPoint}
use Rattle.std.proofs.lemmas.Bool.{cases_Bool, cases_lt}
use Rattle.std.proofs.lemmas.Bool.Decides.{nat_tests}
use Rattle.std.proofs.lemmas.Option.{slice_get-get_or, slice_get_read, slice_get_within, get_or_from_slice_get}
use Rattle.ms_world.specs.Passes.{AreRising}
use Rattle.ms_base.specs.Places.{some_same}
use Rattle.ms_record.specs.declared.ballot.Ballot.{Ballot}
use Rattle.ms_record.specs.declared.ballot.Vote.{Vote}
use Rattle.ms_record.specs.Ballots.{IsAtMost, IsBelow}

-- whether a ballot is below another, as a test
abbrev pub below : Ballot → Ballot → Bool
below b c = nat_lt b.round c.round || (nat_eq b.round c.round && nat_lt b.client.0 c.client.0)

test_below : (b c : Ballot) → below b c ≡ true → IsBelow b c
test_below b c h = (grind (arith, nat_tests), grind (arith, nat_tests))

test_not_below : (b c : Ballot) → below b c ≡ false → IsAtMost c b
test_not_below b c h = (grind (arith, nat_tests), grind (arith, nat_tests))

below_test : (b c : Ballot) → IsBelow b c → below b c ≡ true
below_test b c h = grind (arith, nat_tests)

pub same_test : (b c : Ballot) (r : Bool) → (r ≡ true → IsBelow b c) × (IsBelow b c → r ≡ true) → r ≡ below b c
same_test b c true h = sym (below_test b c (h.0 refl))
same_test b c false h = elim (cases_Bool (below b c)) [ inl so ↦ (let q = h.1 (test_below b c so) in cc) | inr none ↦ sym none ]

below_by : (a b c : Ballot) → IsAtMost a b → IsBelow b c → IsBelow a c
below_by a b c l m = grind arith

pub partitioned : (votes : List Vote) (b : Ballot) → AreRising votes → IsPartitionedBy (λ (v : Vote). below v.ballot b) votes
partitioned votes b rising i j d l w t =
    let up = rising i j (get_or votes i d) (get_or votes j d) l (slice_get-get_or votes i d (omega arith)) (slice_get-get_or votes j d w) in
    below_test (get_or votes i d).ballot b (below_by (get_or votes i d).ballot (get_or votes j d).ballot b up (test_below (get_or votes j d).ballot b t))

module _ (votes : List Vote) (b : Ballot) (from : ℕ) (point : IsPartitionPoint (λ (v : Vote). below v.ballot b ≡ true) (λ (v : Vote). below v.ballot b ≡ false) votes from) where
  pub point_before : (i : ℕ) (v : Vote) → i < from → slice_get votes i ≡ Some v → IsBelow v.ballot b
  point_before i v l at = test_below v.ballot b (subst (λ (x : Vote). below x.ballot b ≡ true) (get_or_from_slice_get votes i v v at) (point.0 i v (omega arith) l))

  pub point_behind : (i : ℕ) (v : Vote) → from ≤ i → slice_get votes i ≡ Some v → IsAtMost b v.ballot
  point_behind i v l at = test_not_below v.ballot b (subst (λ (x : Vote). below x.ballot b ≡ false) (get_or_from_slice_get votes i v v at) (point.1 i v l (slice_get_within votes i v at)))

place_behind : {X : Type 0} (xs : List X) (from j : ℕ) → slice_get (drop from xs) j ≡ slice_get xs (from + j)
place_behind xs zero j = ap (slice_get xs) (let e : j ≡ 0 + j = omega arith in e)
place_behind [] (suc from) j = refl
place_behind (x ∷ xs) (suc from) j = place_behind xs from j ∙ ap (slice_get (x ∷ xs)) (let e : suc (from + j) ≡ suc from + j = omega arith in e)

not_below_itself : (b c : Ballot) → IsBelow b c → IsAtMost c b → ⊥
not_below_itself b c l m = grind arith

-- one vote more that is another
pub another_more : (rest : List Vote) (n : ℕ) (vote other : Vote) (same : Bool) → n < length rest → other ≡ get_or rest n other → same ≡ false → (same ≡ true → other ≡ vote) × (other ≡ vote → same ≡ true)
    → ((i : ℕ) (v : Vote) → i < n → slice_get rest i ≡ Some v → v ≢ vote) → (i : ℕ) (v : Vote) → i < n + 1 → slice_get rest i ≡ Some v → v ≢ vote
another_more rest n vote other same l is none test before i v w at e =
    elim (cases_lt i n) [
      | inl less ↦ before i v less at e
      | inr last ↦
          let q : i ≡ n = omega arith in
          let r : Some other ≡ Some v = sym (slice_get_read rest (length rest) n other refl l is) ∙ ap (slice_get rest) (sym q) ∙ at in
          let t = test.1 (some_same other v r ∙ e) in cc
    ]

-- among the votes from the ballot on the first ones are others, and behind them the list ends or a greater ballot stands
pub absent : (votes rest : List Vote) (from n : ℕ) (vote : Vote) → AreRising votes → rest ≡ drop from votes → ((i : ℕ) (v : Vote) → i < from → slice_get votes i ≡ Some v → IsBelow v.ballot vote.ballot)
    → ((i : ℕ) (v : Vote) → i < n → slice_get rest i ≡ Some v → v ≢ vote) → ((v : Vote) → slice_get rest n ≡ Some v → IsBelow vote.ballot v.ballot) → Contains votes vote → ⊥
absent votes rest from n vote rising is before passed ends c =
    let at : slice_get votes c.0 ≡ Some vote = slice_get_read votes (length votes) c.0 vote refl c.1 (sym c.2) in
    elim (cases_lt c.0 from) [
      | inl less ↦ not_below_itself vote.ballot vote.ballot (before c.0 vote less at) (omega arith, λ _. omega arith)
      | inr more ↦
          let place : (i : ℕ) → slice_get rest i ≡ slice_get votes (from + i) = λ i. ap (λ (vs : List Vote). slice_get vs i) is ∙ place_behind votes from i in
          let here : slice_get rest (c.0 - from) ≡ Some vote = place (c.0 - from) ∙ ap (slice_get votes) (let e : from + (c.0 - from) ≡ c.0 = omega (arith, more) in e) ∙ at in
          elim (cases_lt (c.0 - from) n) [
            | inl front ↦ passed (c.0 - from) vote front here refl
            | inr behind ↦
                let w = slice_get_within rest (c.0 - from) vote here in
                let there = slice_get-get_or rest n vote (omega arith) in
                let up = rising (from + n) c.0 (get_or rest n vote) vote (omega (arith, more, behind)) (sym (place n) ∙ there) at in
                not_below_itself vote.ballot (get_or rest n vote).ballot (ends (get_or rest n vote) there) up
          ]
    ]

-- the two ways to end
pub ends_below : (rest : List Vote) (n : ℕ) (vote other : Vote) → n < length rest → other ≡ get_or rest n other → IsBelow vote.ballot other.ballot → (v : Vote) → slice_get rest n ≡ Some v → IsBelow vote.ballot v.ballot
ends_below rest n vote other l is low v at =
    subst (λ (x : Vote). IsBelow vote.ballot x.ballot) (some_same other v (sym (slice_get_read rest (length rest) n other refl l is) ∙ at)) low

pub ends_past : (rest : List Vote) (n : ℕ) (vote : Vote) → length rest ≤ n → (v : Vote) → slice_get rest n ≡ Some v → IsBelow vote.ballot v.ballot
ends_past rest n vote past v at = let w = slice_get_within rest n v at in absurd (omega arith)

pub not_there : {P : Type 0} → (P → ⊥) → (false ≡ true → P) × (P → false ≡ true)
not_there out = (λ e. cc, λ p. absurd (out p))
