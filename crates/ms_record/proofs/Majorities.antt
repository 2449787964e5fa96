-- Two majorities of the same voters share a voter.
use Rattle.std.proofs.Common.{◌≡◌, ℕ, ◌+◌, ◌<◌, Bool, true, false, List, [], ◌∷◌, length, count_by, cond, ap, ◌∙◌, refl, arith}
use Rattle.ms_base.specs.CountLaws.{count_known}
use Rattle.ms_record.specs.Votes.{IsMajority}

meet_step : (p q : ℕ → Bool) (x : ℕ) (xs : List ℕ) (a b : Bool) → p x ≡ a → q x ≡ b
    → (length xs < count_by p xs + count_by q xs → (s : ℕ) × (p s ≡ true) × (q s ≡ true))
    → length (x ∷ xs) < count_by p (x ∷ xs) + count_by q (x ∷ xs) → (s : ℕ) × (p s ≡ true) × (q s ≡ true)
meet_step p q x xs true true pa qb rest h = (x, pa, qb)
meet_step p q x xs true false pa qb rest h = rest (omega (arith, count_known p x xs _ pa, count_known q x xs _ qb))
meet_step p q x xs false true pa qb rest h = rest (omega (arith, count_known p x xs _ pa, count_known q x xs _ qb))
meet_step p q x xs false false pa qb rest h = rest (omega (arith, count_known p x xs _ pa, count_known q x xs _ qb))

parts_meet : (p q : ℕ → Bool) (xs : List ℕ) → length xs < count_by p xs + count_by q xs → (s : ℕ) × (p s ≡ true) × (q s ≡ true)
parts_meet p q [] h = absurd (omega arith)
parts_meet p q (x ∷ xs) h = meet_step p q x xs (p x) (q x) refl refl (parts_meet p q xs) h

pub majorities_meet : (p q : ℕ → Bool) (voters : List ℕ) → IsMajority p voters → IsMajority q voters → (s : ℕ) × (p s ≡ true) × (q s ≡ true)
majorities_meet p q voters a b = parts_meet p q voters (omega (arith, a.more_than_half, b.more_than_half))
