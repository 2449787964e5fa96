-- The first line of a text.
use Rattle.std.proofs.Common.{◌≡◌, ℕ, zero, suc, ◌+◌, ◌<◌, Bool, true, false, List, [], ◌∷◌, Some, None, inl, inr, refl, cond, length, take, drop, get_or, arith, add-one, lt-ltb}
use Rattle.std.specs.Prelude.{◌==◌, position, nat_lt}
use Rattle.std.specs.List.{position_or_len}
use Rattle.std.proofs.lemmas.List.Quantifiers.{position-Some}
use Rattle.std.proofs.lemmas.List.Sums.{fails_before_first}
use Rattle.std.proofs.lemmas.Bool.{cases_lt}
use Rattle.ms_text.specs.Lines.{lines_of}

abbrev pub is_end : ℕ → Bool
is_end b = b == 10

pub cut_here : (text : List ℕ) (at : ℕ) → at < length text → is_end (get_or text at 0) ≡ true → ((k : ℕ) → k < at → is_end (get_or text k 0) ≡ false)
    → lines_of text ≡ take at text ∷ lines_of (drop (suc at) text)
cut_here [] at within is before = absurd (omega arith)
cut_here (b ∷ bs) zero within is before = rw is refl
cut_here (b ∷ bs) (suc at) within is before =
    rw (before 0 (omega arith), cut_here bs at (omega arith) is (λ k l. before (suc k) (omega arith))) refl

pub one_line : (b : ℕ) (bs : List ℕ) → ((k : ℕ) → k < length (b ∷ bs) → is_end (get_or (b ∷ bs) k 0) ≡ false) → lines_of (b ∷ bs) ≡ (b ∷ bs) ∷ []
one_line b [] none = rw (none 0 (omega arith)) refl
one_line b (c ∷ bs) none = rw (none 0 (omega arith), one_line c bs (λ k l. none (suc k) (omega arith))) refl

pub cut_some : (text : List ℕ) (at : ℕ) → position is_end text ≡ Some at → lines_of text ≡ take at text ∷ lines_of (drop (at + 1) text)
cut_some text at is = let p = position-Some is_end text at 0 is in rw add-one (cut_here text at p.0 p.1 p.2)

no_none : (p n : ℕ) → p < n → cond (nat_lt p n) (Some p) None ≡ None → ⊥
no_none p n l is = let t : nat_lt p n ≡ true = lt-ltb p n l in let f = rw t at is in cc

pub cut_none : (text : List ℕ) → position is_end text ≡ None → 0 < length text → lines_of text ≡ text ∷ []
cut_none [] is some = absurd (omega arith)
cut_none (b ∷ bs) is some = one_line b bs (λ k l. elim (cases_lt k (position_or_len is_end (b ∷ bs))) [
  | inl before ↦ fails_before_first is_end (b ∷ bs) k 0 before
  | inr after ↦ let e : position_or_len is_end (b ∷ bs) < length (b ∷ bs) = omega arith in absurd (no_none (position_or_len is_end (b ∷ bs)) (length (b ∷ bs)) e is)
])
