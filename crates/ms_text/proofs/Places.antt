-- The first place of a byte, however it was found.
use Rattle.std.proofs.Common.{◌≡◌, ℕ, zero, suc, ◌+◌, ◌<◌, Bool, true, false, List, [], ◌∷◌, Option, Some, None, refl, length, get_or, arith, lt-ltb}
use Rattle.std.specs.Prelude.{position, nat_lt}
use Rattle.std.specs.List.{position_or_len}
use Rattle.std.proofs.lemmas.Bool.{le-ltb}
use Rattle.memchr.specs.Find.{IsFirstByte, is_byte}

unless_true : (b : Bool) → (b ≡ true → ⊥) → b ≡ false
unless_true true h = absurd (h refl)
unless_true false h = refl

stands_at : (test : ℕ → Bool) (text : List ℕ) (k : ℕ) → k < length text → test (get_or text k 0) ≡ true → ((j : ℕ) → j < k → test (get_or text j 0) ≡ false) → position_or_len test text ≡ k
stands_at test [] k within is before = absurd (omega arith)
stands_at test (b ∷ bs) zero within is before = rw is refl
stands_at test (b ∷ bs) (suc k) within is before =
    let e : 1 + k ≡ suc k = omega arith in
    rw (before 0 (omega arith), stands_at test bs k (omega arith) is (λ j l. before (suc j) (omega arith))) e

stands_nowhere : (test : ℕ → Bool) (text : List ℕ) → ((j : ℕ) → j < length text → test (get_or text j 0) ≡ false) → position_or_len test text ≡ length text
stands_nowhere test [] before = refl
stands_nowhere test (b ∷ bs) before =
    let e : 1 + length bs ≡ length (b ∷ bs) = omega arith in
    rw (before 0 (omega arith), stands_nowhere test bs (λ j l. before (suc j) (omega arith))) e

place_of : (test : ℕ → Bool) (text : List ℕ) (r : Option ℕ) → IsFirstByte test text r → r ≡ position test text
place_of test text None h =
    let none : position_or_len test text ≡ length text = stands_nowhere test text (λ j l. unless_true (test (get_or text j 0)) (h j (omega arith) l)) in
    let past : nat_lt (position_or_len test text) (length text) ≡ false = le-ltb _ _ (omega (arith, none)) in
    rw past refl
place_of test text (Some k) h =
    let at : position_or_len test text ≡ k = stands_at test text k h.0.high h.1 (λ j l. unless_true (test (get_or text j 0)) (h.0.before j (omega arith) l)) in
    let within : nat_lt (position_or_len test text) (length text) ≡ true = lt-ltb _ _ (omega (arith, at, h.0.high)) in
    rw (within, at) refl

pub first_is_position : (byte : ℕ) (text : List ℕ) (r : Option ℕ) → IsFirstByte (is_byte byte) text r → r ≡ position (is_byte byte) text
first_is_position byte text r h = place_of (is_byte byte) text r h
