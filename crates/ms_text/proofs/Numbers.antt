-- A number has one spelling: `decimal`.
use Rattle.std.proofs.Common.{◌≡◌, ◌≢◌, ℕ, zero, suc, ◌+◌, ◌-◌, ◌*◌, ◌^◌, ◌<◌, ◌≤◌, Bool, true, false, List, [], ◌∷◌, Option, Some, None, inl, inr, refl, sym, ap, ◌∙◌, subst, cond, length, get_or, arith, rules}
use Rattle.std.specs.Prelude.{nat_le, nat_lt, ◌&&◌, ◌||◌, ◌==◌, slice_index}
use Rattle.std.proofs.lemmas.Option.{option_and_then_some, cond_some}
use Rattle.std.specs.Char.{is_ascii_digit}
use Rattle.std.proofs.lemmas.Bool.{leb-true, le-leb, lt-ltb, cases_lt}
use Rattle.std.proofs.lemmas.Bool.Decides.{nat_tests}
use Rattle.std.specs.Str.{all_ascii_digits}
use Rattle.std.specs.Fmt.{decimal}
use Rattle.std.proofs.lemmas.Str.Parse.{IsNumeralModel, numerals_by_fold}
use Rattle.std.proofs.lemmas.Fmt.{decimal-digits_value, digits_decimal, digits_value-decimal, first_decimal, decimal_nonempty, decimal_digit}
use Rattle.ms_text.specs.Words.{HasNoSpace, one_more, digits_on, number_at}

abbrev pub read_on : ℕ → List ℕ → ℕ
read_on n [] = n
read_on n (c ∷ cs) = read_on (n * 10 + (c - 48)) cs

pub own : IsNumeralModel (λ ds. all_ascii_digits ds ≡ true) (read_on 0)
own = numerals_by_fold _ (search rules) read_on (search rules)

grows : (n : ℕ) (ds : List ℕ) → n ≤ read_on n ds
grows n [] = omega arith
grows n (c ∷ cs) = let h = grows (n * 10 + (c - 48)) cs in omega arith

none_some : (b : Bool) (o : Option ℕ) (n : ℕ) → cond b None o ≡ Some n → (b ≡ false) × (o ≡ Some n)
none_some true o n h = absurd cc
none_some false o n h = (refl, h)

split : (a b : Bool) → (a && b) ≡ true → (a ≡ true) × (b ≡ true)
split true true h = (refl, refl)
split true false h = absurd cc
split false b h = absurd cc

step : (most a c m : ℕ) → one_more most a c ≡ Some m → (is_ascii_digit c ≡ true) × (m ≡ a * 10 + (c - 48)) × (m ≤ most)
step most a c m h =
    let p = cond_some (nat_le 48 c && nat_le c 57 && nat_le (a * 10 + (c - 48)) most) (a * 10 + (c - 48)) m h in
    let q = split (nat_le 48 c && nat_le c 57) (nat_le (a * 10 + (c - 48)) most) p.0 in
    let l : a * 10 + (c - 48) ≤ most = leb-true (a * 10 + (c - 48)) most q.1 in
    (q.0, sym p.1, omega arith)

gives : (most a n : ℕ) (ds : List ℕ) → digits_on most a ds ≡ Some n → (all_ascii_digits ds ≡ true) × (read_on a ds ≡ n) × (a ≤ most → n ≤ most)
gives most a n [] h = let e : a ≡ n = cc in (refl, e, λ l. omega arith)
gives most a n (c ∷ cs) h =
    let p : (m : ℕ) × (one_more most a c ≡ Some m) × (digits_on most m cs ≡ Some n) = option_and_then_some (λ m. digits_on most m cs) (one_more most a c) n h (λ m e f. (m, e, f)) in
    let q = step most a c p.0 p.1 in
    let r = gives most p.0 n cs p.2 in
    (rw (q.0, r.0) refl, rw (← q.1) r.1, λ _. r.2 q.2)

again : (most a : ℕ) (ds : List ℕ) → all_ascii_digits ds ≡ true → read_on a ds ≤ most → digits_on most a ds ≡ Some (read_on a ds)
again most a [] h l = refl
again most a (c ∷ cs) h l =
    let q = split (is_ascii_digit c) (all_ascii_digits cs) h in
    let g = grows (a * 10 + (c - 48)) cs in
    let t : nat_le (a * 10 + (c - 48)) most ≡ true = le-leb (a * 10 + (c - 48)) most (omega arith) in
    let o : one_more most a c ≡ Some (a * 10 + (c - 48)) = rw (q.0, t) refl in
    rw o (again most (a * 10 + (c - 48)) cs q.1 l)

abbrev leads : List ℕ → Bool
leads word = length word == 0 || ((slice_index word 0 == 48) && nat_lt 1 (length word))

long : (b n : ℕ) → b ≡ 48 → nat_lt 1 n ≡ true → (n == 0 || ((b == 48) && nat_lt 1 n)) ≡ false → ⊥
long b n e t h = grind (arith, nat_tests)

shape : (word : List ℕ) → leads word ≡ false → (0 < length word) × (get_or word 0 0 ≡ 48 → length word ≡ 1)
shape [] h = absurd cc
shape (b ∷ []) h = (omega arith, λ _. refl)
shape (b ∷ c ∷ bs) h = (omega arith, λ e. absurd (let f : b ≡ 48 = e in let t : nat_lt 1 (length (b ∷ c ∷ bs)) ≡ true = lt-ltb 1 (length (b ∷ c ∷ bs)) (omega arith) in long b (length (b ∷ c ∷ bs)) f t h))

short_one : (x : Bool) → (x && false) ≡ false
short_one true = refl
short_one false = refl

other : (b n : ℕ) → (b ≢ 48) → 0 < n → (n == 0 || ((b == 48) && nat_lt 1 n)) ≡ false
other b n d p = grind (arith, nat_tests)

unled : (word : List ℕ) → 0 < length word → (get_or word 0 0 ≡ 48 → length word ≡ 1) → leads word ≡ false
unled [] some one = absurd (omega arith)
unled (b ∷ []) some one = short_one (b == 48)
unled (b ∷ c ∷ bs) some one = other b (length (b ∷ c ∷ bs)) (λ e. let k : length (b ∷ c ∷ bs) ≡ 1 = one e in omega arith) (omega arith)

-- what is read is a number's one spelling
pub read_is_decimal : (most n : ℕ) (word : List ℕ) → most < 2 ^ 64 → number_at most word ≡ Some n → (word ≡ decimal n) × (n ≤ most)
read_is_decimal most n word small h =
    let p = none_some (leads word) (digits_on most 0 word) n h in
    let r = gives most 0 n word p.1 in
    let le : n ≤ most = r.2 (omega arith) in
    let f = shape word p.0 in
    let d : decimal (read_on 0 word) ≡ word = decimal-digits_value own word r.0 f.0 f.1 (omega (arith, r.1)) in
    (sym d ∙ ap decimal r.1, le)

-- and each number's one spelling is read
pub decimal_is_read : (most n : ℕ) (word : List ℕ) → most < 2 ^ 64 → word ≡ decimal n → n ≤ most → number_at most word ≡ Some n
decimal_is_read most n word small is le =
    let digits : all_ascii_digits word ≡ true = rw is (digits_decimal own n (omega arith)) in
    let value : read_on 0 word ≡ n = rw is (digits_value-decimal own n (omega arith)) in
    let first : (0 < n) → 48 < get_or word 0 0 = λ p. rw is (first_decimal n p (omega arith)) in
    let some : 0 < length word = rw is (decimal_nonempty n (omega arith)) in
    let zero_is : n ≡ 0 → length word ≡ 1 = λ z. ap length is ∙ ap (λ (m : ℕ). length (decimal m)) z ∙ ap length (decimal_digit 0 (omega arith)) in
    let none : leads word ≡ false = unled word some (λ e. elim (cases_lt 0 n) [ inl p ↦ let f : 48 < get_or word 0 0 = first p in absurd (omega arith) | inr z ↦ zero_is (omega arith) ]) in
    rw none (rw value at (again most 0 word digits (omega (arith, value))))

-- no space is a digit
no_space_in : (word : List ℕ) → all_ascii_digits word ≡ true → HasNoSpace word
no_space_in [] h i l e = absurd (omega arith)
no_space_in (c ∷ cs) h zero l e =
    let q = split (is_ascii_digit c) (all_ascii_digits cs) h in
    let space : is_ascii_digit 32 ≡ true = subst (λ (b : ℕ). is_ascii_digit b ≡ true) e q.0 in
    cc
no_space_in (c ∷ cs) h (suc i) l e = no_space_in cs (split (is_ascii_digit c) (all_ascii_digits cs) h).1 i (omega arith) e

pub numbers_no_space : (n : ℕ) → n < 2 ^ 64 → HasNoSpace (decimal n)
numbers_no_space n small = no_space_in (decimal n) (digits_decimal own n (omega (arith, small)))
