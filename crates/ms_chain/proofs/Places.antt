-- Places of lists, and tests of the services among some.
use Rattle.std.proofs.Common.{◌≡◌, ℕ, zero, suc, ◌+◌, ◌<◌, ◌≤◌, ◌==◌, List, [], ◌∷◌, ◌++◌, Some, None, ◌⊎◌, inl, inr, refl, sym, ap, ◌∙◌, slice_get, length, take, Bool, true, false, cond, ◌||◌, count_by, arith}
use Rattle.std.specs.List.{Contains, list_any}
use Rattle.std.proofs.lemmas.Bool.Decides.{nat_tests}
use Rattle.std.proofs.lemmas.List.Sums.{sum_by-cons}
use Rattle.std.proofs.lemmas.Map.Keys.{any_passes_from_place}
use Rattle.std.proofs.lemmas.Option.{slice_get_within, slice_get-get_or, get_or_from_slice_get}

pub some_same : {A : Type 0} (x y : A) → Some x ≡ Some y → x ≡ y
some_same x y e = cc e

pub place_left : {X : Type 0} (xs ys : List X) (i : ℕ) → i < length xs → slice_get (xs ++ ys) i ≡ slice_get xs i
place_left [] ys i h = absurd (omega arith)
place_left (x ∷ xs) ys zero h = refl
place_left (x ∷ xs) ys (suc i) h = place_left xs ys i (omega arith)

-- a place of the list with one item more is one of the list, or the one behind it
pub place_more : {X : Type 0} (xs : List X) (y : X) (i : ℕ) (m : X) → slice_get (xs ++ y ∷ []) i ≡ Some m
    → ((i < length xs) × (slice_get xs i ≡ Some m)) ⊎ ((i ≡ length xs) × (y ≡ m))
place_more [] y zero m h = inr (refl, some_same y m h)
place_more [] y (suc i) m h = absurd cc
place_more (x ∷ xs) y zero m h = inl (omega arith, h)
place_more (x ∷ xs) y (suc i) m h =
    elim (place_more xs y i m h) [
      | inl l ↦ inl (omega (arith, l.0), l.1)
      | inr r ↦ inr (omega (arith, r.0), r.1)
    ]

pub place_last : {X : Type 0} (xs : List X) (y : X) → slice_get (xs ++ y ∷ []) (length xs) ≡ Some y
place_last [] y = refl
place_last (x ∷ xs) y = place_last xs y

pub place_take : {X : Type 0} (n : ℕ) (xs : List X) (i : ℕ) (m : X) → slice_get (take n xs) i ≡ Some m → (i < n) × (slice_get xs i ≡ Some m)
place_take zero xs i m h = (let q : None ≡ Some m = h in cc)
place_take (suc n) [] i m h = (let q : None ≡ Some m = h in cc)
place_take (suc n) (x ∷ xs) zero m h = (omega arith, h)
place_take (suc n) (x ∷ xs) (suc i) m h = let r = place_take n xs i m h in (omega (arith, r.0), r.1)

pub take_left : {X : Type 0} (n : ℕ) (xs ys : List X) → n ≤ length xs → take n (xs ++ ys) ≡ take n xs
take_left zero xs ys l = refl
take_left (suc n) [] ys l = absurd (omega arith)
take_left (suc n) (x ∷ xs) ys l = ap (λ t. x ∷ t) (take_left n xs ys (omega arith))

pub take_all : {X : Type 0} (xs : List X) → take (length xs) xs ≡ xs
take_all [] = refl
take_all (x ∷ xs) = ap (λ t. x ∷ t) (take_all xs)

pub length_more : {X : Type 0} (xs : List X) (y : X) → length (xs ++ y ∷ []) ≡ length xs + 1
length_more [] y = refl
length_more (x ∷ xs) y = let e = length_more xs y in omega (arith, e)

pub length_take : {X : Type 0} (n : ℕ) (xs : List X) → n ≤ length xs → length (take n xs) ≡ n
length_take zero xs l = refl
length_take (suc n) [] l = absurd (omega arith)
length_take (suc n) (x ∷ xs) l = let e = length_take n xs (omega arith) in omega (arith, e)

-- ---- tests

any_at : {X : Type 0} (p : X → Bool) (xs : List X) → list_any p xs ≡ true → (i : ℕ) × (x : X) × (slice_get xs i ≡ Some x) × (p x ≡ true)
any_at p [] h = cc
any_at p (x ∷ xs) h = any_step p x xs (p x) refl (any_at p xs) h
  where
    any_step : {X : Type 0} (p : X → Bool) (x : X) (xs : List X) (b : Bool) → p x ≡ b → (list_any p xs ≡ true → (i : ℕ) × (y : X) × (slice_get xs i ≡ Some y) × (p y ≡ true))
        → (b || list_any p xs) ≡ true → (i : ℕ) × (y : X) × (slice_get (x ∷ xs) i ≡ Some y) × (p y ≡ true)
    any_step p x xs true e rest h = (zero, x, refl, e)
    any_step p x xs false e rest h = let r = rest h in (suc r.0, r.1, r.2, r.3)

number_is : (m n : ℕ) → (m == n) ≡ true → m ≡ n
number_is m n h = grind (arith, nat_tests)

-- a test for a number among some holds exactly where it is one of them
pub among_is : (services : List ℕ) (s : ℕ) → list_any (λ v. v == s) services ≡ true → Contains services s
among_is services s h =
    let a = any_at (λ v. v == s) services h in
    (a.0, slice_get_within services a.0 a.1 a.2, get_or_from_slice_get services a.0 a.1 s a.2 ∙ number_is a.1 s a.3)

pub is_among : (services : List ℕ) (s : ℕ) → Contains services s → list_any (λ v. v == s) services ≡ true
is_among services s c = any_passes_from_place (λ v. v == s) services c.0 s (slice_get-get_or services c.0 s c.1 ∙ ap (λ (n : ℕ). Some n) c.2) (grind (arith, nat_tests))

pub bool_same : (a b : Bool) → (a ≡ true → b ≡ true) → (b ≡ true → a ≡ true) → a ≡ b
bool_same true b f g = sym (f refl)
bool_same false true f g = g refl
bool_same false false f g = refl

abbrev counted : Bool → ℕ
counted b = cond b 1 0

-- where a test counts some, one passes it
passes_step : (p : ℕ → Bool) (x : ℕ) (xs : List ℕ) (b : Bool) → p x ≡ b → (0 < count_by p xs → (s : ℕ) × (p s ≡ true)) → 0 < count_by p (x ∷ xs) → (s : ℕ) × (p s ≡ true)
passes_step p x xs true e rest h = (x, e)
passes_step p x xs false e rest h =
    let counts : count_by p (x ∷ xs) ≡ counted (p x) + count_by p xs = sum_by-cons (λ s. counted (p s)) x xs in
    let none : counted (p x) ≡ 0 = ap counted e in
    rest (omega (arith, counts, none))

pub some_passes : (p : ℕ → Bool) (xs : List ℕ) → 0 < count_by p xs → (s : ℕ) × (p s ≡ true)
some_passes p [] h = absurd (omega arith)
some_passes p (x ∷ xs) h = passes_step p x xs (p x) refl (some_passes p xs) h

-- where one test counts more than another, something passes it and not the other
apart_step : (p q : ℕ → Bool) (x : ℕ) (xs : List ℕ) (a b : Bool) → p x ≡ a → q x ≡ b → (count_by q xs < count_by p xs → (s : ℕ) × (p s ≡ true) × (q s ≡ false)) → count_by q (x ∷ xs) < count_by p (x ∷ xs)
    → (s : ℕ) × (p s ≡ true) × (q s ≡ false)
apart_step p q x xs true false e f rest h = (x, e, f)
apart_step p q x xs true true e f rest h =
    let one : count_by p (x ∷ xs) ≡ counted (p x) + count_by p xs = sum_by-cons (λ s. counted (p s)) x xs in
    let two : count_by q (x ∷ xs) ≡ counted (q x) + count_by q xs = sum_by-cons (λ s. counted (q s)) x xs in
    let is : counted (p x) ≡ 1 = ap counted e in
    let so : counted (q x) ≡ 1 = ap counted f in
    rest (omega (arith, one, two, is, so))
apart_step p q x xs false b e f rest h =
    let one : count_by p (x ∷ xs) ≡ counted (p x) + count_by p xs = sum_by-cons (λ s. counted (p s)) x xs in
    let two : count_by q (x ∷ xs) ≡ counted (q x) + count_by q xs = sum_by-cons (λ s. counted (q s)) x xs in
    let is : counted (p x) ≡ 0 = ap counted e in
    rest (omega (arith, one, two, is))

pub one_apart : (p q : ℕ → Bool) (xs : List ℕ) → count_by q xs < count_by p xs → (s : ℕ) × (p s ≡ true) × (q s ≡ false)
one_apart p q [] h = absurd (omega arith)
one_apart p q (x ∷ xs) h = apart_step p q x xs (p x) (q x) refl refl (one_apart p q xs) h
