-- Places of a list that was made longer, or of which a part was taken.
use Rattle.std.proofs.Common.{◌≡◌, ℕ, zero, suc, ◌+◌, ◌<◌, List, [], ◌∷◌, ◌++◌, Some, None, ◌⊎◌, inl, inr, refl, sym, ap, ◌∙◌, slice_get, length, take, drop, Bool, true, false, cond, ◌&&◌, ◌||◌, count_by, arith}
use Rattle.std.specs.List.{Contains, list_any, range_with_len}
use Rattle.std.proofs.lemmas.Map.Keys.{any_passes_from_place}
use Rattle.std.proofs.lemmas.List.Sums.{sum_by-append, sum_by-cons}

pub place_left : {X : Type 0} (xs ys : List X) (i : ℕ) → i < length xs → slice_get (xs ++ ys) i ≡ slice_get xs i
place_left [] ys i h = absurd (omega arith)
place_left (x ∷ xs) ys zero h = refl
place_left (x ∷ xs) ys (suc i) h = place_left xs ys i (omega arith)

pub place_right : {X : Type 0} (xs ys : List X) (i : ℕ) → slice_get (xs ++ ys) (length xs + i) ≡ slice_get ys i
place_right [] ys i = ap (slice_get ys) (let e : 0 + i ≡ i = omega arith in e)
place_right (x ∷ xs) ys i = ap (slice_get (x ∷ xs ++ ys)) (let e : length (x ∷ xs) + i ≡ suc (length xs + i) = omega arith in e) ∙ place_right xs ys i

-- a place of the longer list is one of the front, or one behind it
pub place_cases : {X : Type 0} (xs ys : List X) (i : ℕ) (m : X) → slice_get (xs ++ ys) i ≡ Some m
    → ((i < length xs) × (slice_get xs i ≡ Some m)) ⊎ ((j : ℕ) × (i ≡ length xs + j) × (slice_get ys j ≡ Some m))
place_cases [] ys i m h = inr (i, (let e : i ≡ 0 + i = omega arith in e), h)
place_cases (x ∷ xs) ys zero m h = inl (omega arith, h)
place_cases (x ∷ xs) ys (suc i) m h =
    elim (place_cases xs ys i m h) [
      | inl l ↦ inl (omega (arith, l.0), l.1)
      | inr r ↦ inr (r.0, omega (arith, r.1), r.2)
    ]

pub alone : {X : Type 0} (x m : X) (j : ℕ) → slice_get (x ∷ []) j ≡ Some m → x ≡ m
alone x m zero h = (let q : Some x ≡ Some m = h in cc)
alone x m (suc j) h = cc

pub place_take : {X : Type 0} (n : ℕ) (xs : List X) (i : ℕ) (m : X) → slice_get (take n xs) i ≡ Some m → (i < n) × (slice_get xs i ≡ Some m)
place_take zero xs i m h = (let q : None ≡ Some m = h in cc)
place_take (suc n) [] i m h = (let q : None ≡ Some m = h in cc)
place_take (suc n) (x ∷ xs) zero m h = (omega arith, h)
place_take (suc n) (x ∷ xs) (suc i) m h = let r = place_take n xs i m h in (omega (arith, r.0), r.1)

pub take_place : {X : Type 0} (n : ℕ) (xs : List X) (i : ℕ) → i < n → slice_get (take n xs) i ≡ slice_get xs i
take_place zero xs i l = absurd (omega arith)
take_place (suc n) [] i l = refl
take_place (suc n) (x ∷ xs) zero l = refl
take_place (suc n) (x ∷ xs) (suc i) l = take_place n xs i (omega arith)

pub drop_place : {X : Type 0} (n : ℕ) (xs : List X) (i : ℕ) → slice_get (drop n xs) i ≡ slice_get xs (n + i)
drop_place zero xs i = ap (slice_get xs) (let e : i ≡ 0 + i = omega arith in e)
drop_place (suc n) [] i = refl
drop_place (suc n) (x ∷ xs) i = drop_place n xs i ∙ ap (slice_get (x ∷ xs)) (let e : suc (n + i) ≡ suc n + i = omega arith in e)

-- tests that agree on the members count the same
pub count_congr_in : (p q : ℕ → Bool) (xs : List ℕ) → ((s : ℕ) → Contains xs s → p s ≡ q s) → count_by p xs ≡ count_by q xs
count_congr_in p q [] h = refl
count_congr_in p q (x ∷ xs) h =
    sum_by-cons (λ s. cond (p s) 1 0) x xs ∙ ap (λ (b : Bool). cond b 1 0 + count_by p xs) (h x (0, omega arith, refl))
    ∙ ap (λ (n : ℕ). cond (q x) 1 0 + n) (count_congr_in p q xs (λ s c. h s (suc c.0, omega (arith, c.1), c.2))) ∙ sym (sum_by-cons (λ s. cond (q s) 1 0) x xs)

-- a test that one of the list passes
pub any_at : {X : Type 0} (p : X → Bool) (xs : List X) → list_any p xs ≡ true → (i : ℕ) × (x : X) × (slice_get xs i ≡ Some x) × (p x ≡ true)
any_at p [] h = cc
any_at p (x ∷ xs) h = any_step p x xs (p x) refl (any_at p xs) h
  where
    any_step : {X : Type 0} (p : X → Bool) (x : X) (xs : List X) (b : Bool) → p x ≡ b → (list_any p xs ≡ true → (i : ℕ) × (y : X) × (slice_get xs i ≡ Some y) × (p y ≡ true))
        → (b || list_any p xs) ≡ true → (i : ℕ) × (y : X) × (slice_get (x ∷ xs) i ≡ Some y) × (p y ≡ true)
    any_step p x xs true e rest h = (zero, x, refl, e)
    any_step p x xs false e rest h = let r = rest h in (suc r.0, r.1, r.2, r.3)

pub at_any : {X : Type 0} (p : X → Bool) (xs : List X) (i : ℕ) (x : X) → slice_get xs i ≡ Some x → p x ≡ true → list_any p xs ≡ true
at_any p xs i x g e = any_passes_from_place p xs i x g e

pub bool_same : (a b : Bool) → (a ≡ true → b ≡ true) → (b ≡ true → a ≡ true) → a ≡ b
bool_same true b f g = sym (f refl)
bool_same false true f g = g refl
bool_same false false f g = refl

-- counts over the first numbers
pub count_congr : (p q : ℕ → Bool) (xs : List ℕ) → ((s : ℕ) → p s ≡ q s) → count_by p xs ≡ count_by q xs
count_congr p q xs h = λ i. count_by (λ (s : ℕ). h s i) xs

range_push : (a n : ℕ) → range_with_len a (suc n) ≡ range_with_len a n ++ (a + n) ∷ []
range_push a zero = ap (λ (x : ℕ). x ∷ []) (let e : a ≡ a + 0 = omega arith in e)
range_push a (suc n) =
    ap (λ (xs : List ℕ). a ∷ xs) (range_push (a + 1) n) ∙ ap (λ (x : ℕ). a ∷ (range_with_len (a + 1) n ++ x ∷ [])) (let e : a + 1 + n ≡ a + suc n = omega arith in e)

abbrev pub one_if : Bool → ℕ
one_if b = cond b 1 0

pub count_push : (p : ℕ → Bool) (n : ℕ) → count_by p (range_with_len 0 (n + 1)) ≡ count_by p (range_with_len 0 n) + cond (p n) 1 0
count_push p n =
    let a : count_by p (range_with_len 0 (n + 1)) ≡ count_by p (range_with_len 0 n ++ (0 + n) ∷ []) =
    ap (λ (k : ℕ). count_by p (range_with_len 0 k)) (let e : n + 1 ≡ suc n = omega arith in e) ∙ ap (count_by p) (range_push 0 n) in
    let b : count_by p (range_with_len 0 n ++ (0 + n) ∷ []) ≡ count_by p (range_with_len 0 n) + (0 + one_if (p (0 + n))) = sum_by-append (λ (s : ℕ). cond (p s) 1 0) (range_with_len 0 n) ((0 + n) ∷ []) in
    let c : one_if (p (0 + n)) ≡ one_if (p n) = ap (λ (k : ℕ). one_if (p k)) (let e : 0 + n ≡ n = omega arith in e) in
    a ∙ b ∙ ap (λ (k : ℕ). count_by p (range_with_len 0 n) + k) (let e : 0 + one_if (p (0 + n)) ≡ one_if (p (0 + n)) = omega arith in e ∙ c)
