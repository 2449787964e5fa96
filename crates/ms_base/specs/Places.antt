-- Places of a list after an append or a write, and its members one at a time.
use Rattle.std.proofs.Common.{◌≡◌, ◌≢◌, ℕ, zero, suc, ◌+◌, ◌≤◌, List, [], ◌∷◌, ◌++◌, Some, None, ◌⊎◌, inl, inr, refl, ap, ◌∙◌, slice_get, slice_set, length, replicate, map, take, subst, Contains, All, arith}
use Rattle.std.proofs.lemmas.Bool.{cases_lt}
use Rattle.std.proofs.lemmas.List.{take_more}
use Rattle.std.proofs.lemmas.List.Elements.{Contains-get_or}
use Rattle.std.proofs.lemmas.Option.{slice_get_within, get_or_from_slice_get}

-- two numbers are one or not
pub same_or_not : (i j : ℕ) → (i ≡ j) ⊎ (i ≢ j)
same_or_not i j = elim (cases_lt i j) [ inl l ↦ inr (λ e. absurd (omega arith)) | inr m ↦ elim (cases_lt j i) [ inl l ↦ inr (λ e. absurd (omega arith)) | inr n ↦ inl (omega arith) ] ]

module _ {X : Type 0} where
  pub some_same : (x y : X) → Some x ≡ Some y → x ≡ y
  some_same x y e = cc

  pub append_left : (xs ys : List X) (i : ℕ) (x : X) → slice_get xs i ≡ Some x → slice_get (xs ++ ys) i ≡ Some x
  append_left [] ys i x h = cc
  append_left (y ∷ xs) ys zero x h = h
  append_left (y ∷ xs) ys (suc i) x h = append_left xs ys i x h

  pub append_cases : (xs ys : List X) (i : ℕ) (x : X) → slice_get (xs ++ ys) i ≡ Some x → (slice_get xs i ≡ Some x) ⊎ ((j : ℕ) × (i ≡ length xs + j) × (slice_get ys j ≡ Some x))
  append_cases [] ys i x h = inr (i, omega arith, h)
  append_cases (y ∷ xs) ys zero x h = inl h
  append_cases (y ∷ xs) ys (suc i) x h = elim (append_cases xs ys i x h) [ inl l ↦ inl l | inr r ↦ inr (r.0, omega (arith, r.1), r.2) ]

  pub at_end : (xs : List X) (x : X) → slice_get (xs ++ x ∷ []) (length xs) ≡ Some x
  at_end [] x = refl
  at_end (y ∷ xs) x = at_end xs x

  pub alone : (x y : X) (i : ℕ) → slice_get (x ∷ []) i ≡ Some y → (i ≡ 0) × (x ≡ y)
  alone x y zero h = (refl, some_same x y h)
  alone x y (suc i) h = absurd (let w : None ≡ Some y = h in cc)

  pub set_here : (xs : List X) (i : ℕ) (v x : X) → slice_get xs i ≡ Some x → slice_get (slice_set xs i v) i ≡ Some v
  set_here [] i v x h = cc
  set_here (y ∷ xs) zero v x h = refl
  set_here (y ∷ xs) (suc i) v x h = set_here xs i v x h

  pub set_there : (xs : List X) (i j : ℕ) (v : X) → j ≢ i → slice_get (slice_set xs i v) j ≡ slice_get xs j
  set_there [] i j v h = refl
  set_there (y ∷ xs) zero zero v h = absurd (h refl)
  set_there (y ∷ xs) zero (suc j) v h = refl
  set_there (y ∷ xs) (suc i) zero v h = refl
  set_there (y ∷ xs) (suc i) (suc j) v h = set_there xs i j v (λ e. h (ap suc e))

  pub replicate_all : (n : ℕ) (v x : X) (i : ℕ) → slice_get (replicate n v) i ≡ Some x → v ≡ x
  replicate_all zero v x i h = absurd (let w : None ≡ Some x = h in cc)
  replicate_all (suc n) v x zero h = some_same v x h
  replicate_all (suc n) v x (suc i) h = replicate_all n v x i h

  pub in_none : (x : X) → Contains [] x → ⊥
  in_none x h = omega (arith, h.1)

  pub in_here : (x : X) (xs : List X) → Contains (x ∷ xs) x
  in_here x xs = (zero, omega arith, refl)

  pub in_later : (x : X) (xs : List X) (y : X) → Contains xs y → Contains (x ∷ xs) y
  in_later x xs y h = (suc h.0, omega (arith, h.1), h.2)

  pub in_cases : (x : X) (xs : List X) (y : X) → Contains (x ∷ xs) y → (x ≡ y) ⊎ Contains xs y
  in_cases x xs y (zero, below, here) = inl here
  in_cases x xs y (suc k, below, here) = inr (k, omega arith, here)

  pub at_contains : (xs : List X) (i : ℕ) (x : X) → slice_get xs i ≡ Some x → Contains xs x
  at_contains xs i x h = (i, slice_get_within xs i x h, get_or_from_slice_get xs i x x h)

  pub contains_at : (xs : List X) (x : X) → Contains xs x → (i : ℕ) × (slice_get xs i ≡ Some x)
  contains_at [] x h = absurd (omega (arith, h.1))
  contains_at (y ∷ xs) x (zero, below, here) = (zero, ap (λ (z : X). Some z) here)
  contains_at (y ∷ xs) x (suc k, below, here) = let r = contains_at xs x (k, omega (arith, below), here) in (suc r.0, r.1)

  -- a place has a member, or it is past the end
  pub some_or_past : (xs : List X) (i : ℕ) → ((x : X) × (slice_get xs i ≡ Some x)) ⊎ (length xs ≤ i)
  some_or_past [] i = inr (omega arith)
  some_or_past (x ∷ xs) zero = inl (x, refl)
  some_or_past (x ∷ xs) (suc i) = elim (some_or_past xs i) [ inl h ↦ inl (h.0, h.1) | inr past ↦ inr (omega (arith, past)) ]

  -- a front is one member longer
  pub take_next : (xs : List X) (i : ℕ) (x : X) → slice_get xs i ≡ Some x → take (i + 1) xs ≡ take i xs ++ x ∷ []
  take_next xs i x at = take_more xs i x (slice_get_within xs i x at) ∙ ap (λ (y : X). take i xs ++ y ∷ []) (get_or_from_slice_get xs i x x at)

  -- what is true of each member
  pub all_from : (P : X → Type 0) (xs : List X) → ((x : X) → Contains xs x → P x) → All P xs
  all_from P xs h = λ k d below. h _ (Contains-get_or xs k d below)

pub map_has : {X Y : Type 0} (f : X → Y) (xs : List X) (x : X) → Contains xs x → Contains (map f xs) (f x)
map_has f [] x h = absurd (in_none x h)
map_has f (y ∷ ys) x h =
    elim (in_cases y ys x h) [ inl same ↦ subst (λ z. Contains (f y ∷ map f ys) (f z)) same (in_here (f y) (map f ys)) | inr later ↦ in_later (f y) (map f ys) (f x) (map_has f ys x later) ]
