-- What is in a list that has one item more, one alone, or the items of several.
use Rattle.std.proofs.Common.{◌≡◌, zero, suc, List, [], ◌∷◌, map, Contains, ◌⊎◌, inl, inr, refl, ap, arith}
use Rattle.std.specs.List.{flat_map}
use Rattle.std.proofs.lemmas.List.Elements.{Contains-append_cases}

pub no_item : {X : Type 0} (x : X) → Contains [] x → ⊥
no_item x h = omega (arith, h.1)

pub in_front : {X : Type 0} (y : X) (xs : List X) (x : X) → Contains (y ∷ xs) x → (y ≡ x) ⊎ Contains xs x
in_front y xs x (zero, lt, e) = inl e
in_front y xs x (suc k, lt, e) = inr (k, omega (arith, lt), e)

pub at_front : {X : Type 0} (y : X) (xs : List X) (x : X) → y ≡ x → Contains (y ∷ xs) x
at_front y xs x e = (zero, omega arith, e)

pub behind : {X : Type 0} (y : X) (xs : List X) (x : X) → Contains xs x → Contains (y ∷ xs) x
behind y xs x h = (suc h.0, omega (arith, h.1), h.2)

pub only_item : {X : Type 0} (y x : X) → Contains (y ∷ []) x → y ≡ x
only_item y x h = elim (in_front y [] x h) [ inl e ↦ e | inr none ↦ absurd (no_item x none) ]

pub map_has : {X Y : Type 0} (f : X → Y) (xs : List X) (x : X) → Contains xs x → Contains (map f xs) (f x)
map_has f [] x h = absurd (no_item x h)
map_has f (y ∷ xs) x h = elim (in_front y xs x h) [ inl e ↦ at_front (f y) (map f xs) (f x) (ap f e) | inr later ↦ behind (f y) (map f xs) (f x) (map_has f xs x later) ]

pub in_flat_map : {X A : Type 0} (f : X → List A) (xs : List X) (a : A) → Contains (flat_map f xs) a → (x : X) × Contains xs x × Contains (f x) a
in_flat_map f [] a h = absurd (no_item a h)
in_flat_map f (x ∷ xs) a h =
    elim (Contains-append_cases (f x) (flat_map f xs) a h) [
      | inl here ↦ (x, at_front x xs x refl, here)
      | inr later ↦ let r = in_flat_map f xs a later in (r.0, behind x xs r.0 r.1, r.2)
    ]
