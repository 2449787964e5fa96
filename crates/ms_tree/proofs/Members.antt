-- Membership one element at a time, and rising lists of texts.
use Rattle.std.proofs.Common.{◌≡◌, ℕ, zero, suc, Bool, true, false, List, [], ◌∷◌, ◌⊎◌, inl, inr, refl, sym, ap, ◌∙◌, subst, Contains, All, map, filter, nat_cmp, is_lt, is_eq, bytes_eq, Ordering, Less, Equal, Greater, arith}
use Rattle.std.specs.Ordering.{ordering_reverse}
use Rattle.std.specs.Cmp.Lexicographic.{slice_cmp}
use Rattle.std.specs.List.Sorted.{IsStrictlySortedBy}
use Rattle.std.proofs.lemmas.Bool.{cond_both}
use Rattle.std.proofs.lemmas.Cmp.{nat_list_cmp_total, tied_itself}
use Rattle.std.proofs.lemmas.List.Elements.{All-from_recursion, recursion_from_All, All-contains, Contains-get_or}
use Rattle.std.proofs.lemmas.Map.Keys.{sorted_head, sorted_tail}
use Rattle.std.proofs.lemmas.Map.Text.{is_eq-slice_cmp}
use Rattle.ms_base.specs.Rising.{Rises, Before, not_before_itself, not_both_ways, rises_first, rises_rest}
use Rattle.ms_base.specs.Places.{in_none, in_here, in_later, in_cases}

-- of two texts one is before the other, or they are one
pub one_is_before : (x y : List ℕ) → bytes_eq x y ≡ false → is_lt (slice_cmp nat_cmp x y) ≡ false → Before y x
one_is_before x y ne nl = by (slice_cmp nat_cmp x y) (slice_cmp nat_cmp y x) (is_eq-slice_cmp x y ∙ ne) nl (nat_list_cmp_total.antisymm y x)
  where
    by : (o p : Ordering) → is_eq o ≡ false → is_lt o ≡ false → p ≡ ordering_reverse o → p ≡ Less
    by Less p e l r = cc
    by Equal p e l r = cc
    by Greater p e l r = r

-- the first of two rising lists with the same members
firsts_meet : (x y : List ℕ) (xs ys : List (List ℕ)) → Rises (x ∷ xs) → Rises (y ∷ ys) → Contains (y ∷ ys) x → Contains (x ∷ xs) y → x ≡ y
firsts_meet x y xs ys rx ry hx hy =
    elim (in_cases y ys x hx) [
      | inl e ↦ sym e
      | inr later ↦ elim (in_cases x xs y hy) [ inl e ↦ e | inr after ↦ absurd (not_both_ways y x (rises_first y ys ry x later) (rises_first x xs rx y after)) ]
    ]

rest_has : (x : List ℕ) (xs ys : List (List ℕ)) → Rises (x ∷ xs) → ((q : List ℕ) → Contains (x ∷ xs) q → Contains (x ∷ ys) q) → (q : List ℕ) → Contains xs q → Contains ys q
rest_has x xs ys r has q h =
    elim (in_cases x ys q (has q (in_later x xs q h))) [
      | inl e ↦ absurd (not_before_itself x (subst (λ (p : List ℕ). Before x p) (sym e) (rises_first x xs r q h)))
      | inr there ↦ there
    ]

-- rising lists with the same members are one
pub same_rising : (xs ys : List (List ℕ)) → Rises xs → Rises ys → ((q : List ℕ) → Contains xs q → Contains ys q) → ((q : List ℕ) → Contains ys q → Contains xs q) → xs ≡ ys
same_rising [] [] rx ry there back = refl
same_rising [] (y ∷ ys) rx ry there back = absurd (in_none y (back y (in_here y ys)))
same_rising (x ∷ xs) [] rx ry there back = absurd (in_none x (there x (in_here x xs)))
same_rising (x ∷ xs) (y ∷ ys) rx ry there back =
    let e = firsts_meet x y xs ys rx ry (there x (in_here x xs)) (back y (in_here y ys)) in
    let ry' = subst (λ (z : List ℕ). Rises (z ∷ ys)) (sym e) ry in
    let there' = subst (λ (z : List ℕ). (q : List ℕ) → Contains (x ∷ xs) q → Contains (z ∷ ys) q) (sym e) there in
    let back' = subst (λ (z : List ℕ). (q : List ℕ) → Contains (z ∷ ys) q → Contains (x ∷ xs) q) (sym e) back in
    let rest = same_rising xs ys (rises_rest x xs rx) (rises_rest y ys ry) (rest_has x xs ys rx there') (rest_has x ys xs ry' back') in
    ap (λ (z : List ℕ). z ∷ xs) e ∙ ap (λ (zs : List (List ℕ)). y ∷ zs) rest

pub map_from : {X Y : Type 0} (f : X → Y) (xs : List X) (y : Y) → Contains (map f xs) y → (x : X) × Contains xs x × (f x ≡ y)
map_from f [] y h = absurd (in_none y h)
map_from f (x ∷ xs) y h =
    elim (in_cases (f x) (map f xs) y h) [ inl same ↦ (x, in_here x xs, same) | inr later ↦ (let r = map_from f xs y later in (r.0, in_later x xs r.0 r.1, r.2)) ]

pub filter_from : {X : Type 0} (p : X → Bool) (xs : List X) (x : X) → Contains (filter p xs) x → Contains xs x × (p x ≡ true)
filter_from p [] x h = absurd (in_none x h)
filter_from {X} p (y ∷ ys) x h =
    let P : List X → Type 0 = λ l. Contains l x → Contains (y ∷ ys) x × (p x ≡ true) in
    cond_both (p y) _ _ P
    (λ e there. elim (in_cases y (filter p ys) x there) [
      | inl same ↦ (subst (λ z. Contains (y ∷ ys) z) same (in_here y ys), ap p (sym same) ∙ e)
      | inr later ↦ (let r = filter_from p ys x later in (in_later y ys x r.0, r.1))
    ])
    (λ e there. let r = filter_from p ys x there in (in_later y ys x r.0, r.1)) h

pub filter_has : {X : Type 0} (p : X → Bool) (xs : List X) (x : X) → Contains xs x → p x ≡ true → Contains (filter p xs) x
filter_has p [] x h t = absurd (in_none x h)
filter_has {X} p (y ∷ ys) x h t =
    let P : List X → Type 0 = λ l. Contains l x in
    elim (in_cases y ys x h) [
      | inl same ↦ rw (ap p same ∙ t) (subst (λ z. Contains (y ∷ filter p ys) z) same (in_here y (filter p ys)))
      | inr later ↦ cond_both (p y) _ _ P (λ e. in_later y _ x (filter_has p ys x later t)) (λ e. filter_has p ys x later t)
    ]

pub filter_none : {X : Type 0} (p : X → Bool) (xs : List X) → ((x : X) → Contains xs x → p x ≡ false) → filter p xs ≡ []
filter_none p [] h = refl
filter_none p (x ∷ xs) h = rw (h x (in_here x xs)) (filter_none p xs (λ y has. h y (in_later x xs y has)))

pub filter_whole : {X : Type 0} (p : X → Bool) (xs : List X) → ((x : X) → Contains xs x → p x ≡ true) → filter p xs ≡ xs
filter_whole p [] h = refl
filter_whole {X} p (x ∷ xs) h = rw (h x (in_here x xs)) (ap (λ (l : List X). x ∷ l) (filter_whole p xs (λ y has. h y (in_later x xs y has))))
