-- Lists of files that rise by their paths and have the same members are the same.
use Rattle.std.proofs.Common.{◌≡◌, List, [], ◌∷◌, Contains, refl, sym, ap, subst, ◌∙◌, inl, inr, arith, Ordering}
use Rattle.std.specs.Map.{keys_of}
use Rattle.std.specs.List.Sorted.{IsStrictlySortedBy}
use Rattle.std.specs.Ordering.{nat_cmp, ordering_reverse}
use Rattle.std.specs.declared.cmp.Ordering.TheVariants.{Less, Equal, Greater}
use Rattle.std.specs.Cmp.Lexicographic.{slice_cmp}
use Rattle.std.proofs.lemmas.Cmp.{nat_list_cmp_total, tied_itself}
use Rattle.std.proofs.lemmas.List.Elements.{All-contains}
use Rattle.std.proofs.lemmas.Map.Keys.{sorted_tail}
use Rattle.std.proofs.lemmas.Map.Views.{All-after_first}
use Rattle.ms_object.specs.Trees.{FileText}
use Rattle.ms_tree.proofs.Membership.{no_item, in_front, at_front, behind}

abbrev compared : FileText → FileText → Ordering
compared x y = slice_cmp nat_cmp x.0 y.0

Rises : List FileText → Type 0
Rises files = IsStrictlySortedBy (slice_cmp nat_cmp) (keys_of files)

key_of_member : (xs : List FileText) (f : FileText) → Contains xs f → Contains (keys_of xs) f.0
key_of_member [] f h = absurd (no_item f h)
key_of_member (x ∷ xs) f h =
    elim (in_front x xs f h) [
      | inl e ↦ at_front x.0 (keys_of xs) f.0 (ap (λ (g : FileText). g.0) e)
      | inr later ↦ behind x.0 (keys_of xs) f.0 (key_of_member xs f later)
    ]

first_below : (x : FileText) (xs : List FileText) (f : FileText) → Rises (x ∷ xs) → Contains xs f → compared x f ≡ Less
unfolding Rises
first_below x xs f rises h = All-contains (λ q. slice_cmp nat_cmp x.0 q ≡ Less) (keys_of xs) f.0 (All-after_first (slice_cmp nat_cmp) x.0 (keys_of xs) rises) (key_of_member xs f h)

not_below_itself : (x : FileText) → compared x x ≡ Less → ⊥
not_below_itself x e = let q : Less ≡ Equal = sym e ∙ tied_itself nat_list_cmp_total x.0 in cc

not_both : (x y : FileText) → compared x y ≡ Less → compared y x ≡ Less → ⊥
not_both x y e f = let q : Less ≡ Greater = sym e ∙ nat_list_cmp_total.antisymm x.0 y.0 ∙ ap ordering_reverse f in cc

IsWithin : List FileText → List FileText → Type 0
IsWithin xs ys = (f : FileText) → Contains xs f → Contains ys f

same_first : (x y : FileText) (xs ys : List FileText) → Rises (x ∷ xs) → Rises (y ∷ ys) → IsWithin (x ∷ xs) (y ∷ ys) → IsWithin (y ∷ ys) (x ∷ xs) → x ≡ y
unfolding IsWithin
same_first x y xs ys p q there back =
    elim (in_front y ys x (there x (at_front x xs x refl))) [
      | inl e ↦ sym e
      | inr later ↦ elim (in_front x xs y (back y (at_front y ys y refl))) [
        | inl e ↦ e
        | inr other ↦ absurd (not_both x y (first_below x xs y p other) (first_below y ys x q later))
      ]
    ]

-- what follows the same first file
rest_within : (x : FileText) (xs ys : List FileText) → Rises (x ∷ xs) → IsWithin (x ∷ xs) (x ∷ ys) → IsWithin xs ys
unfolding IsWithin
rest_within x xs ys p there f h =
    elim (in_front x ys f (there f (behind x xs f h))) [
      | inl e ↦ absurd (not_below_itself x (subst (λ (g : FileText). compared x g ≡ Less) (sym e) (first_below x xs f p h)))
      | inr later ↦ later
    ]

not_within_nothing : (x : FileText) (xs : List FileText) → IsWithin (x ∷ xs) [] → ⊥
unfolding IsWithin
not_within_nothing x xs there = omega (arith, (there x (at_front x xs x refl)).1)

rises_on : (x : FileText) (xs : List FileText) → Rises (x ∷ xs) → Rises xs
unfolding Rises
rises_on x xs p = sorted_tail (slice_cmp nat_cmp) x.0 (keys_of xs) p

same_members : (xs ys : List FileText) → Rises xs → Rises ys → IsWithin xs ys → IsWithin ys xs → xs ≡ ys
same_members [] [] p q there back = refl
same_members [] (y ∷ ys) p q there back = absurd (not_within_nothing y ys back)
same_members (x ∷ xs) [] p q there back = absurd (not_within_nothing x xs there)
same_members (x ∷ xs) (y ∷ ys) p q there back =
    let e : x ≡ y = same_first x y xs ys p q there back in
    let also = subst (λ (f : FileText). Rises (f ∷ ys)) (sym e) q in
    let into = subst (λ (f : FileText). IsWithin (x ∷ xs) (f ∷ ys)) (sym e) there in
    let out = subst (λ (f : FileText). IsWithin (f ∷ ys) (x ∷ xs)) (sym e) back in
    let rest : xs ≡ ys = same_members xs ys (rises_on x xs p) (rises_on x ys also) (rest_within x xs ys p into) (rest_within x ys xs also out) in
    ap (λ (t : List FileText). x ∷ t) rest ∙ ap (λ (f : FileText). f ∷ ys) e

pub rising_same : (xs ys : List FileText) → IsStrictlySortedBy (slice_cmp nat_cmp) (keys_of xs) → IsStrictlySortedBy (slice_cmp nat_cmp) (keys_of ys)
    → ((f : FileText) → Contains xs f → Contains ys f) → ((f : FileText) → Contains ys f → Contains xs f) → xs ≡ ys
unfolding Rises IsWithin
rising_same xs ys p q there back = same_members xs ys p q there back
