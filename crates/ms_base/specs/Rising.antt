-- Lists of texts that rise strictly, by bytes.
use Rattle.std.proofs.Common.{◌≡◌, ℕ, List, [], ◌∷◌, sym, ◌∙◌, Contains, nat_cmp, Less, Equal}
use Rattle.std.specs.Cmp.Lexicographic.{slice_cmp}
use Rattle.std.specs.List.Sorted.{IsStrictlySortedBy}
use Rattle.std.proofs.lemmas.Cmp.{nat_list_cmp_total, tied_itself}
use Rattle.std.proofs.lemmas.List.Elements.{All-from_recursion, recursion_from_All, All-contains, Contains-get_or}
use Rattle.std.proofs.lemmas.Map.Keys.{sorted_head, sorted_tail}

abbrev pub Rises : List (List ℕ) → Type 0
Rises = IsStrictlySortedBy (slice_cmp nat_cmp)

abbrev pub Before : List ℕ → List ℕ → Type 0
Before x y = slice_cmp nat_cmp x y ≡ Less

pub not_before_itself : (x : List ℕ) → Before x x → ⊥
not_before_itself x h = let e : Less ≡ Equal = sym h ∙ tied_itself nat_list_cmp_total x in cc

pub not_both_ways : (x y : List ℕ) → Before x y → Before y x → ⊥
not_both_ways x y h k = not_before_itself x (nat_list_cmp_total.trans x y x h k)

pub rises_none : Rises []
unfolding IsStrictlySortedBy
rises_none = tt

pub rises_cons : (x : List ℕ) (xs : List (List ℕ)) → ((y : List ℕ) → Contains xs y → Before x y) → Rises xs → Rises (x ∷ xs)
unfolding IsStrictlySortedBy
rises_cons x xs first others = (recursion_from_All (λ y. slice_cmp nat_cmp x y ≡ Less) xs (λ k d below. first _ (Contains-get_or xs k d below)), others)

pub rises_first : (x : List ℕ) (xs : List (List ℕ)) → Rises (x ∷ xs) → (y : List ℕ) → Contains xs y → Before x y
rises_first x xs h y has = All-contains (λ z. slice_cmp nat_cmp x z ≡ Less) xs y (All-from_recursion _ xs (sorted_head (slice_cmp nat_cmp) x xs h)) has

pub rises_rest : (x : List ℕ) (xs : List (List ℕ)) → Rises (x ∷ xs) → Rises xs
rises_rest x xs h = sorted_tail (slice_cmp nat_cmp) x xs h
