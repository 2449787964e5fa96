-- Cutting a path at its first slash.
use Rattle.std.proofs.Common.{◌≡◌, ℕ, ◌<◌, ◌≤◌, ◌==◌, Bool, false, List, [], ◌∷◌, ◌++◌, ◌⊎◌, inl, inr, refl, sym, ap, ◌∙◌, subst, length, get_or, take, All, eqb-true, take_all, arith}
use Rattle.std.specs.List.{after_first, position_or_len}
use Rattle.std.proofs.lemmas.Bool.{cases_lt}
use Rattle.std.proofs.lemmas.List.{get_or-take, length-take-le, take_at}
use Rattle.std.proofs.lemmas.List.Elements.{All-from_get_or, All-head, All-tail}
use Rattle.std.proofs.lemmas.List.Sums.{split_at_first, passes_at_first, fails_before_first, prefix_len-le-length}
use Rattle.ms_tree.specs.Planting.{first_part}

-- a byte is no slash
abbrev pub IsClear : List ℕ → Type 0
IsClear part = All (λ b. (b == 47) ≡ false) part

abbrev slash : ℕ → Bool
slash b = b == 47

-- what is behind the first slash
abbrev pub rest_of : List ℕ → List ℕ
rest_of path = after_first (λ b. b == 47) path

before_clear : (path : List ℕ) → IsClear (first_part path)
before_clear path =
    let n = position_or_len slash path in
    let short : n ≤ length path = prefix_len-le-length _ path in
    let len : length (take n path) ≡ n = length-take-le n path short in
    All-from_get_or (λ b. slash b ≡ false) (first_part path) 0 (λ i below. let low : i < n = omega arith in
    subst (λ (b : ℕ). slash b ≡ false) (sym (get_or-take n path i 0 low)) (fails_before_first slash path i 0 low))

pub first_part_clear : (path : List ℕ) → IsClear (first_part path)
first_part_clear path = before_clear path

-- where a slash is found
pub cut_at : (path : List ℕ) → position_or_len (λ b. b == 47) path < length path → path ≡ first_part path ++ 47 ∷ rest_of path
cut_at path found =
    let e : get_or path (position_or_len slash path) 0 ≡ 47 = eqb-true _ 47 (passes_at_first slash path 0 found) in
    split_at_first slash path 0 found ∙ ap (λ (b : ℕ). first_part path ++ b ∷ rest_of path) e

pub whole_part : (path : List ℕ) → length path ≤ position_or_len (λ b. b == 47) path → first_part path ≡ path
whole_part path none = take_all _ path none

-- a path is one part, or a part, a slash and what is behind it
pub path_cases : (path : List ℕ) → (first_part path ≡ path) ⊎ (path ≡ first_part path ++ 47 ∷ rest_of path)
path_cases path = elim (cases_lt (position_or_len slash path) (length path)) [ inl found ↦ inr (cut_at path found) | inr none ↦ inl (whole_part path none) ]

first_part_is : (part path : List ℕ) (n : ℕ) → position_or_len slash path ≡ n → take n path ≡ part → first_part path ≡ part
first_part_is part path n e t = ap (λ (k : ℕ). take k path) e ∙ t

clear_at : (part : List ℕ) → IsClear part → (rest : List ℕ) → position_or_len slash (part ++ 47 ∷ rest) ≡ length part
clear_at [] clear rest = refl
clear_at (b ∷ part) clear rest =
    let e : slash b ≡ false = All-head (λ c. slash c ≡ false) b part clear in
    let r = clear_at part (All-tail (λ c. slash c ≡ false) b part clear) rest in
    rw e (omega (arith, r))

pub first_part_of : (part rest : List ℕ) → IsClear part → first_part (part ++ 47 ∷ rest) ≡ part
first_part_of part rest clear = first_part_is part (part ++ 47 ∷ rest) (length part) (clear_at part clear rest) (take_at part (47 ∷ rest) _ refl)

clear_alone : (part : List ℕ) → IsClear part → position_or_len slash part ≡ length part
clear_alone [] clear = refl
clear_alone (b ∷ part) clear =
    let e : slash b ≡ false = All-head (λ c. slash c ≡ false) b part clear in
    let r = clear_alone part (All-tail (λ c. slash c ≡ false) b part clear) in
    rw e (omega (arith, r))

pub first_part_alone : (part : List ℕ) → IsClear part → first_part part ≡ part
first_part_alone part clear = first_part_is part part (length part) (clear_alone part clear) (take_all _ part (omega arith))
