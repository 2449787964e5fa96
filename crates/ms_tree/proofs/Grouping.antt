-- Files by their first parts: all groups together are all files.
use Rattle.std.proofs.Common.{◌≡◌, ℕ, true, false, List, [], ◌∷◌, ◌++◌, inl, inr, refl, sym, ap, ◌∙◌, subst, Contains, bytes_eq, IsPermutation}
use Rattle.std.specs.List.{flat_map}
use Rattle.std.proofs.lemmas.Bool.{false_from_ne_true}
use Rattle.std.proofs.lemmas.List.Sorted.{IsPermutation-refl, IsPermutation-middle, IsPermutation-cons, IsPermutation-trans}
use Rattle.ms_base.specs.Rising.{Rises, Before, not_before_itself, rises_first, rises_rest}
use Rattle.ms_base.specs.Places.{in_none, in_here, in_later, in_cases}
use Rattle.ms_object.specs.Trees.{FileText}
use Rattle.ms_tree.specs.Planting.{first_part}
use Rattle.ms_tree.specs.Folders.{in_part}
use Rattle.ms_tree.proofs.FirstParts.{part_of}
use Rattle.ms_tree.proofs.Groups.{same_tested, tested_same}

nothing_each : (parts : List (List ℕ)) → flat_map (in_part []) parts ≡ []
nothing_each [] = refl
nothing_each (p ∷ parts) = nothing_each parts

-- a file whose part is none of these changes nothing
others_each : (file : FileText) (files : List FileText) (parts : List (List ℕ)) → ((q : List ℕ) → Contains parts q → part_of file ≡ q → ⊥)
    → flat_map (in_part (file ∷ files)) parts ≡ flat_map (in_part files) parts
others_each file files [] apart = refl
others_each file files (p ∷ parts) apart =
    let no : bytes_eq (first_part file.0) p ≡ false = false_from_ne_true _ (λ e. apart p (in_here p parts) (tested_same (first_part file.0) p e)) in
    let rest = others_each file files parts (λ q has. apart q (in_later p parts q has)) in
    rw no (ap (λ (l : List FileText). in_part files p ++ l) rest)

-- with one file more, all groups together have it more
one_more : (file : FileText) (files : List FileText) (parts : List (List ℕ)) → Rises parts → Contains parts (part_of file)
    → IsPermutation (flat_map (in_part (file ∷ files)) parts) (file ∷ flat_map (in_part files) parts)
one_more file files [] r has = absurd (in_none (part_of file) has)
one_more file files (p ∷ parts) r has =
    elim (in_cases p parts (part_of file) has) [
      | inl same ↦ (
          let yes : bytes_eq (first_part file.0) p ≡ true = same_tested (first_part file.0) p (sym same) in
          let rest = others_each file files parts (λ q there e. not_before_itself p (subst (λ (z : List ℕ). Before p z) (sym e ∙ sym same) (rises_first p parts r q there))) in
          let whole : flat_map (in_part (file ∷ files)) (p ∷ parts) ≡ file ∷ flat_map (in_part files) (p ∷ parts) = rw yes (ap (λ (l : List FileText). file ∷ (in_part files p ++ l)) rest) in
          subst (λ (l : List FileText). IsPermutation l (file ∷ flat_map (in_part files) (p ∷ parts))) (sym whole) (IsPermutation-refl _))
      | inr later ↦ (
          let no : bytes_eq (first_part file.0) p ≡ false =
          false_from_ne_true _ (λ e. not_before_itself p (subst (λ (z : List ℕ). Before p z) (tested_same (first_part file.0) p e) (rises_first p parts r (part_of file) later))) in
          let front : in_part (file ∷ files) p ≡ in_part files p = rw no refl in
          let whole : flat_map (in_part (file ∷ files)) (p ∷ parts) ≡ in_part files p ++ flat_map (in_part (file ∷ files)) parts = ap (λ (l : List FileText). l ++ flat_map (in_part (file ∷ files)) parts) front in
          subst (λ (l : List FileText). IsPermutation l (file ∷ flat_map (in_part files) (p ∷ parts))) (sym whole)
          (IsPermutation-trans _ _ _ (moved (in_part files p) (flat_map (in_part (file ∷ files)) parts) (file ∷ flat_map (in_part files) parts) (one_more file files parts (rises_rest p parts r) later))
          (IsPermutation-middle (in_part files p) file (flat_map (in_part files) parts))))
    ]
  where
    moved : (front xs ys : List FileText) → IsPermutation xs ys → IsPermutation (front ++ xs) (front ++ ys)
    moved [] xs ys h = h
    moved (f ∷ front) xs ys h = IsPermutation-cons f (front ++ xs) (front ++ ys) (moved front xs ys h)

-- each file stands in the group of its part
pub groups_whole : (files : List FileText) (parts : List (List ℕ)) → Rises parts → ((file : FileText) → Contains files file → Contains parts (part_of file))
    → IsPermutation (flat_map (in_part files) parts) files
groups_whole [] parts r has = subst (λ (l : List FileText). IsPermutation l []) (sym (nothing_each parts)) (IsPermutation-refl [])
groups_whole (file ∷ files) parts r has =
    IsPermutation-trans _ _ _ (one_more file files parts r (has file (in_here file files)))
    (IsPermutation-cons file (flat_map (in_part files) parts) files (groups_whole files parts r (λ f there. has f (in_later file files f there))))
