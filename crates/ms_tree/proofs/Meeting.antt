-- What a walk meets where it meets no fault: some files, in whatever order.
use Rattle.std.proofs.Common.{◌≡◌, ℕ, ◌+◌, ◌≤◌, false, ltb, List, [], ◌∷◌, ◌++◌, length, Contains, ◌↔◌, Ok, refl, sym, ap, subst, ◌∙◌, append_assoc, arith, inl, inr, sum_by, IsPermutation}
use Rattle.std.specs.List.{flat_map}
use Rattle.std.specs.Map.{values_of}
use Rattle.std.proofs.lemmas.Bool.{le-ltb}
use Rattle.std.proofs.lemmas.List.{length-append, map-append}
use Rattle.std.proofs.lemmas.List.Elements.{Contains-append_left, Contains-append_right, Contains-append_cases}
use Rattle.std.proofs.lemmas.List.Sorted.{length_permutation, Contains-permutation, IsPermutation-sym}
use Rattle.std.proofs.lemmas.List.Sums.{sum_by-append}
use Rattle.std.proofs.lemmas.Map.Entries.{sum_by_values_permutation}
use Rattle.ms_base.specs.Places.{in_none, in_here, in_later, in_cases}
use Rattle.ms_object.specs.Trees.{FileText, Met, bytes_met, first_fault}
use Rattle.ms_tree.specs.Files.{total_of}
use Rattle.ms_tree.proofs.Faults.{bytes_append}

-- the files are met, each once, and no fault
pub record Meets (files : List FileText) (met : List Met) : Type 0 where
  pub goes_on : (count total : ℕ) (more : List Met) → count + length files ≤ 100000 → total + total_of files ≤ 1073741824
      → first_fault count total (met ++ more) ≡ first_fault (count + length files) (total + total_of files) more
  pub found : (file : FileText) → Contains files file ↔ Contains met (Ok file)
  pub bytes : bytes_met met ≡ total_of files

total_append : (a b : List FileText) → total_of (a ++ b) ≡ total_of a + total_of b
total_append a b = ap (sum_by length) (map-append (λ (e : FileText). e.1) a b) ∙ sum_by-append length (values_of a) (values_of b)

two_same : (met : List Met) (c d t u : ℕ) → c ≡ d → t ≡ u → first_fault c t met ≡ first_fault d u met
two_same met c d t u e f = ap (λ (n : ℕ). first_fault n t met) e ∙ ap (λ (n : ℕ). first_fault d n met) f

pub meets_none : Meets [] []
meets_none = record {
  goes_on = λ count total more few small. two_same more count (count + 0) total (total + 0) (omega arith) (omega arith);
  found = λ file. (λ h. absurd (in_none file h), λ h. absurd (in_none (Ok file) h));
  bytes = refl;
}

pub meets_one : (f : FileText) → Meets (f ∷ []) (Ok f ∷ [])
meets_one f = record {
  goes_on = λ count total more few small.
      let one : ltb 100000 (count + 1) ≡ false = le-ltb _ _ few in
      let sum : total_of (f ∷ []) ≡ length f.1 = omega arith in
      let much : ltb 1073741824 (total + length f.1) ≡ false = le-ltb _ _ (omega (arith, small, sum)) in
      let here : first_fault count total (Ok f ∷ more) ≡ first_fault (count + 1) (total + length f.1) more = rw (one, much) refl in
      here ∙ two_same more (count + 1) (count + 1) (total + length f.1) (total + total_of (f ∷ [])) refl (omega (arith, sum));
  found = λ file. (
    λ h. elim (in_cases f [] file h) [ inl same ↦ subst (λ (g : FileText). Contains {X = Met} (Ok f ∷ []) (Ok g)) same (in_here {X = Met} (Ok f) []) | inr none ↦ absurd (in_none file none) ],
    λ h. elim (in_cases (Ok f) [] (Ok file) h) [ inl same ↦ (let e : f ≡ file = cc in subst (λ (g : FileText). Contains (f ∷ []) g) e (in_here f [])) | inr none ↦ absurd (in_none (Ok file) none) ],
  );
  bytes = omega arith;
}

pub meets_append : (a b : List FileText) (x y : List Met) → Meets a x → Meets b y → Meets (a ++ b) (x ++ y)
meets_append a b x y p q = record {
  goes_on = λ count total more few small.
      let l = length-append a b in
      let t = total_append a b in
      ap (first_fault count total) (append_assoc x y more)
      ∙ p.goes_on count total (y ++ more) (omega (arith, few, l)) (omega (arith, small, t))
      ∙ q.goes_on (count + length a) (total + total_of a) more (omega (arith, few, l)) (omega (arith, small, t))
      ∙ two_same more (count + length a + length b) (count + length (a ++ b)) (total + total_of a + total_of b) (total + total_of (a ++ b)) (omega (arith, l)) (omega (arith, t));
  found = λ file. (
    λ h. elim (Contains-append_cases a b file h) [
      | inl first ↦ Contains-append_left x y (Ok file) ((p.found file).0 first)
      | inr second ↦ Contains-append_right x y (Ok file) ((q.found file).0 second)
    ],
    λ h. elim (Contains-append_cases x y (Ok file) h) [
      | inl first ↦ Contains-append_left a b file ((p.found file).1 first)
      | inr second ↦ Contains-append_right a b file ((q.found file).1 second)
    ],
  );
  bytes = omega (arith, bytes_append x y, total_append a b, p.bytes, q.bytes);
}

pub meets_permuted : (a b : List FileText) (met : List Met) → IsPermutation a b → Meets a met → Meets b met
meets_permuted a b met same h = record {
  goes_on = λ count total more few small.
      let l : length b ≡ length a = length_permutation a b same in
      let t : total_of b ≡ total_of a = sum_by_values_permutation length a b same in
      h.goes_on count total more (omega (arith, few, l)) (omega (arith, small, t))
      ∙ two_same more (count + length a) (count + length b) (total + total_of a) (total + total_of b) (omega (arith, l)) (omega (arith, t));
  found = λ file. (
    λ has. (h.found file).0 (Contains-permutation b a file (IsPermutation-sym a b same) has),
    λ has. Contains-permutation a b file same ((h.found file).1 has),
  );
  bytes = h.bytes ∙ sym (sum_by_values_permutation length a b same);
}

pub meets_same : (a b : List FileText) (x y : List Met) → a ≡ b → x ≡ y → Meets a x → Meets b y
meets_same a b x y e f h = subst (λ (files : List FileText). Meets files y) e (subst (λ (met : List Met). Meets a met) f h)

-- part by part
pub meets_each : (files_of : List ℕ → List FileText) (met_of : List ℕ → List Met) (parts : List (List ℕ)) → ((p : List ℕ) → Contains parts p → Meets (files_of p) (met_of p))
    → Meets (flat_map files_of parts) (flat_map met_of parts)
meets_each files_of met_of [] each = meets_none
meets_each files_of met_of (p ∷ parts) each =
    meets_append (files_of p) (flat_map files_of parts) (met_of p) (flat_map met_of parts) (each p (in_here p parts))
    (meets_each files_of met_of parts (λ q has. each q (in_later p parts q has)))
