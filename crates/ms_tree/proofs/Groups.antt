-- The files of a folder that begin with one part: where they stand, and what they are.
use Rattle.std.proofs.Common.{◌≡◌, ℕ, Bool, true, false, List, [], ◌∷◌, ◌++◌, inl, inr, refl, sym, ap, ◌∙◌, subst, map, filter, take_while, Contains, bytes_eq, append_assoc, arith}
use Rattle.std.proofs.lemmas.Bool.{cond_both, cases_Bool, false_from_ne_true}
use Rattle.std.proofs.lemmas.Cmp.{nat_list_cmp_total}
use Rattle.std.proofs.lemmas.List.Elements.{All-filter, All-tail}
use Rattle.std.proofs.lemmas.List.Sums.{take_while-cons, length-filter, count_by-le-length}
use Rattle.std.proofs.lemmas.Slice.Eq.{bytes_eq-Decides}
use Rattle.ms_base.specs.Rising.{Rises, Before, not_before_itself, rises_cons, rises_first, rises_rest}
use Rattle.ms_base.specs.Places.{in_here, in_later, map_has}
use Rattle.ms_object.specs.declared.format.Format.{Format}
use Rattle.ms_object.specs.Trees.{FileText}
use Rattle.ms_tree.specs.Paths.{IsDirectoryOf}
use Rattle.ms_tree.specs.Planting.{first_part}
use Rattle.ms_tree.specs.Folders.{IsFolder, IsFileBelow, in_part}
use Rattle.ms_tree.proofs.Members.{map_from, filter_from, filter_none}
use Rattle.ms_tree.proofs.Cutting.{rest_of, path_cases, first_part_clear, first_part_of}
use Rattle.ms_tree.proofs.Order.{between}
use Rattle.ms_tree.proofs.FirstParts.{part_of}

abbrev pub path_of : FileText → List ℕ
path_of file = file.0

-- whether a file's path begins with this part
abbrev pub begins : List ℕ → FileText → Bool
begins part file = bytes_eq (first_part file.0) part

pub tested_same : (x y : List ℕ) → bytes_eq x y ≡ true → x ≡ y
tested_same x y e = (bytes_eq-Decides x y).0 e

pub tested_other : (x y : List ℕ) → bytes_eq x y ≡ false → x ≡ y → ⊥
tested_other x y e s = let t : true ≡ false = sym ((bytes_eq-Decides x y).1 s) ∙ e in cc

pub same_tested : (x y : List ℕ) → x ≡ y → bytes_eq x y ≡ true
same_tested x y s = (bytes_eq-Decides x y).1 s

pub folder_rest : (format : Format) → (left : ℕ) (file : FileText) (files : List FileText) → IsFolder format left (file ∷ files) → IsFolder format left files
folder_rest format left file files w = record {
  rising = rises_rest file.0 (map path_of files) w.rising;
  apart = λ f g hf hg. w.apart f g (in_later file files f hf) (in_later file files g hg);
  each = All-tail (IsFileBelow format left) file files w.each;
  few = let h = w.few in omega arith;
}

rises_filter : (p : FileText → Bool) (files : List FileText) → Rises (map path_of files) → Rises (map path_of (filter p files))
rises_filter p [] r = r
rises_filter p (file ∷ files) r =
    let rest = rises_filter p files (rises_rest file.0 (map path_of files) r) in
    cond_both (p file) _ _ (λ l. Rises (map path_of l))
    (λ e. rises_cons file.0 (map path_of (filter p files)) (λ y h. let g = map_from path_of (filter p files) y h in
    rises_first file.0 (map path_of files) r y (subst (λ (z : List ℕ). Contains (map path_of files) z) g.2 (map_has path_of files g.0 (filter_from p files g.0 g.1).0))) rest)
    (λ e. rest)

pub folder_filter : (format : Format) → (left : ℕ) (p : FileText → Bool) (files : List FileText) → IsFolder format left files → IsFolder format left (filter p files)
folder_filter format left p files w = record {
  rising = rises_filter p files w.rising;
  apart = λ f g hf hg. w.apart f g (filter_from p files f hf).0 (filter_from p files g hg).0;
  each = All-filter p (IsFileBelow format left) files w.each;
  few = let h = w.few in omega (arith, length-filter p files, count_by-le-length p files);
}

apart_whole : (f h : FileText) → part_of f ≡ part_of h → first_part f.0 ≡ f.0 → Before f.0 h.0 → (IsDirectoryOf f.0 h.0 → ⊥) → ⊥
apart_whole f h same whole less apart =
    elim (path_cases h.0) [
      | inl e ↦ not_before_itself f.0 (subst (λ (z : List ℕ). Before f.0 z) (sym e ∙ sym same ∙ whole) less)
      | inr cut ↦ apart (rest_of h.0, subst (λ (z : List ℕ). h.0 ≡ z ++ 47 ∷ rest_of h.0) (sym same ∙ whole) cut)
    ]

-- a file between two that begin with one part begins with it
pub part_between : (f g h : FileText) → part_of f ≡ part_of h → Before f.0 g.0 → Before g.0 h.0 → (IsDirectoryOf f.0 h.0 → ⊥) → (IsDirectoryOf h.0 f.0 → ⊥) → part_of g ≡ part_of f
part_between f g h same fg gh apart back =
    elim (path_cases f.0) [
      | inl whole ↦ absurd (apart_whole f h same whole (nat_list_cmp_total.trans f.0 g.0 h.0 fg gh) apart)
      | inr cut ↦ elim (path_cases h.0) [
        | inl e ↦ absurd (back (rest_of f.0, subst (λ (z : List ℕ). f.0 ≡ z ++ 47 ∷ rest_of f.0) (same ∙ e) cut))
        | inr last ↦ (
            let part = part_of f in
            let front = part ++ 47 ∷ [] in
            let cf : f.0 ≡ front ++ rest_of f.0 = cut ∙ sym (append_assoc part (47 ∷ []) (rest_of f.0)) in
            let ch : h.0 ≡ front ++ rest_of h.0 = last ∙ ap (λ (z : List ℕ). z ++ 47 ∷ rest_of h.0) (sym same) ∙ sym (append_assoc part (47 ∷ []) (rest_of h.0)) in
            let r = between front (rest_of f.0) (rest_of h.0) g.0 (subst (λ (z : List ℕ). Before z g.0) cf fg) (subst (λ (z : List ℕ). Before g.0 z) ch gh) in
            ap first_part (r.1 ∙ append_assoc part (47 ∷ []) r.0) ∙ first_part_of part r.0 (first_part_clear f.0))
      ]
    ]

-- behind the first file, those that begin with its part stand first
pub run_is_part : (format : Format) → (left : ℕ) (f : FileText) (files : List FileText) → IsFolder format left (f ∷ files) → in_part files (part_of f) ≡ take_while (begins (part_of f)) files
run_is_part format left f [] w = refl
run_is_part format left f (g ∷ gs) w =
    elim (cases_Bool (begins (part_of f) g)) [
      | inl does ↦ (
          let same = tested_same (part_of g) (part_of f) does in
          let r = subst (λ (z : List ℕ). in_part gs z ≡ take_while (begins z) gs) same (run_is_part format left g gs (folder_rest format left f (g ∷ gs) w)) in
          rw (take_while-cons (begins (part_of f)) g gs) (rw does (ap (λ (l : List FileText). g ∷ l) r)))
      | inr other ↦ (
          let none : in_part gs (part_of f) ≡ [] = filter_none (begins (part_of f)) gs (λ h has. false_from_ne_true _ (λ does.
          tested_other (part_of g) (part_of f) other (part_between f g h (sym (tested_same (part_of h) (part_of f) does))
          (rises_first f.0 (map path_of (g ∷ gs)) w.rising g.0 (in_here g.0 (map path_of gs)))
          (rises_first g.0 (map path_of gs) (rises_rest f.0 (map path_of (g ∷ gs)) w.rising) h.0 (map_has path_of gs h has))
          (w.apart f h (in_here f (g ∷ gs)) (in_later f (g ∷ gs) h (in_later g gs h has)))
          (w.apart h f (in_later f (g ∷ gs) h (in_later g gs h has)) (in_here f (g ∷ gs)))))) in
          rw (take_while-cons (begins (part_of f)) g gs) (rw other none))
    ]
