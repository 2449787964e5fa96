-- What begins with one part: one file, or a folder.
use Rattle.std.proofs.Common.{take-append-drop, ◌≡◌, ℕ, suc, ◌+◌, ◌<◌, ◌==◌, false, List, [], ◌∷◌, ◌++◌, ◌⊎◌, inl, inr, refl, sym, ap, ◌∙◌, subst, length, map, take, drop, All, Contains, bytes_eq, Option, Some, None, if◌then◌else◌, append_assoc, take_at, drop_at, length-append, arith}
use Rattle.std.specs.List.{cons_option}
use Rattle.std.proofs.lemmas.Bool.{cases_Bool, false_from_ne_true}
use Rattle.std.proofs.lemmas.List.{length-map}
use Rattle.std.proofs.lemmas.List.Elements.{All-head, All-tail, All-contains}
use Rattle.std.proofs.lemmas.List.Splits.{slice_split_none, slice_split_at}
use Rattle.ms_base.specs.Rising.{Rises, Before, not_before_itself, rises_none, rises_cons, rises_first, rises_rest}
use Rattle.ms_base.specs.Places.{in_here, in_later, all_from, map_has}
use Rattle.ms_object.specs.declared.format.Format.{Format}
use Rattle.ms_object.specs.Labels.{IsLabel}
use Rattle.ms_object.specs.Trees.{FileText}
use Rattle.ms_tree.specs.Paths.{parts_of}
use Rattle.ms_tree.specs.Planting.{first_part, file_at, files_below, below}
use Rattle.ms_tree.specs.Folders.{IsFolder, IsFileBelow, in_part, cut_file, cut_files}
use Rattle.ms_tree.proofs.Members.{map_from}
use Rattle.ms_tree.proofs.Cutting.{IsClear, rest_of, path_cases, first_part_clear, first_part_of, first_part_alone}
use Rattle.ms_tree.proofs.Order.{before_behind}
use Rattle.ms_tree.proofs.FirstParts.{part_of}
use Rattle.ms_tree.proofs.Groups.{path_of, begins, tested_same, tested_other, same_tested}

-- the path is a part, a slash and more
abbrev pub IsUnder : List ℕ → FileText → Type 0
IsUnder part file = file.0 ≡ part ++ 47 ∷ rest_of file.0

front_of : List ℕ → List ℕ
front_of part = part ++ 47 ∷ []

front_length : (part : List ℕ) → length (front_of part) ≡ length part + 1
unfolding front_of
front_length part = length-append part (47 ∷ [])

under_front : (part rest : List ℕ) → part ++ 47 ∷ rest ≡ front_of part ++ rest
unfolding front_of
under_front part rest = sym (append_assoc part (47 ∷ []) rest)

pub drop_part : (part rest : List ℕ) → drop (length part + 1) (part ++ 47 ∷ rest) ≡ rest
drop_part part rest = ap (drop (length part + 1)) (under_front part rest) ∙ drop_at (front_of part) rest (length part + 1) (front_length part)

pub take_part : (part rest : List ℕ) → take (length part + 1) (part ++ 47 ∷ rest) ≡ part ++ 47 ∷ []
unfolding front_of
take_part part rest = ap (take (length part + 1)) (under_front part rest) ∙ take_at (front_of part) rest (length part + 1) (front_length part)

pub cut_under : (part : List ℕ) (file : FileText) → IsUnder part file → file.0 ≡ part ++ 47 ∷ drop (length part + 1) file.0
cut_under part file u =
    let e : drop (length part + 1) file.0 ≡ rest_of file.0 = ap (drop (length part + 1)) u ∙ drop_part part (rest_of file.0) in
    u ∙ ap (λ (l : List ℕ). part ++ 47 ∷ l) (sym e)

not_longer : (part rest : List ℕ) → part ++ 47 ∷ rest ≡ part → ⊥
not_longer part rest e = omega (arith, length-append part (47 ∷ rest), ap length e)

-- the test of `below` at a file that is below
pub below_under : (part : List ℕ) (file : FileText) → IsUnder part file → below part file ≡ Some (cut_file (length part + 1) file)
below_under part file u = rw (same_tested (take (length part + 1) file.0) (part ++ 47 ∷ []) (ap (take (length part + 1)) u ∙ take_part part (rest_of file.0))) refl

front_split : (n : ℕ) (path front : List ℕ) → take n path ≡ front → path ≡ front ++ drop n path
front_split n path front e = sym (take-append-drop n path) ∙ ap (λ (l : List ℕ). l ++ drop n path) e

pub below_other : (part : List ℕ) (file : FileText) → IsClear part → begins part file ≡ false → below part file ≡ None
below_other part file clear unlike =
    rw (false_from_ne_true (bytes_eq (take (length part + 1) file.0) (part ++ 47 ∷ [])) (λ e.
    let s = front_split (length part + 1) file.0 (part ++ 47 ∷ []) (tested_same _ (part ++ 47 ∷ []) e) in
    tested_other (first_part file.0) part unlike (ap first_part (s ∙ append_assoc part (47 ∷ []) (drop (length part + 1) file.0)) ∙ first_part_of part (drop (length part + 1) file.0) clear))) refl

-- only the files that begin with a part count for it
pub files_below_group : (files : List FileText) (part : List ℕ) → IsClear part → files_below (in_part files part) part ≡ files_below files part
files_below_group [] part clear = refl
files_below_group (file ∷ files) part clear =
    let r = files_below_group files part clear in
    elim (cases_Bool (begins part file)) [
      | inl is ↦ rw is (ap (cons_option (below part file)) r)
      | inr other ↦ rw other (r ∙ sym (ap (λ (o : Option FileText). cons_option o (files_below files part)) (below_other part file clear other)))
    ]

pub file_at_group : (files : List FileText) (part : List ℕ) → IsClear part → file_at (in_part files part) part ≡ file_at files part
file_at_group [] part clear = refl
file_at_group (file ∷ files) part clear =
    let r = file_at_group files part clear in
    elim (cases_Bool (begins part file)) [
      | inl is ↦ rw is (ap (λ (o : Option (List ℕ)). if bytes_eq file.0 part then Some file.1 else o) r)
      | inr other ↦ (
          let apart : bytes_eq file.0 part ≡ false = false_from_ne_true _ (λ e. tested_other (first_part file.0) part other (ap first_part (tested_same file.0 part e) ∙ first_part_alone part clear)) in
          rw (other, apart) r)
    ]

-- what begins with a part is one file of that path, or all is below it
pub one_or_under : (format : Format) → (left : ℕ) (part : List ℕ) (files : List FileText) → IsFolder format left files → ((file : FileText) → Contains files file → part_of file ≡ part) → 0 < length files
    → ((text : List ℕ) × (files ≡ (part, text) ∷ [])) ⊎ ((file : FileText) → Contains files file → IsUnder part file)
one_or_under format left part [] w same some = absurd (omega arith)
one_or_under format left part (f ∷ files) w same some =
    elim (path_cases f.0) [
      | inl whole ↦ inl (f.1, one_alone left part f files w same (sym whole ∙ same f (in_here f files)))
      | inr cut ↦ inr (λ file has. all_under left part f files w same (cut ∙ ap (λ (l : List ℕ). l ++ 47 ∷ rest_of f.0) (same f (in_here f files))) file has)
    ]
  where
    part_or_under : (part : List ℕ) (file : FileText) → part_of file ≡ part → (file.0 ≡ part) ⊎ IsUnder part file
    part_or_under part file e = elim (path_cases file.0) [ inl whole ↦ inl (sym whole ∙ e) | inr cut ↦ inr (cut ∙ ap (λ (l : List ℕ). l ++ 47 ∷ rest_of file.0) e) ]

    one_alone : (left : ℕ) (part : List ℕ) (f : FileText) (files : List FileText) → IsFolder format left (f ∷ files) → ((file : FileText) → Contains (f ∷ files) file → part_of file ≡ part) → f.0 ≡ part → f ∷ files ≡ (part, f.1) ∷ []
    one_alone left part f [] w same whole = ap (λ (l : List ℕ). let g : FileText = (l, f.1) in g ∷ []) whole
    one_alone left part f (g ∷ files) w same whole =
        let has = in_later f (g ∷ files) g (in_here g files) in
        elim (part_or_under part g (same g has)) [
          | inl again ↦ absurd (not_before_itself f.0 (subst (λ (l : List ℕ). Before f.0 l) (again ∙ sym whole) (rises_first f.0 (map path_of (g ∷ files)) w.rising g.0 (in_here g.0 (map path_of files)))))
          | inr under ↦ absurd (w.apart f g (in_here f (g ∷ files)) has (rest_of g.0, under ∙ ap (λ (l : List ℕ). l ++ 47 ∷ rest_of g.0) (sym whole)))
        ]

    all_under : (left : ℕ) (part : List ℕ) (f : FileText) (files : List FileText) → IsFolder format left (f ∷ files) → ((file : FileText) → Contains (f ∷ files) file → part_of file ≡ part) → IsUnder part f
        → (file : FileText) → Contains (f ∷ files) file → IsUnder part file
    all_under left part f files w same under file has =
        elim (part_or_under part file (same file has)) [
          | inl whole ↦ absurd (w.apart file f has (in_here f files) (rest_of f.0, under ∙ ap (λ (l : List ℕ). l ++ 47 ∷ rest_of f.0) (sym whole)))
          | inr is ↦ is
        ]

-- one file of that path
pub file_at_one : (part text : List ℕ) → file_at ((part, text) ∷ []) part ≡ Some text
file_at_one part text = rw (same_tested part part refl) refl

-- no file of that path
pub file_at_under : (part : List ℕ) (files : List FileText) → ((file : FileText) → Contains files file → IsUnder part file) → file_at files part ≡ None
file_at_under part [] under = refl
file_at_under part (file ∷ files) under =
    let apart : bytes_eq file.0 part ≡ false = false_from_ne_true _ (λ e. not_longer part (rest_of file.0) (sym (under file (in_here file files)) ∙ tested_same file.0 part e)) in
    rw apart (file_at_under part files (λ f has. under f (in_later file files f has)))

pub files_below_under : (part : List ℕ) (files : List FileText) → ((file : FileText) → Contains files file → IsUnder part file) → files_below files part ≡ cut_files (length part + 1) files
files_below_under part [] under = refl
files_below_under part (file ∷ files) under =
    ap (λ (o : Option FileText). cons_option o (files_below files part)) (below_under part file (under file (in_here file files)))
    ∙ ap (λ (l : List FileText). cut_file (length part + 1) file ∷ l) (files_below_under part files (λ f has. under f (in_later file files f has)))

rises_cut : (part : List ℕ) (files : List FileText) → ((file : FileText) → Contains files file → IsUnder part file) → Rises (map path_of files) → Rises (map path_of (cut_files (length part + 1) files))
unfolding front_of
rises_cut part [] under r = rises_none
rises_cut part (file ∷ files) under r =
    let n = length part + 1 in
    let whole : (f : FileText) → Contains (file ∷ files) f → f.0 ≡ front_of part ++ drop n f.0 = λ f has. cut_under part f (under f has) ∙ under_front part (drop n f.0) in
    rises_cons (drop n file.0) (map path_of (cut_files n files))
    (λ y h.
    let cut = map_from path_of (cut_files n files) y h in
    let f = map_from (cut_file n) files cut.0 cut.1 in
    let e : drop n f.0.0 ≡ y = ap path_of f.2 ∙ cut.2 in
    let less = rises_first file.0 (map path_of files) r f.0.0 (map_has path_of files f.0 f.1) in
    subst (λ (l : List ℕ). Before (drop n file.0) l) e (before_behind (front_of part) (drop n file.0) (drop n f.0.0)
    (subst (λ (l : List ℕ). Before l (front_of part ++ drop n f.0.0)) (whole file (in_here file files)) (subst (λ (l : List ℕ). Before file.0 l) (whole f.0 (in_later file files f.0 f.1)) less))))
    (rises_cut part files (λ f has. under f (in_later file files f has)) (rises_rest file.0 (map path_of files) r))

-- the parts of a path are its first part and those of what is behind it
pub parts_of_cut : (part rest : List ℕ) → IsClear part → parts_of (part ++ 47 ∷ rest) ≡ part ∷ parts_of rest
parts_of_cut part rest clear = slice_split_at (λ b. b == 47) part 47 rest clear refl

pub parts_of_whole : (part : List ℕ) → IsClear part → parts_of part ≡ part ∷ []
parts_of_whole part clear = slice_split_none (λ b. b == 47) part clear

-- the first part of a path is a label, and a path has a part
pub label_first : (format : Format) → (left : ℕ) (file : FileText) → IsFileBelow format left file → IsLabel (first_part file.0) × (0 < left)
label_first format left file is =
    let clear = first_part_clear file.0 in
    elim (path_cases file.0) [
      | inl whole ↦ (
          let e : parts_of file.0 ≡ first_part file.0 ∷ [] = ap parts_of (sym whole) ∙ parts_of_whole (first_part file.0) clear in
          (All-head IsLabel (first_part file.0) [] (subst (λ (l : List (List ℕ)). All IsLabel l) e is.labels), omega (arith, ap length e, is.levels)))
      | inr cut ↦ (
          let e : parts_of file.0 ≡ first_part file.0 ∷ parts_of (rest_of file.0) = ap parts_of cut ∙ parts_of_cut (first_part file.0) (rest_of file.0) clear in
          (All-head IsLabel (first_part file.0) (parts_of (rest_of file.0)) (subst (λ (l : List (List ℕ)). All IsLabel l) e is.labels), omega (arith, ap length e, is.levels)))
    ]

cut_is : (format : Format) → (left : ℕ) (part : List ℕ) (file : FileText) → IsClear part → IsUnder part file → IsFileBelow format (suc left) file → IsFileBelow format left (cut_file (length part + 1) file)
cut_is format left part file clear under is =
    let rest = drop (length part + 1) file.0 in
    let e : parts_of file.0 ≡ part ∷ parts_of rest = ap parts_of (cut_under part file under) ∙ parts_of_cut part rest clear in record {
      labels = All-tail IsLabel part (parts_of rest) (subst (λ (l : List (List ℕ)). All IsLabel l) e is.labels);
      levels = omega (arith, ap length e, is.levels);
      fits = is.fits;
    }

-- the folder below a part
pub folder_below : (format : Format) → (left : ℕ) (part : List ℕ) (files : List FileText) → IsClear part → IsFolder format (suc left) files → ((file : FileText) → Contains files file → IsUnder part file) → IsFolder format left (cut_files (length part + 1) files)
folder_below format left part files clear w under =
    let n = length part + 1 in record {
      rising = rises_cut part files under w.rising;
      apart = λ dir file hd hf d.
          let a = map_from (cut_file n) files dir hd in
          let b = map_from (cut_file n) files file hf in
          let ea : drop n a.0.0 ≡ dir.0 = ap path_of a.2 in
          let eb : drop n b.0.0 ≡ file.0 = ap path_of b.2 in
          w.apart a.0 b.0 a.1 b.1 (
            d.0,
            cut_under part b.0 (under b.0 b.1) ∙ ap (λ (l : List ℕ). part ++ 47 ∷ l) (eb ∙ d.1 ∙ ap (λ (l : List ℕ). l ++ 47 ∷ d.0) (sym ea))
                ∙ sym (append_assoc part (47 ∷ drop n a.0.0) (47 ∷ d.0)) ∙ ap (λ (l : List ℕ). l ++ 47 ∷ d.0) (sym (cut_under part a.0 (under a.0 a.1))),
          );
      each = all_from (IsFileBelow format left) (cut_files n files) (λ f has. let a = map_from (cut_file n) files f has in
          subst (IsFileBelow format left) a.2 (cut_is format left part a.0 clear (under a.0 a.1) (All-contains (IsFileBelow format (suc left)) files a.0 w.each a.1)));
      few = let h = w.few in omega (arith, length-map files (cut_file n));
    }
