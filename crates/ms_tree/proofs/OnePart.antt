-- Planting one part: its file, or its directory.
use Rattle.std.proofs.Common.{◌≡◌, ℕ, ◌+◌, ◌-◌, ◌<◌, ◌≤◌, List, [], ◌∷◌, ◌++◌, inl, inr, refl, sym, ap, ◌∙◌, subst, length, drop, get_or, All, Contains, Option, Some, None, length-append, length-drop, length-take, drop-drop, add-one, add_assoc, ◌==◌, arith}
use Rattle.std.specs.List.{position_or_len}
use Rattle.std.proofs.lemmas.List.{length-map}
use Rattle.std.proofs.lemmas.List.Elements.{All-contains, Contains-get_or}
use Rattle.ms_base.specs.Places.{in_none, in_cases, all_from, map_has}
use Rattle.ms_object.specs.declared.format.Format.{Format}
use Rattle.ms_base.specs.declared.names.Name.{Name}
use Rattle.ms_object.specs.declared.format.Format.TheVariants as formats
use Rattle.ms_object.specs.declared.object.Kind.{Kind}
use Rattle.ms_object.specs.declared.object.Kind.TheVariants as kinds
use Rattle.ms_object.specs.declared.object.SizedRow.{SizedRow}
use Rattle.ms_object.specs.Objects.{most_file}
use Rattle.ms_object.specs.Trees.{FileText}
use Rattle.ms_tree.specs.declared.files.FileRef.{FileRef}
use Rattle.ms_tree.specs.Planting.{blob_texts, file_text, first_part, file_at, files_below, row_of, file_texts, directory_text, named, object_texts, part_row, part_texts, size_said}
use Rattle.ms_tree.specs.Files.{total_of}
use Rattle.ms_tree.specs.Folders.{AreSmall, IsFolder, IsFileBelow, Reach, cut_files, shown_from}
use Rattle.ms_tree.proofs.Cutting.{IsClear, rest_of, first_part_clear}
use Rattle.ms_tree.proofs.Inside.{IsUnder, one_or_under, file_at_one, file_at_under, files_below_under, folder_below}

-- a part of a folder that is shown
pub record IsPart (format : Format) (left skip : ℕ) (files : List FileRef) (label : List ℕ) : Type 0 where
  pub reach : Reach skip files
  pub folder : IsFolder format (left + 1) (shown_from skip files)
  pub same : All (λ file. first_part file.0 ≡ label) (shown_from skip files)
  pub some : 0 < length files

first_shown : (skip : ℕ) (files : List FileRef) (d : FileRef) → 0 < length files → Contains (shown_from skip files) (drop skip (get_or files 0 d).path.now, (get_or files 0 d).text.now)
first_shown skip files d some = map_has (λ file. let f : FileText = (drop skip file.path.now, file.text.now) in f) files (get_or files 0 d) (Contains-get_or files 0 d some)

same_at : (format : Format) → (left skip : ℕ) (files : List FileRef) (label : List ℕ) → IsPart format left skip files label → (file : FileText) → Contains (shown_from skip files) file → first_part file.0 ≡ label
same_at format left skip files label is file has = All-contains (λ file. first_part file.0 ≡ label) (shown_from skip files) file is.same has

-- the label lies within the first path
pub label_within : (format : Format) → (left skip : ℕ) (files : List FileRef) (label : List ℕ) (d : FileRef) → IsPart format left skip files label → skip + length label ≤ length (get_or files 0 d).path.now
label_within format left skip files label d is =
    let path = (get_or files 0 d).path.now in
    let e : first_part (drop skip path) ≡ label = same_at format left skip files label is (drop skip path, (get_or files 0 d).text.now) (first_shown skip files d is.some) in
    omega (arith, ap length e, length-take (position_or_len (λ b. b == 47) (drop skip path)) (drop skip path), length-drop skip path, is.reach 0 d is.some)

-- where nothing is behind the label, the part is one file
pub record IsOneFile (format : Format) (left skip : ℕ) (files : List FileRef) (label text : List ℕ) : Type 0 where
  pub fits : length text ≤ most_file format
  pub row : part_row format left (shown_from skip files) label ≡ record { kind = kinds.File; label = label; size = size_said format (length text); name = named (file_text format text) }
  pub texts : part_texts format left (shown_from skip files) label ≡ blob_texts format text ++ file_text format text ∷ []

under_longer : (label : List ℕ) (file : FileText) → IsUnder label file → length label < length file.0
under_longer label file u = omega (arith, ap length u, length-append label (47 ∷ rest_of file.0))

file_row : (format : Format) → (left : ℕ) (files : List FileText) (label text : List ℕ) → file_at files label ≡ Some text → part_row format left files label ≡ record { kind = kinds.File; label = label; size = size_said format (length text); name = named (file_text format text) }
file_row format left files label text e = ap (λ (o : Option (List ℕ)). row_of format label o (total_of (files_below files label)) (directory_text format left (files_below files label))) e

file_objects : (format : Format) → (left : ℕ) (files : List FileText) (label text : List ℕ) → file_at files label ≡ Some text → part_texts format left files label ≡ blob_texts format text ++ file_text format text ∷ []
file_objects format left files label text e = ap (λ (o : Option (List ℕ)). file_texts format o (object_texts format left (files_below files label))) e

dir_row : (format : Format) → (left : ℕ) (files : List FileText) (label : List ℕ) → file_at files label ≡ None → part_row format left files label ≡ record { kind = kinds.Dir; label = label; size = size_said format (total_of (files_below files label)); name = named (directory_text format left (files_below files label)) }
dir_row format left files label e = ap (λ (o : Option (List ℕ)). row_of format label o (total_of (files_below files label)) (directory_text format left (files_below files label))) e

dir_objects : (format : Format) → (left : ℕ) (files : List FileText) (label : List ℕ) → file_at files label ≡ None → part_texts format left files label ≡ object_texts format left (files_below files label)
dir_objects format left files label e = ap (λ (o : Option (List ℕ)). file_texts format o (object_texts format left (files_below files label))) e

single : (a b : FileText) → Contains (a ∷ []) b → a ≡ b
single a b h = elim (in_cases a [] b h) [ inl e ↦ e | inr none ↦ absurd (in_none b none) ]

pub one_file : (format : Format) → (left skip : ℕ) (files : List FileRef) (label : List ℕ) (d : FileRef) → IsPart format left skip files label → length (get_or files 0 d).path.now - skip - length label ≡ 0
    → IsOneFile format left skip files label (get_or files 0 d).text.now
one_file format left skip files label d is none =
    let first = get_or files 0 d in
    let f : FileText = (drop skip first.path.now, first.text.now) in
    let has = first_shown skip files d is.some in
    let len : length (drop skip first.path.now) ≤ length label = omega (arith, none, length-drop skip first.path.now) in
    let shown_some : 0 < length (shown_from skip files) = omega (arith, is.some, length-map files (λ file. let g : FileText = (drop skip file.path.now, file.text.now) in g)) in
    elim (one_or_under format (left + 1) label (shown_from skip files) is.folder (same_at format left skip files label is) shown_some) [
      | inl one ↦ (
          let e : (label, one.0) ≡ f = single (label, one.0) f (subst (λ (l : List FileText). Contains l f) one.1 has) in
          let text : one.0 ≡ first.text.now = ap (λ (g : FileText). g.1) e in
          let at : file_at (shown_from skip files) label ≡ Some first.text.now = ap (λ (l : List FileText). file_at l label) one.1 ∙ file_at_one label one.0 ∙ ap (λ (t : List ℕ). let o : Option (List ℕ) = Some t in o) text in record {
            fits = (All-contains (IsFileBelow format (left + 1)) (shown_from skip files) f is.folder.each has).fits;
            row = file_row format left (shown_from skip files) label first.text.now at;
            texts = file_objects format left (shown_from skip files) label first.text.now at;
          })
      | inr under ↦ absurd (omega (arith, under_longer label f (under f has), len))
    ]

-- where something is, it is a directory
pub record IsOneDir (format : Format) (left skip : ℕ) (files : List FileRef) (label : List ℕ) : Type 0 where
  pub reach : Reach (skip + length label + 1) files
  pub folder : IsFolder format left (shown_from (skip + length label + 1) files)
  pub row : part_row format left (shown_from skip files) label ≡ record { kind = kinds.Dir; label = label; size = size_said format (total_of (shown_from (skip + length label + 1) files)); name = named (directory_text format left (shown_from (skip + length label + 1) files)) }
  pub texts : part_texts format left (shown_from skip files) label ≡ object_texts format left (shown_from (skip + length label + 1) files)

cut_shown : (skip n : ℕ) (files : List FileRef) → cut_files n (shown_from skip files) ≡ shown_from (skip + n) files
cut_shown skip n [] = refl
cut_shown skip n (file ∷ files) =
    ap (λ (p : List ℕ). let f : FileText = (p, file.text.now) in f ∷ cut_files n (shown_from skip files)) (drop-drop n skip file.path.now)
    ∙ ap (λ (l : List FileText). let f : FileText = (drop (skip + n) file.path.now, file.text.now) in f ∷ l) (cut_shown skip n files)

below_shown : (skip : ℕ) (label : List ℕ) (files : List FileRef) → cut_files (length label + 1) (shown_from skip files) ≡ shown_from (skip + length label + 1) files
below_shown skip label files = cut_shown skip (length label + 1) files ∙ ap (λ (n : ℕ). shown_from n files) (sym (add_assoc skip (length label) 1))

pub one_dir : (format : Format) → (left skip : ℕ) (files : List FileRef) (label : List ℕ) (d : FileRef) → IsPart format left skip files label → 0 < length (get_or files 0 d).path.now - skip - length label → IsOneDir format left skip files label
one_dir format left skip files label d is more =
    let first = get_or files 0 d in
    let f : FileText = (drop skip first.path.now, first.text.now) in
    let has = first_shown skip files d is.some in
    let len : length label < length (drop skip first.path.now) = omega (arith, more, length-drop skip first.path.now) in
    let shown_some : 0 < length (shown_from skip files) = omega (arith, is.some, length-map files (λ file. let g : FileText = (drop skip file.path.now, file.text.now) in g)) in
    elim (one_or_under format (left + 1) label (shown_from skip files) is.folder (same_at format left skip files label is) shown_some) [
      | inl one ↦ (
          let e : (label, one.0) ≡ f = single (label, one.0) f (subst (λ (l : List FileText). Contains l f) one.1 has) in
          absurd (omega (arith, ap (λ (g : FileText). length g.0) e, len)))
      | inr under ↦ (
          let cut = below_shown skip label files in
          let clear : IsClear label = subst IsClear (same_at format left skip files label is f has) (first_part_clear f.0) in
          let below = files_below_under label (shown_from skip files) under ∙ cut in
          let none = file_at_under label (shown_from skip files) under in record {
            reach = all_from (λ (file : FileRef). skip + length label + 1 ≤ length file.path.now) files (λ file there.
                let g : FileText = (drop skip file.path.now, file.text.now) in
                let longer = under_longer label g (under g (map_has (λ x. let y : FileText = (drop skip x.path.now, x.text.now) in y) files file there)) in
                omega (arith, longer, length-drop skip file.path.now));
            folder = subst (IsFolder format left) cut (folder_below format left label (shown_from skip files) clear (subst (λ (n : ℕ). IsFolder format n (shown_from skip files)) (add-one left) is.folder) under);
            row = dir_row format left (shown_from skip files) label none ∙ ap (λ (l : List FileText). let r : SizedRow = record { kind = kinds.Dir; label = label; size = size_said format (total_of l); name = named (directory_text format left l) } in r) below;
            texts = dir_objects format left (shown_from skip files) label none ∙ ap (object_texts format left) below;
          })
    ]

pub row_same : (kind : Kind) (label other : List ℕ) (size another_size : ℕ) (name another : Name) → label ≡ other → size ≡ another_size → name ≡ another
    → ◌≡◌ {A = SizedRow} (record { kind = kind; label = label; size = size; name = name }) (record { kind = kind; label = other; size = another_size; name = another })
row_same kind label other size another_size name another e s f = λ i. record { kind = kind; label = e i; size = s i; name = f i }

-- few small files
pub part_small : (format : Format) (left skip : ℕ) (files : List FileRef) → IsFolder format left (shown_from skip files) → AreSmall files
part_small format left skip files w = record {
  few = omega (arith, w.few, length-map files (λ file. let g : FileText = (drop skip file.path.now, file.text.now) in g));
  each = all_from (λ (file : FileRef). length file.text.now ≤ 1073741824) files (λ file has.
      let g : FileText = (drop skip file.path.now, file.text.now) in
      let fit = (All-contains (IsFileBelow format left) (shown_from skip files) g w.each (map_has (λ x. let y : FileText = (drop skip x.path.now, x.text.now) in y) files file has)).fits in
      most format (length file.text.now) fit);
}
  where
    most : (f : Format) (n : ℕ) → n ≤ most_file f → n ≤ 1073741824
    most formats.One n fit = omega (arith, fit)
    most formats.Two n fit = omega (arith, fit)
