-- Planting a folder part by part.
use Rattle.std.proofs.Common.{◌≡◌, ℕ, zero, suc, ◌+◌, ◌-◌, ◌<◌, ◌≤◌, List, [], ◌∷◌, ◌++◌, refl, sym, ap, ◌∙◌, subst, length, map, take, drop, get_or, flat_map, All, Contains, Option, take_all, length-drop, length-take, ◌==◌, append-nil, arith}
use Rattle.std.specs.List.{position_or_len}
use Rattle.std.proofs.lemmas.List.{get_or-map, length-map, take_more, map-append}
use Rattle.std.proofs.lemmas.List.Elements.{All-contains, All-cons, All-head, All-tail, Contains-get_or}
use Rattle.std.proofs.lemmas.Grind.{flat_map-append}
use Rattle.ms_base.specs.Places.{in_here, all_from}
use Rattle.ms_object.specs.declared.format.Format.{Format}
use Rattle.ms_object.specs.declared.object.SizedRow.{SizedRow}
use Rattle.ms_object.specs.Labels.{IsLabel}
use Rattle.ms_object.specs.Objects.{IsSizedDir, object_text}
use Rattle.ms_object.specs.Trees.{Texts, FileText}
use Rattle.ms_tree.specs.declared.files.FileRef.{FileRef}
use Rattle.ms_tree.specs.declared.parts.Part.{Part}
use Rattle.ms_tree.specs.Planting.{AddsTexts, dir_object, first_part, first_parts, file_at, files_below, row_of, file_texts, directory_text, object_texts, part_row, part_texts}
use Rattle.ms_tree.specs.Files.{total_of}
use Rattle.ms_tree.specs.Folders.{IsFolder, IsFileBelow, Reach, in_part, shown_from, shown_part, split_files}
use Rattle.ms_tree.proofs.Cutting.{IsClear, first_part_clear}
use Rattle.ms_tree.proofs.FirstParts.{part_of, part_from}
use Rattle.ms_tree.proofs.Groups.{begins, folder_filter, tested_same, same_tested}
use Rattle.ms_tree.proofs.Inside.{file_at_group, files_below_group, label_first}
use Rattle.ms_tree.proofs.Members.{map_from, filter_from, filter_has}
use Rattle.ms_tree.proofs.PlantedTree.{rows_at, dir_is, directory_is}
use Rattle.ms_tree.proofs.Runs.{Group}
use Rattle.ms_tree.proofs.Stored.{adds_none, adds_more}

-- what planting a part asks and gives, where it is this part of the folder
pub record IsPartOf (format : Format) (left skip : ℕ) (files : List FileText) (label : List ℕ) (part : Part) : Type 0 where
  pub levels : 0 < left
  pub reach : Reach skip part.files.now
  pub folder : IsFolder format (left - 1 + 1) (shown_from skip part.files.now)
  pub same : All (λ file. first_part file.0 ≡ part.label.now) (shown_from skip part.files.now)
  pub some : 0 < length part.files.now
  pub row : part_row format (left - 1) (shown_from skip part.files.now) part.label.now ≡ part_row format (left - 1) files label
  pub texts : part_texts format (left - 1) (shown_from skip part.files.now) part.label.now ≡ part_texts format (left - 1) files label

group_row : (format : Format) (left : ℕ) (files : List FileText) (label : List ℕ) → IsClear label → part_row format left (in_part files label) label ≡ part_row format left files label
group_row format left files label clear =
    ap (λ (o : Option (List ℕ)). row_of format label o (total_of (files_below (in_part files label) label)) (directory_text format left (files_below (in_part files label) label))) (file_at_group files label clear)
    ∙ ap (λ (l : List FileText). row_of format label (file_at files label) (total_of l) (directory_text format left l)) (files_below_group files label clear)

group_texts : (format : Format) → (left : ℕ) (files : List FileText) (label : List ℕ) → IsClear label → part_texts format left (in_part files label) label ≡ part_texts format left files label
group_texts format left files label clear =
    ap (λ (o : Option (List ℕ)). file_texts format o (object_texts format left (files_below (in_part files label) label))) (file_at_group files label clear)
    ∙ ap (λ (l : List FileText). file_texts format (file_at files label) (object_texts format left l)) (files_below_group files label clear)

far : (skip : ℕ) (path label : List ℕ) → 0 < length label → first_part (drop skip path) ≡ label → skip ≤ length path
far skip path label some e = omega (arith, ap length e, length-take (position_or_len (λ b. b == 47) (drop skip path)) (drop skip path), length-drop skip path)

-- a part that is shown with a label that begins no path past its start
reaches : (skip : ℕ) (files : List FileRef) (label : List ℕ) → 0 < length label → All (λ file. first_part file.0 ≡ label) (shown_from skip files) → Reach skip files
reaches skip [] label some same = λ k d below. absurd (omega arith)
reaches skip (file ∷ files) label some same =
    let P : FileText → Type 0 = λ f. first_part f.0 ≡ label in
    let shown : FileText = (drop skip file.path.now, file.text.now) in
    All-cons (λ (f : FileRef). skip ≤ length f.path.now) file files (far skip file.path.now label some (All-head P shown (shown_from skip files) same)) (reaches skip files label some (All-tail P shown (shown_from skip files) same))

pub part_is : (format : Format) → (left skip : ℕ) (files : List FileText) (label : List ℕ) (part : Part) → IsFolder format left files → Contains (first_parts files) label → part.label.now ≡ label → shown_from skip part.files.now ≡ in_part files label
    → IsPartOf format left skip files label part
part_is format left skip files label part w has named shown =
    let from = map_from part_of files label (part_from files label has) in
    let first = label_first format left from.0 (All-contains (IsFileBelow format left) files from.0 w.each from.1) in
    let is_label : IsLabel label = subst IsLabel from.2 first.0 in
    let clear : IsClear label = subst IsClear from.2 (first_part_clear from.0.0) in
    let member = filter_has (begins label) files from.0 from.1 (same_tested (part_of from.0) label from.2) in
    let same' : All (λ file. first_part file.0 ≡ label) (in_part files label) = all_from (λ (file : FileText). first_part file.0 ≡ label) (in_part files label) (λ f h. tested_same (first_part f.0) label (filter_from (begins label) files f h).1) in
    let same = subst (λ (l : List FileText). All (λ file. first_part file.0 ≡ label) l) (sym shown) same' in
    let some' : Contains (shown_from skip part.files.now) from.0 = subst (λ (l : List FileText). Contains l from.0) (sym shown) member in
    let lefts : left ≡ left - 1 + 1 = omega (arith, first.1) in record {
      levels = first.1;
      reach = reaches skip part.files.now label is_label.some same;
      folder = subst (λ (n : ℕ). IsFolder format n (shown_from skip part.files.now)) lefts (subst (λ (l : List FileText). IsFolder format left l) (sym shown) (folder_filter format left (begins label) files w));
      same = subst (λ (l : List ℕ). All (λ file. first_part file.0 ≡ l) (shown_from skip part.files.now)) (sym named) same;
      some = omega (arith, some'.1, length-map part.files.now (λ file. let f : FileText = (drop skip file.path.now, file.text.now) in f));
      row = ap (λ (l : List FileText). part_row format (left - 1) l part.label.now) shown ∙ ap (λ (l : List ℕ). part_row format (left - 1) (in_part files label) l) named ∙ group_row format (left - 1) files label clear;
      texts = ap (λ (l : List FileText). part_texts format (left - 1) l part.label.now) shown ∙ ap (λ (l : List ℕ). part_texts format (left - 1) (in_part files label) l) named ∙ group_texts format (left - 1) files label clear;
    }

-- the part at a place is the part of that label
pub part_here : (format : Format) → (left skip : ℕ) (files : List FileRef) (parts : List Part) (i : ℕ) (d : Part) → IsFolder format left (shown_from skip files) → map (shown_part skip) parts ≡ split_files (shown_from skip files) → i < length parts
    → IsPartOf format left skip (shown_from skip files) (get_or (first_parts (shown_from skip files)) i []) (get_or parts i d)
part_here format left skip files parts i d w split below =
    let all = shown_from skip files in
    let labels = first_parts all in
    let group_of : List ℕ → Group = λ label. (label, in_part all label) in
    let len : length parts ≡ length labels = sym (length-map parts (shown_part skip)) ∙ ap length split ∙ length-map labels group_of in
    let inside : i < length labels = omega arith in
    let e : Group = ([], []) in
    let here : shown_part skip (get_or parts i d) ≡ group_of (get_or labels i []) = sym (get_or-map (shown_part skip) parts i d e below) ∙ ap (λ (l : List Group). get_or l i e) split ∙ get_or-map group_of labels i [] e inside in
    part_is format left skip all (get_or labels i []) (get_or parts i d) w (Contains-get_or labels i [] inside) (ap (λ (g : Group). g.0) here) (ap (λ (g : Group). g.1) here)

-- the parts before a place are planted
pub record ArePlanted (format : Format) (left : ℕ) (files : List FileText) (count : ℕ) (rows : List SizedRow) (old new : Texts) : Type 0 where
  pub rows_so_far : rows ≡ map (part_row format (left - 1) files) (take count (first_parts files))
  pub stored : AddsTexts old new (flat_map (part_texts format (left - 1) files) (take count (first_parts files)))

pub planted_none : (format : Format) → (left : ℕ) (files : List FileText) (rows : List SizedRow) (store : Texts) → rows ≡ [] → ArePlanted format left files 0 rows store store
planted_none format left files rows store none = record { rows_so_far = none; stored = adds_none store }

pub planted_more : (format : Format) → (left skip count : ℕ) (files : List FileText) (part : Part) (rows more : List SizedRow) (row : SizedRow) (old mid new : Texts) → ArePlanted format left files count rows old mid → count < length (first_parts files)
    → IsPartOf format left skip files (get_or (first_parts files) count []) part → row ≡ part_row format (left - 1) (shown_from skip part.files.now) part.label.now → more ≡ rows ++ row ∷ []
    → AddsTexts mid new (part_texts format (left - 1) (shown_from skip part.files.now) part.label.now) → ArePlanted format left files (count + 1) more old new
planted_more format left skip count files part rows more row old mid new a below is here grown adds =
    let labels = first_parts files in
    let label = get_or labels count [] in
    let next : take (count + 1) labels ≡ take count labels ++ label ∷ [] = take_more labels count [] below in record {
      rows_so_far = grown ∙ ap (λ (l : List SizedRow). l ++ row ∷ []) a.rows_so_far ∙ ap (λ (r : SizedRow). map (part_row format (left - 1) files) (take count labels) ++ r ∷ []) (here ∙ is.row)
          ∙ sym (map-append (part_row format (left - 1) files) (take count labels) (label ∷ [])) ∙ ap (map (part_row format (left - 1) files)) (sym next);
      stored = subst (λ (l : List (List ℕ)). AddsTexts old new (flat_map (part_texts format (left - 1) files) l)) (sym next)
          (subst (λ (l : List (List ℕ)). AddsTexts old new l) (sym (flat_map-append (part_texts format (left - 1) files) (take count labels) (label ∷ [])))
          (adds_more old mid new (flat_map (part_texts format (left - 1) files) (take count labels)) (part_texts format (left - 1) files label ++ []) a.stored
          (subst (λ (l : List (List ℕ)). AddsTexts mid new l) (is.texts ∙ sym (append-nil (part_texts format (left - 1) files label))) adds)));
    }

-- all parts are planted
pub record IsPlantedDir (format : Format) (left : ℕ) (files : List FileText) (rows : List SizedRow) (old new : Texts) : Type 0 where
  pub rows_are_all : rows ≡ rows_at format left files
  pub texts : List (List ℕ)
  pub texts_are_all : object_texts format left files ≡ texts ++ directory_text format left files ∷ []
  pub stored : AddsTexts old new texts

no_files : (format : Format) → (files : List FileText) → IsFolder format 0 files → files ≡ []
no_files format [] w = refl
no_files format (file ∷ files) w = absurd (omega (arith, (label_first format 0 file (All-contains (IsFileBelow format 0) (file ∷ files) file w.each (in_here file files))).1))

all_planted : (format : Format) → (left : ℕ) (files : List FileText) (rows : List SizedRow) (old new : Texts) → IsFolder format left files → rows ≡ map (part_row format (left - 1) files) (first_parts files)
    → AddsTexts old new (flat_map (part_texts format (left - 1) files) (first_parts files)) → IsPlantedDir format left files rows old new
unfolding object_texts
all_planted format zero files rows old new w here stored =
    let none = no_files format files w in record {
      rows_are_all = here ∙ ap (λ (l : List FileText). map (part_row format (0 - 1) files) (first_parts l)) none;
      texts = [];
      texts_are_all = refl;
      stored = subst (λ (l : List FileText). AddsTexts old new (flat_map (part_texts format (0 - 1) files) (first_parts l))) none stored;
    }
all_planted format (suc left) files rows old new w here stored =
    let e : suc left - 1 ≡ left = omega arith in record {
      rows_are_all = here ∙ ap (λ (n : ℕ). map (part_row format n files) (first_parts files)) e;
      texts = flat_map (part_texts format left files) (first_parts files);
      texts_are_all = refl;
      stored = subst (λ (n : ℕ). AddsTexts old new (flat_map (part_texts format n files) (first_parts files))) e stored;
    }

pub planted_all : (format : Format) → (left count : ℕ) (files : List FileText) (rows : List SizedRow) (old new : Texts) → IsFolder format left files → ArePlanted format left files count rows old new → length (first_parts files) ≤ count → IsPlantedDir format left files rows old new
planted_all format left count files rows old new w a all =
    let whole : take count (first_parts files) ≡ first_parts files = take_all count (first_parts files) all in
    all_planted format left files rows old new w (a.rows_so_far ∙ ap (map (part_row format (left - 1) files)) whole) (subst (λ (l : List (List ℕ)). AddsTexts old new (flat_map (part_texts format (left - 1) files) l)) whole a.stored)

pub parts_count : (skip : ℕ) (files : List FileText) (parts : List Part) → map (shown_part skip) parts ≡ split_files files → length parts ≡ length (first_parts files)
parts_count skip files parts split = sym (length-map parts (shown_part skip)) ∙ ap length split ∙ length-map (first_parts files) (λ label. let g : Group = (label, in_part files label) in g)

pub dir_fits : (format : Format) (left : ℕ) (files : List FileText) (rows : List SizedRow) → IsFolder format left files → rows ≡ rows_at format left files → IsSizedDir rows
dir_fits format left files rows w e = subst IsSizedDir (sym e) (dir_is format left files w)

pub dir_text : (format : Format) (left : ℕ) (files : List FileText) (rows : List SizedRow) (start out : List ℕ) → rows ≡ rows_at format left files → start ≡ [] → out ≡ start ++ object_text (dir_object format rows) → out ≡ directory_text format left files
dir_text format left files rows start out e none written =
    written ∙ ap (λ (l : List ℕ). l ++ object_text (dir_object format rows)) none ∙ ap (λ (r : List SizedRow). object_text (dir_object format r)) e ∙ sym (directory_is format left files)
