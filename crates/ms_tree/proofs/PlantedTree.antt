-- A store that has the texts of a folder's objects has its tree.
use Rattle.std.proofs.Common.{◌≡◌, ℕ, zero, suc, ◌+◌, ◌<◌, ◌≤◌, Bool, true, false, cond, ltb, List, [], ◌∷◌, ◌++◌, length, map, drop, All, Contains, ◌⊎◌, Option, Some, None, Result, Ok, refl, sym, ap, subst, ◌∙◌, append_assoc, bytes_eq, IsSome, arith, eq-eqb, inl, inr}
use Rattle.std.specs.List.{cons_option, flat_map}
use Rattle.std.specs.Map.{values_of}
use Rattle.std.specs.Prelude.{◌*◌, ◌^◌, ◌==◌, take, if◌then◌else◌}
use Rattle.std.proofs.lemmas.List.Sums.{sum_by-cons}
use Rattle.std.proofs.lemmas.Bool.{le-ltb, cases_Bool}
use Rattle.std.proofs.lemmas.List.{length-map, append-nil, map-append, length-append}
use Rattle.std.proofs.lemmas.List.Folds.{flat_map-map}
use Rattle.std.proofs.lemmas.List.Sorted.{IsPermutation-map}
use Rattle.std.proofs.lemmas.List.Elements.{Contains-append_left, Contains-append_right, All-contains, All-head, All-tail}
use Rattle.sha2.specs.Sha256.{sha256}
use Rattle.sha2.proofs.Facts256.{length-sha256}
use Rattle.ms_base.specs.Rising.{Rises, rises_none}
use Rattle.ms_base.specs.Places.{in_none, in_here, in_later, in_cases, all_from, map_has}
use Rattle.ms_object.specs.declared.format.Format.{Format}
use Rattle.ms_base.specs.declared.names.Name.{Name}
use Rattle.ms_object.specs.declared.fault.GatherError.{GatherError}
use Rattle.ms_object.specs.declared.object.Object.{Object}
use Rattle.ms_object.specs.declared.format.Format.TheVariants as formats
use Rattle.ms_object.specs.declared.object.SizedRow.{SizedRow}
use Rattle.ms_object.specs.Labels.{IsLabel}
use Rattle.ms_object.specs.Objects.{AreNames, AreSizes, IsObject, IsSizedDir, most_file, object_text, sized_names_of}
use Rattle.ms_object.specs.Trees.{Texts, FileText, Met, IsTree, bytes_met, size_fault, with_size, or_fault, object_named, object_or_fault, some_of, top_of, inner_rows_of, file_named, met_file, met_below, if_short, unsized, walk_rows, walk, first_fault}
use Rattle.ms_tree.specs.Files.{total_of}
use Rattle.ms_tree.specs.Folders.{IsFolder, IsFileBelow, in_part, cut_file, cut_files}
use Rattle.ms_tree.specs.Gathering.{row_below, row_met}
use Rattle.ms_tree.specs.Planting.{named, blob_texts, dir_object, file_text, first_part, first_parts, file_at, files_below, plain, row_of, size_said, directory_text, object_texts, part_row, file_texts, part_texts, with_part, Collide, HoldsTexts}
use Rattle.ms_tree.proofs.Cutting.{IsClear, first_part_clear}
use Rattle.ms_tree.proofs.FirstParts.{part_of, parts_rise, part_from, part_in}
use Rattle.ms_tree.proofs.Grouping.{groups_whole}
use Rattle.ms_tree.proofs.Groups.{begins, folder_filter, tested_same, tested_other, same_tested}
use Rattle.ms_tree.proofs.Inside.{IsUnder, cut_under, one_or_under, file_at_group, files_below_group, file_at_one, file_at_under, files_below_under, label_first, folder_below}
use Rattle.ms_tree.proofs.Meeting.{Meets, meets_none, meets_one, meets_each, meets_permuted, meets_same}
use Rattle.ms_tree.proofs.Members.{map_from, filter_from, filter_has}
use Rattle.ms_tree.proofs.PlantedFile.{Reads, Has, object_there, file_there}
use Rattle.ms_tree.proofs.PlainRows.{AreSaid, dir_fits, rows_back, top_back}
use Rattle.ms_tree.proofs.Walks.{rows_met}

-- the rows of a folder
abbrev pub rows_at : (format : Format) → ℕ → List FileText → List SizedRow
rows_at format zero files = []
rows_at format (suc left) files = map (part_row format left files) (first_parts files)

pub directory_is : (format : Format) → (left : ℕ) (files : List FileText) → directory_text format left files ≡ object_text (dir_object format (rows_at format left files))
unfolding directory_text
directory_is format zero files = refl
directory_is format (suc left) files = refl

abbrev label_of : SizedRow → List ℕ
label_of row = row.label

label_of_row : (format : Format) → (left : ℕ) (files : List FileText) (part : List ℕ) → (part_row format left files part).label ≡ part
label_of_row format left files part = by (file_at files part)
  where
    by : (o : Option (List ℕ)) → (row_of format part o (total_of (files_below files part)) (directory_text format left (files_below files part))).label ≡ part
    by None = refl
    by (Some bytes) = refl

name_of_row : (format : Format) → (left : ℕ) (files : List FileText) (part : List ℕ) → length (part_row format left files part).name.0 ≡ 32
name_of_row format left files part = by (file_at files part)
  where
    by : (o : Option (List ℕ)) → length (row_of format part o (total_of (files_below files part)) (directory_text format left (files_below files part))).name.0 ≡ 32
    by None = length-sha256 (directory_text format left (files_below files part))
    by (Some bytes) = length-sha256 (file_text format bytes)

labels_are : (format : Format) → (left : ℕ) (files : List FileText) (parts : List (List ℕ)) → map label_of (map (part_row format left files) parts) ≡ parts
labels_are format left files [] = refl
labels_are format left files (part ∷ parts) = ap (λ (l : List ℕ). l ∷ map label_of (map (part_row format left files) parts)) (label_of_row format left files part) ∙ ap (λ (ls : List (List ℕ)). part ∷ ls) (labels_are format left files parts)

with_part_few : (part : List ℕ) (parts : List (List ℕ)) → length (with_part part parts) ≤ suc (length parts)
with_part_few part [] = omega arith
with_part_few part (first ∷ parts) = by (bytes_eq part first) _ (with_part_few part parts)
  where
    by : (b c : Bool) → length (with_part part parts) ≤ suc (length parts) → length (cond b (first ∷ parts) (cond c (part ∷ first ∷ parts) (first ∷ with_part part parts))) ≤ suc (suc (length parts))
    by true c h = omega arith
    by false true h = omega arith
    by false false h = omega (arith, h)

first_parts_few : (files : List FileText) → length (first_parts files) ≤ length files
first_parts_few [] = omega arith
first_parts_few (file ∷ files) = omega (arith, with_part_few (first_part file.0) (first_parts files), first_parts_few files)

part_is_label : (format : Format) → (left : ℕ) (files : List FileText) → All (IsFileBelow format left) files → (part : List ℕ) → Contains (first_parts files) part → IsLabel part
part_is_label format left files each part has =
    let f = map_from part_of files part (part_from files part has) in
    subst IsLabel f.2 (label_first format left f.0 (All-contains (IsFileBelow format left) files f.0 each f.1)).0

-- ---- the sizes that rows say

most_small : (format : Format) → most_file format ≤ 1073741824
most_small formats.One = omega arith
most_small formats.Two = omega arith

total_small : (format : Format) (left : ℕ) (files : List FileText) → All (IsFileBelow format left) files → total_of files ≤ length files * 1073741824
total_small format left [] each = omega arith
total_small format left (file ∷ files) each =
    let one : length file.1 ≤ most_file format = (All-head (IsFileBelow format left) file files each).fits in
    omega (arith, one, most_small format, sum_by-cons length file.1 (values_of files), total_small format left files (All-tail (IsFileBelow format left) file files each))

total_below : (files : List FileText) (part : List ℕ) → total_of (files_below files part) ≤ total_of files
total_below [] part = omega arith
total_below (file ∷ files) part = by (bytes_eq (take (length part + 1) file.0) (part ++ 47 ∷ [])) (total_below files part)
  where
    by : (b : Bool) → total_of (files_below files part) ≤ total_of files
        → total_of (cons_option (if b then Some (drop (length part + 1) file.0, file.1) else None) (files_below files part)) ≤ total_of (file ∷ files)
    by true h = omega (arith, h, sum_by-cons length file.1 (values_of files), sum_by-cons length file.1 (values_of (files_below files part)))
    by false h = omega (arith, h, sum_by-cons length file.1 (values_of files))

text_small : (files : List FileText) (part bytes : List ℕ) → file_at files part ≡ Some bytes → length bytes ≤ total_of files
text_small [] part bytes e = absurd cc
text_small (file ∷ files) part bytes e = by (bytes_eq file.0 part) (text_small files part bytes) e
  where
    by : (b : Bool) → (file_at files part ≡ Some bytes → length bytes ≤ total_of files) → (if b then Some file.1 else file_at files part) ≡ Some bytes → length bytes ≤ total_of (file ∷ files)
    by true rest e = let same : file.1 ≡ bytes = cc in omega (arith, ap length same, sum_by-cons length file.1 (values_of files))
    by false rest e = omega (arith, rest e, sum_by-cons length file.1 (values_of files))

said_small : (format : Format) (n total : ℕ) → n ≤ total → size_said format n ≤ total
said_small formats.One n total small = omega arith
said_small formats.Two n total small = small

size_of_row : (format : Format) (left : ℕ) (files : List FileText) (part : List ℕ) → (part_row format left files part).size ≤ total_of files
size_of_row format left files part = by (file_at files part) refl
  where
    by : (o : Option (List ℕ)) → file_at files part ≡ o → (row_of format part o (total_of (files_below files part)) (directory_text format left (files_below files part))).size ≤ total_of files
    by None e = said_small format (total_of (files_below files part)) (total_of files) (total_below files part)
    by (Some bytes) e = said_small format (length bytes) (total_of files) (text_small files part bytes e)

row_said : (left : ℕ) (files : List FileText) (part : List ℕ) → unsized (plain (part_row formats.One left files part)) ≡ part_row formats.One left files part
row_said left files part = by (file_at files part)
  where
    by : (o : Option (List ℕ)) → unsized (plain (row_of formats.One part o (total_of (files_below files part)) (directory_text formats.One left (files_below files part)))) ≡ row_of formats.One part o (total_of (files_below files part)) (directory_text formats.One left (files_below files part))
    by None = refl
    by (Some bytes) = refl

rows_said : (left : ℕ) (files : List FileText) (parts : List (List ℕ)) → map unsized (map plain (map (part_row formats.One left files) parts)) ≡ map (part_row formats.One left files) parts
rows_said left files [] = refl
rows_said left files (part ∷ parts) =
    ap (λ (row : SizedRow). row ∷ map unsized (map plain (map (part_row formats.One left files) parts))) (row_said left files part)
    ∙ ap (λ (rows : List SizedRow). part_row formats.One left files part ∷ rows) (rows_said left files parts)

pub are_said : (format : Format) (left : ℕ) (files : List FileText) → AreSaid format (rows_at format left files)
are_said formats.One zero files = refl
are_said formats.One (suc left) files = rows_said left files (first_parts files)
are_said formats.Two left files = tt

-- the rows of a folder are those of a directory
pub dir_is : (format : Format) (left : ℕ) (files : List FileText) → IsFolder format left files → IsSizedDir (rows_at format left files)
dir_is format zero files w = record { few = omega arith; labels = all_from _ [] (λ row has. absurd (in_none row has)); rising = rises_none }
dir_is format (suc left) files w =
    let parts = first_parts files in
    let rows = map (part_row format left files) parts in record {
      few = omega (arith, length-map parts (part_row format left files), first_parts_few files, w.few);
      labels = all_from (λ (row : SizedRow). IsLabel row.label) rows (λ row has. let p = map_from (part_row format left files) parts row has in
          subst (λ (r : SizedRow). IsLabel r.label) p.2 (subst IsLabel (sym (label_of_row format left files p.0)) (part_is_label format (suc left) files w.each p.0 p.1)));
      rising = subst Rises (sym (labels_are format left files parts)) (parts_rise files);
    }

rows_named : (format : Format) (left : ℕ) (files : List FileText) → AreNames (sized_names_of (rows_at format left files))
rows_named format zero files = all_from _ [] (λ n has. absurd (in_none n has))
rows_named format (suc left) files =
    let parts = first_parts files in
    let rows = map (part_row format left files) parts in
    all_from (λ (n : Name). length n.0 ≡ 32) (sized_names_of rows) (λ n has.
    let r = map_from (λ (row : SizedRow). row.name) rows n has in
    let p = map_from (part_row format left files) parts r.0 r.1 in
    subst (λ (m : Name). length m.0 ≡ 32) r.2 (subst (λ (row : SizedRow). length row.name.0 ≡ 32) p.2 (name_of_row format left files p.0)))

rows_sized : (format : Format) (left : ℕ) (files : List FileText) → IsFolder format left files → AreSizes (rows_at format left files)
rows_sized format zero files w = all_from _ [] (λ row has. absurd (in_none row has))
rows_sized format (suc left) files w =
    let rows = map (part_row format left files) (first_parts files) in
    let small : total_of files < 2 ^ 64 = omega (arith, total_small format (suc left) files w.each, w.few) in
    all_from (λ (row : SizedRow). row.size < 2 ^ 64) rows (λ row has.
    let p = map_from (part_row format left files) (first_parts files) row has in
    subst (λ (r : SizedRow). r.size < 2 ^ 64) p.2 (omega (arith, size_of_row format left files p.0, small)))

-- the directory object of a folder
pub rows_are : (format : Format) (left : ℕ) (files : List FileText) → IsFolder format left files → IsObject (dir_object format (rows_at format left files))
rows_are format left files w = dir_fits format (rows_at format left files) (dir_is format left files w) (rows_named format left files) (rows_sized format left files w)

-- a file behind the front of its paths
abbrev pub behind : List ℕ → FileText → FileText
behind before file = (before ++ file.0, file.1)

path_short : (path : List ℕ) (met : List Met) → length path ≤ 1024 → if_short path met ≡ met
path_short path met short = let e : ltb 1024 (length path) ≡ false = le-ltb _ _ short in rw e refl

-- each path of the files stays short behind that front
abbrev pub FitBehind : List ℕ → List FileText → Type 0
FitBehind before files = (file : FileText) → Contains files file → length (before ++ file.0) ≤ 1024

own_text : (format : Format) → (left : ℕ) (files : List FileText) → Contains (object_texts format left files) (directory_text format left files)
unfolding object_texts
own_text format zero files = in_here (directory_text format zero files) []
own_text format (suc left) files = Contains-append_right (flat_map (part_texts format left files) (first_parts files)) (directory_text format (suc left) files ∷ []) (directory_text format (suc left) files) (in_here (directory_text format (suc left) files) [])

in_each : {X A : Type 0} (f : X → List A) (xs : List X) (x : X) (a : A) → Contains xs x → Contains (f x) a → Contains (flat_map f xs) a
in_each f [] x a has there = absurd (in_none x has)
in_each f (y ∷ ys) x a has there =
    elim (in_cases y ys x has) [
      | inl same ↦ Contains-append_left (f y) (flat_map f ys) a (subst (λ z. Contains (f z) a) (sym same) there)
      | inr later ↦ Contains-append_right (f y) (flat_map f ys) a (in_each f ys x a later there)
    ]

part_text_in : (format : Format) → (left : ℕ) (files : List FileText) (part text : List ℕ) → Contains (first_parts files) part → Contains (part_texts format left files part) text → Contains (object_texts format (suc left) files) text
unfolding object_texts
part_text_in format left files part text has there = Contains-append_left (flat_map (part_texts format left files) (first_parts files)) (directory_text format (suc left) files ∷ []) text (in_each (part_texts format left files) (first_parts files) part text has there)

-- the directory of a folder stands under its name
pub directory_there : (format : Format) → (left : ℕ) (files : List FileText) (store : Texts) → Reads → IsFolder format left files → Has store (object_texts format left files)
    → object_named store (named (directory_text format left files)) ≡ Ok (dir_object format (rows_at format left files))
directory_there format left files store reads w has =
    let e = directory_is format left files in
    let there : store (sha256 (object_text (dir_object format (rows_at format left files)))) ≡ Some (object_text (dir_object format (rows_at format left files))) =
    subst (λ (t : List ℕ). store (sha256 t) ≡ Some t) e (has (directory_text format left files) (own_text format left files)) in
    ap (λ (t : List ℕ). object_named store (named t)) e ∙ object_there store (dir_object format (rows_at format left files)) reads (rows_are format left files w) there

folder_empty : (format : Format) → (files : List FileText) → IsFolder format zero files → files ≡ []
folder_empty format [] w = refl
folder_empty format (file ∷ files) w = absurd (omega (arith, (label_first format zero file (All-contains (IsFileBelow format zero) (file ∷ files) file w.each (in_here file files))).1))

has_rows : (format : Format) → (left : ℕ) (file : FileText) (files : List FileText) → IsFolder format left (file ∷ files) → (row : SizedRow) × (rows : List SizedRow) × (rows_at format left (file ∷ files) ≡ row ∷ rows)
has_rows format zero file files w = absurd (omega (arith, (label_first format zero file (All-contains (IsFileBelow format zero) (file ∷ files) file w.each (in_here file files))).1))
has_rows format (suc left) file files w = by (first_parts (file ∷ files)) (part_in (file ∷ files) (part_of file) (in_here (part_of file) (map part_of files)))
  where
    by : (parts : List (List ℕ)) → Contains parts (part_of file) → (row : SizedRow) × (rows : List SizedRow) × (map (part_row format left (file ∷ files)) parts ≡ row ∷ rows)
    by [] h = absurd (in_none (part_of file) h)
    by (p ∷ ps) h = (part_row format left (file ∷ files) p, map (part_row format left (file ∷ files)) ps, refl)

inner_is : (format : Format) (name : Name) (rows : List SizedRow) (row : SizedRow) (others : List SizedRow) → AreSaid format rows → rows ≡ row ∷ others → inner_rows_of format name (dir_object format rows) ≡ Ok rows
inner_is format name rows row others said e =
    ap (λ (o : Option (List SizedRow)). object_or_fault name (some_of o)) (rows_back format rows said)
    ∙ subst (λ (rs : List SizedRow). object_or_fault name (some_of (Some rs)) ≡ Ok rs) (sym e) refl

some_rows : (format : Format) → (left : ℕ) (files : List FileText) → IsFolder format left files → 0 < length files → (row : SizedRow) × (rows : List SizedRow) × (rows_at format left files ≡ row ∷ rows)
some_rows format left [] w some = absurd (omega arith)
some_rows format left (file ∷ files) w some = has_rows format left file files w

-- the files below a part, behind its front, are the files that begin with it
behind_cut : (before part : List ℕ) (files : List FileText) → ((file : FileText) → Contains files file → IsUnder part file)
    → map (behind ((before ++ part) ++ 47 ∷ [])) (cut_files (length part + 1) files) ≡ map (behind before) files
behind_cut before part [] under = refl
behind_cut before part (file ∷ files) under =
    let rest = drop (length part + 1) file.0 in
    let e : ((before ++ part) ++ 47 ∷ []) ++ rest ≡ before ++ file.0 =
    append_assoc (before ++ part) (47 ∷ []) rest ∙ append_assoc before part (47 ∷ rest) ∙ ap (λ (l : List ℕ). before ++ l) (sym (cut_under part file (under file (in_here file files)))) in
    ap (λ (l : List ℕ). let f : FileText = (l, file.1) in f ∷ map (behind ((before ++ part) ++ 47 ∷ [])) (cut_files (length part + 1) files)) e
    ∙ ap (λ (fs : List FileText). behind before file ∷ fs) (behind_cut before part files (λ f has. under f (in_later file files f has)))

-- a row that says the right size is no fault
size_fine : (format : Format) (row : SizedRow) (said bytes : ℕ) → row.size ≡ size_said format said → said ≡ bytes → size_fault format row bytes ≡ []
size_fine formats.One row said bytes is same = refl
size_fine formats.Two row said bytes is same = let test : (row.size == bytes) ≡ true = eq-eqb row.size bytes (is ∙ same) in rw test refl

judged : (format : Format) (row : SizedRow) (said : ℕ) (met : List Met) → row.size ≡ size_said format said → said ≡ bytes_met met → with_size format row met ≡ met
judged format row said met is same = ap (λ (m : List Met). met ++ m) (size_fine format row said (bytes_met met) is same) ∙ append-nil met

-- what is met at a row that is a file
row_is_file : (format : Format) (left : ℕ) (store : Texts) (before part bytes : List ℕ) (row : SizedRow) → row ≡ row_of format part (Some bytes) 0 [] → length (before ++ part) ≤ 1024 → file_named format store (named (file_text format bytes)) ≡ Ok bytes
    → row_met format (suc left) store before row ≡ Ok (before ++ part, bytes) ∷ []
unfolding row_met row_below
row_is_file format left store before part bytes row is short there =
    let met : List Met = Ok (before ++ part, bytes) ∷ [] in
    let said = row_of format part (Some bytes) 0 [] in
    ap (row_met format (suc left) store before) is
    ∙ ap (with_size format said) (path_short (before ++ part) _ short ∙ ap (λ (r : Result (List ℕ) GatherError). met_file (before ++ part) r ∷ []) there)
    ∙ judged format said (length bytes) met refl (omega arith)

-- what is met at a row that is a directory
row_is_directory : (format : Format) (left : ℕ) (store : Texts) (before part directory : List ℕ) (total : ℕ) (rows : List SizedRow) (row : SizedRow) → row ≡ row_of format part None total directory → length (before ++ part) ≤ 1024
    → or_fault (object_named store (named directory)) (inner_rows_of format (named directory)) ≡ Ok rows
    → total ≡ bytes_met (walk_rows format left store ((before ++ part) ++ 47 ∷ []) rows)
    → row_met format (suc left) store before row ≡ walk_rows format left store ((before ++ part) ++ 47 ∷ []) rows
unfolding row_met row_below
row_is_directory format left store before part directory total rows row is short there sum =
    let said = row_of format part None total directory in
    ap (row_met format (suc left) store before) is
    ∙ ap (with_size format said) (path_short (before ++ part) _ short ∙ ap (λ (r : Result (List SizedRow) GatherError). met_below r (walk_rows format left store ((before ++ part) ++ 47 ∷ []))) there)
    ∙ judged format said total (walk_rows format left store ((before ++ part) ++ 47 ∷ []) rows) refl sum

total_behind : (front : List ℕ) (files : List FileText) → total_of (map (behind front) files) ≡ total_of files
total_behind front [] = refl
total_behind front (file ∷ files) = omega (arith, sum_by-cons length file.1 (values_of files), sum_by-cons length file.1 (values_of (map (behind front) files)), total_behind front files)

-- the walk below a folder meets its files
abbrev MeetsBelow : (format : Format) → ℕ → Texts → Type 0
MeetsBelow format left store = (files : List FileText) (before : List ℕ) → IsFolder format left files → FitBehind before files → Has store (object_texts format left files)
    → Meets (map (behind before) files) (walk_rows format left store before (rows_at format left files))

file_met : (format : Format) → (left : ℕ) (store : Texts) (files : List FileText) (before part text : List ℕ) → Reads → IsFolder format (suc left) files → FitBehind before files → Has store (object_texts format (suc left) files)
    → Contains (first_parts files) part → IsClear part → in_part files part ≡ (part, text) ∷ []
    → Meets (map (behind before) (in_part files part)) (row_met format (suc left) store before (part_row format left files part))
file_met format left store files before part text reads w fit has there clear e =
    let here : Contains files (part, text) = (filter_from (begins part) files (part, text) (subst (λ (l : List FileText). Contains l (part, text)) (sym e) (in_here (part, text) []))).0 in
    let at : file_at files part ≡ Some text = sym (file_at_group files part clear) ∙ ap (λ (l : List FileText). file_at l part) e ∙ file_at_one part text in
    let row : part_row format left files part ≡ row_of format part (Some text) 0 [] = ap (λ (o : Option (List ℕ)). row_of format part o (total_of (files_below files part)) (directory_text format left (files_below files part))) at in
    let texts : part_texts format left files part ≡ blob_texts format text ++ file_text format text ∷ [] = ap (λ (o : Option (List ℕ)). file_texts format o (object_texts format left (files_below files part))) at in
    let own : Has store (blob_texts format text ++ file_text format text ∷ []) = λ t h. has t (part_text_in format left files part t there (subst (λ (l : List (List ℕ)). Contains l t) (sym texts) h)) in
    let whole = file_there format store text reads (All-contains (IsFileBelow format (suc left)) files (part, text) w.each here).fits own in
    meets_same _ _ _ _ (ap (map (behind before)) (sym e)) (sym (row_is_file format left store before part text (part_row format left files part) row (fit (part, text) here) whole)) (meets_one (before ++ part, text))

directory_met : (format : Format) → (left : ℕ) (store : Texts) (files : List FileText) (before part : List ℕ) (file : FileText) → Reads → IsFolder format (suc left) files → FitBehind before files → Has store (object_texts format (suc left) files)
    → Contains (first_parts files) part → IsClear part → Contains (in_part files part) file → ((f : FileText) → Contains (in_part files part) f → IsUnder part f) → MeetsBelow format left store
    → Meets (map (behind before) (in_part files part)) (row_met format (suc left) store before (part_row format left files part))
directory_met format left store files before part file reads w fit has there clear some under lower =
    let group = in_part files part in
    let n = length part + 1 in
    let cut = cut_files n group in
    let below = files_below files part in
    let at : file_at files part ≡ None = sym (file_at_group files part clear) ∙ file_at_under part group under in
    let is : below ≡ cut = sym (files_below_group files part clear) ∙ files_below_under part group under in
    let row : part_row format left files part ≡ row_of format part None (total_of below) (directory_text format left below) = ap (λ (o : Option (List ℕ)). row_of format part o (total_of below) (directory_text format left below)) at in
    let texts : part_texts format left files part ≡ object_texts format left below = ap (λ (o : Option (List ℕ)). file_texts format o (object_texts format left below)) at in
    let own : Has store (object_texts format left below) = λ t h. has t (part_text_in format left files part t there (subst (λ (l : List (List ℕ)). Contains l t) (sym texts) h)) in
    let folder : IsFolder format left below = subst (IsFolder format left) (sym is) (folder_below format left part group clear (folder_filter format (suc left) (begins part) files w) under) in
    let front = (before ++ part) ++ 47 ∷ [] in
    let same : map (behind front) below ≡ map (behind before) group = ap (map (behind front)) is ∙ behind_cut before part group under in
    let short : FitBehind front below = λ f h.
    let b = map_from (behind before) group (behind front f) (subst (λ (l : List FileText). Contains l (behind front f)) same (map_has (behind front) below f h)) in
    let path : before ++ b.0.0 ≡ front ++ f.0 = ap (λ (g : FileText). g.0) b.2 in
    omega (arith, fit b.0 (filter_from (begins part) files b.0 b.1).0, ap (λ (l : List ℕ). length l) path) in
    let filled : 0 < length below = filled_by below (cut_file n file) (subst (λ (l : List FileText). Contains l (cut_file n file)) (sym is) (map_has (cut_file n) group file some)) in
    let rows = some_rows format left below folder filled in
    let name = named (directory_text format left below) in
    let inner : or_fault (object_named store name) (inner_rows_of format name) ≡ Ok (rows_at format left below) =
    ap (λ (r : Result Object GatherError). or_fault r (inner_rows_of format name)) (directory_there format left below store reads folder own) ∙ inner_is format name (rows_at format left below) rows.0 rows.1 (are_said format left below) rows.2 in
    let fits : length (before ++ part) ≤ 1024 = shorter before part file (cut_under part file (under file some)) (fit file (filter_from (begins part) files file some).0) in
    let lowest = lower below front folder short own in
    let sum : total_of below ≡ bytes_met (walk_rows format left store front (rows_at format left below)) = sym (lowest.bytes ∙ total_behind front below) in
    meets_same _ _ _ _ same (sym (row_is_directory format left store before part (directory_text format left below) (total_of below) (rows_at format left below) (part_row format left files part) row fits inner sum)) lowest
  where
    filled_by : (l : List FileText) (f : FileText) → Contains l f → 0 < length l
    filled_by [] f h = absurd (in_none f h)
    filled_by (g ∷ l) f h = omega arith

    shorter : (before part : List ℕ) (f : FileText) → f.0 ≡ part ++ 47 ∷ drop (length part + 1) f.0 → length (before ++ f.0) ≤ 1024 → length (before ++ part) ≤ 1024
    shorter before part f e h =
        let a = length-append before part in
        let b = length-append before f.0 in
        let c = length-append part (47 ∷ drop (length part + 1) f.0) in
        omega (arith, a, b, c, ap (λ (l : List ℕ). length l) e, h)

part_met : (format : Format) → (left : ℕ) (store : Texts) (files : List FileText) (before part : List ℕ) → Reads → IsFolder format (suc left) files → FitBehind before files → Has store (object_texts format (suc left) files)
    → Contains (first_parts files) part → MeetsBelow format left store → Meets (map (behind before) (in_part files part)) (row_met format (suc left) store before (part_row format left files part))
part_met format left store files before part reads w fit has there lower =
    let from = map_from part_of files part (part_from files part there) in
    let clear : IsClear part = subst IsClear from.2 (first_part_clear from.0.0) in
    let some : Contains (in_part files part) from.0 = filter_has (begins part) files from.0 from.1 (same_tested (first_part from.0.0) part from.2) in
    elim (one_or_under format (suc left) part (in_part files part) (folder_filter format (suc left) (begins part) files w) (λ f h. tested_same (first_part f.0) part (filter_from (begins part) files f h).1) (filled_by (in_part files part) from.0 some)) [
      | inl one ↦ file_met format left store files before part one.0 reads w fit has there clear one.1
      | inr under ↦ directory_met format left store files before part from.0 reads w fit has there clear some under lower
    ]
  where
    filled_by : (l : List FileText) (f : FileText) → Contains l f → 0 < length l
    filled_by [] f h = absurd (in_none f h)
    filled_by (g ∷ l) f h = omega arith

map_each : {X Y P : Type 0} (f : X → Y) (of : P → List X) (parts : List P) → flat_map (λ p. map f (of p)) parts ≡ map f (flat_map of parts)
map_each f of [] = refl
map_each f of (p ∷ parts) = ap (λ l. map f (of p) ++ l) (map_each f of parts) ∙ sym (map-append f (of p) (flat_map of parts))

pub tree_met : (format : Format) → (left : ℕ) (store : Texts) → Reads → MeetsBelow format left store
tree_met format zero store reads files before w fit has =
    meets_same _ _ _ _ (ap (map (behind before)) (sym (folder_empty format files w))) (sym (rows_met format zero store before [])) meets_none
tree_met format (suc left) store reads files before w fit has =
    let parts = first_parts files in
    let each = meets_each (λ p. map (behind before) (in_part files p)) (λ p. row_met format (suc left) store before (part_row format left files p)) parts
    (λ p there. part_met format left store files before p reads w fit has there (tree_met format left store reads)) in
    let met : flat_map (λ p. row_met format (suc left) store before (part_row format left files p)) parts ≡ walk_rows format (suc left) store before (rows_at format (suc left) files) =
    sym (rows_met format (suc left) store before (rows_at format (suc left) files) ∙ flat_map-map (row_met format (suc left) store before) (part_row format left files) parts) in
    let whole = groups_whole files parts (parts_rise files) (λ f h. part_in files (part_of f) (map_has part_of files f h)) in
    meets_permuted _ _ _ (IsPermutation-map (behind before) _ _ whole) (meets_same _ _ _ _ (map_each (behind before) (in_part files) parts) met each)

behind_nothing : (files : List FileText) → map (behind []) files ≡ files
behind_nothing [] = refl
behind_nothing (file ∷ files) = ap (λ (l : List FileText). file ∷ l) (behind_nothing files)

-- the whole tree
pub planted_tree : (format : Format) (files : List FileText) (store : Texts) → Reads → IsFolder format 64 files → FitBehind [] files → total_of files ≤ 1073741824 → Has store (object_texts format 64 files)
    → IsTree store (named (directory_text format 64 files)) files
unfolding walk
planted_tree format files store reads w fit small has =
    let root = named (directory_text format 64 files) in
    let rows = rows_at format 64 files in
    let met = meets_same _ _ _ _ (behind_nothing files) refl (tree_met format 64 store reads files [] w fit has) in
    let top : or_fault (object_named store root) (top_of root) ≡ Ok (format, rows) =
    ap (λ (r : Result Object GatherError). or_fault r (top_of root)) (directory_there format 64 files store reads w has)
    ∙ ap (λ (o : Option (Format × List SizedRow)). object_or_fault root o) (top_back format rows (are_said format 64 files)) in
    let there : walk store root ≡ walk_rows format 64 store [] rows =
    ap (λ (r : Result (Format × List SizedRow) GatherError). met_below r (λ (top : Format × List SizedRow). walk_rows top.0 64 store [] top.1)) top in
    record {
      whole = ap (first_fault 0 0) there ∙ ap (first_fault 0 0) (sym (append-nil (walk_rows format 64 store [] rows))) ∙ met.goes_on 0 0 [] (omega (arith, w.few)) (omega (arith, small));
      found = λ file. (
        λ h. subst (λ (m : List Met). Contains {X = Met} m (Ok file)) (sym there) ((met.found file).0 h),
        λ h. (met.found file).1 (subst (λ (m : List Met). Contains {X = Met} m (Ok file)) there h),
      );
    }

-- two texts collide, or each stands under its SHA-256
pub collide_or_has : (store : Texts) (texts : List (List ℕ)) → HoldsTexts store texts → Collide texts ⊎ Has store texts
collide_or_has store texts holds = go texts (λ t h. h)
  where
    one : (text : List ℕ) → Contains texts text → (found : Option (List ℕ)) → store (sha256 text) ≡ found → IsSome found → Collide texts ⊎ (store (sha256 text) ≡ Some text)
    one text has None is some = (let q : false ≡ true = some in cc)
    one text has (Some other) is some =
        let h = holds.only (sha256 text) other is in
        elim (cases_Bool (bytes_eq other text)) [
          | inl same ↦ inr (is ∙ ap (λ (l : List ℕ). let o : Option (List ℕ) = Some l in o) (tested_same other text same))
          | inr apart ↦ inl (record { first = text; second = other; has_first = has; has_second = h.0; differ = λ e. tested_other other text apart (sym e); same_name = h.1 })
        ]

    go : (rest : List (List ℕ)) → ((t : List ℕ) → Contains rest t → Contains texts t) → Collide texts ⊎ Has store rest
    go [] within = inr (λ t h. absurd (in_none t h))
    go (text ∷ rest) within =
        elim (one text (within text (in_here text rest)) (store (sha256 text)) refl (holds.all text (within text (in_here text rest)))) [
          | inl two ↦ inl two
          | inr here ↦ elim (go rest (λ t h. within t (in_later text rest t h))) [
            | inl two ↦ inl two
            | inr others ↦ inr (λ t h. elim (in_cases text rest t h) [ inl same ↦ subst (λ (l : List ℕ). store (sha256 l) ≡ Some l) same here | inr later ↦ others t later ])
          ]
        ]
