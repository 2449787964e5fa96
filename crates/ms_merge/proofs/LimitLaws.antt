-- What is tested row by row, and name by name.
use Rattle.std.proofs.Common.{◌≡◌, ℕ, zero, suc, ◌+◌, ◌<◌, ◌≤◌, Bool, true, false, nat_lt, List, [], ◌∷◌, ◌++◌, length, map, take, get_or, find, All, Some, string_bytes, refl, sym, ◌∙◌, ap, subst, arith, take_all, sum_by}
use Rattle.std.specs.Map.{keys_of, values_of}
use Rattle.std.proofs.lemmas.Bool.{lt-ltb, le-ltb}
use Rattle.std.proofs.lemmas.List.{take_more, take-map, map-append, length-map, get_or-map}
use Rattle.std.proofs.lemmas.List.Elements.{All-head, All-tail, All-push}
use Rattle.std.proofs.lemmas.List.Sums.{sum_by-cons, sum_by-append}
use Rattle.ms_tree.specs.declared.files.FileRef.{FileRef}
use Rattle.ms_tree.specs.declared.draft.DraftFile.{DraftFile}
use Rattle.ms_tree.specs.DraftFiles.{drafted}
use Rattle.ms_tree.specs.Files.{FileList, total_of}
use Rattle.ms_tree.specs.Merging.{IsFirstPast, IsFirstLong}
use Rattle.ms_merge.proofs.Steps.{shown, no_row, shown_more, shown_all}

-- the names of files in a draft
abbrev pub name_of : DraftFile → List ℕ
name_of file = string_bytes file.path

pub names_are : (files : List DraftFile) → keys_of (map drafted files) ≡ map name_of files
names_are [] = refl
names_are (f ∷ files) = ap (λ (l : List (List ℕ)). name_of f ∷ l) (names_are files)

-- ---- the first long name

find_at : (p : List ℕ → Bool) (names : List (List ℕ)) (place : ℕ) (d : List ℕ) → place < length names → All (λ name. p name ≡ false) (take place names) → p (get_or names place d) ≡ true → find p names ≡ Some (get_or names place d)
find_at p [] place d there front here = absurd (omega arith)
find_at p (n ∷ names) zero d there front here = rw here refl
find_at p (n ∷ names) (suc place) d there front here =
    let off : p n ≡ false = All-head (λ name. p name ≡ false) n (take place names) front in
    rw off (find_at p names place d (omega arith) (All-tail (λ name. p name ≡ false) n (take place names) front) here)

short_tests : (measure : List ℕ → ℕ) (most : ℕ) (names : List (List ℕ)) → All (λ name. measure name ≤ most) names → All (λ name. nat_lt most (measure name) ≡ false) names
short_tests measure most names h = λ k d below. le-ltb _ _ (h k d below)

pub first_long : (measure : List ℕ → ℕ) (most : ℕ) (names : List DraftFile) (place value : ℕ) (file : DraftFile) → place < length names → file ≡ get_or names place file → All (λ name. measure name ≤ most) (map name_of (take place names))
    → value ≡ measure (name_of file) → most < value → IsFirstLong measure most (keys_of (map drafted names)) value
first_long measure most names place value file there is front size long =
    let all : List (List ℕ) = map name_of names in
    let front' : All (λ name. measure name ≤ most) (take place all) = subst (λ (l : List (List ℕ)). All (λ name. measure name ≤ most) l) (sym (take-map name_of place names)) front in
    let here : get_or all place (name_of file) ≡ name_of file = get_or-map name_of names place file (name_of file) there ∙ ap name_of (sym is) in
    let inside : place < length all = omega (arith, length-map names name_of) in
    let tested : nat_lt most (measure (get_or all place (name_of file))) ≡ true = ap (λ (n : List ℕ). nat_lt most (measure n)) here ∙ ap (nat_lt most) (sym size) ∙ lt-ltb _ _ long in
    let found : find (λ name. nat_lt most (measure name)) all ≡ Some (name_of file) =
    find_at (λ name. nat_lt most (measure name)) all place (name_of file) inside (short_tests measure most (take place all) front') tested ∙ ap (λ (n : List ℕ). Some n) here in
    (name_of file, ap (find (λ name. nat_lt most (measure name))) (names_are names) ∙ found, size)

pub all_more : (P : List ℕ → Type 0) (names : List DraftFile) (place : ℕ) (file : DraftFile) → place < length names → file ≡ get_or names place file → All P (map name_of (take place names)) → P (name_of file)
    → All P (map name_of (take (place + 1) names))
all_more P names place file there is front here =
    let grown : map name_of (take (place + 1) names) ≡ map name_of (take place names) ++ name_of file ∷ [] =
    ap (map name_of) (take_more names place file there) ∙ map-append name_of (take place names) (get_or names place file ∷ []) ∙ ap (λ (f : DraftFile). map name_of (take place names) ++ name_of f ∷ []) (sym is) in
    subst (λ (l : List (List ℕ)). All P l) (sym grown) (All-push P (map name_of (take place names)) (name_of file) front here)

pub all_names : (P : List ℕ → Type 0) (names : List DraftFile) (place : ℕ) → All P (map name_of (take place names)) → length names ≤ place → All P (keys_of (map drafted names))
all_names P names place front all = subst (λ (l : List (List ℕ)). All P l) (ap (map name_of) (take_all place names all) ∙ sym (names_are names)) front

-- ---- the bytes of all files

-- the first rows are within the limit
pub record AreAdded (rows : List FileRef) (place total : ℕ) : Type 0 where
  pub sum : total ≡ total_of (map shown (take place rows))
  pub within : total ≤ 1073741824

pub added_none : (rows : List FileRef) → AreAdded rows 0 0
added_none rows = record { sum = refl; within = omega arith }

abbrev row_at : List FileRef → ℕ → FileRef
row_at rows place = get_or rows place no_row

sum_more : (rows : List FileRef) (place total : ℕ) → place < length rows → total ≡ total_of (map shown (take place rows)) → total + length (row_at rows place).text.now ≡ total_of (map shown (take (place + 1) rows))
sum_more rows place total there sum =
    let row = row_at rows place in
    let grown = ap total_of (shown_more shown rows place no_row there) in
    let values = ap (sum_by length) (map-append (λ (f : List ℕ × List ℕ). f.1) (map shown (take place rows)) (shown row ∷ [])) in
    let split = sum_by-append length (values_of (map shown (take place rows))) (row.text.now ∷ []) in
    let one = sum_by-cons length row.text.now [] in
    omega (arith, grown, values, split, one, sum)

pub added_more : (rows : List FileRef) (place total : ℕ) → place < length rows → AreAdded rows place total → total + length (row_at rows place).text.now ≤ 1073741824 → AreAdded rows (place + 1) (total + length (row_at rows place).text.now)
added_more rows place total there a small = record { sum = sum_more rows place total there a.sum; within = small }

pub added_past : (rows : List FileRef) (place total : ℕ) → place < length rows → AreAdded rows place total → 1073741824 < total + length (row_at rows place).text.now
    → IsFirstPast (map shown rows) (total + length (row_at rows place).text.now)
added_past rows place total there a past = record {
  place = place;
  there = omega (arith, length-map rows shown, there);
  before = omega (arith, a.within, a.sum, ap total_of (take-map shown place rows));
  is = sum_more rows place total there a.sum ∙ ap total_of (sym (take-map shown (place + 1) rows));
  past = past;
}

pub added_all : (rows : List FileRef) (place total : ℕ) → AreAdded rows place total → length rows ≤ place → total_of (map shown rows) ≤ 1073741824
added_all rows place total a all = omega (arith, a.within, a.sum, ap total_of (shown_all shown rows place all))

pub short_rows : (rows : List FileRef) (files : FileList) → map shown rows ≡ files → All (λ f. length f.1 ≤ 1073741824) files → All (λ row. length row.text.now ≤ 1073741824) rows
short_rows rows files is short = λ k d below.
    let all : All (λ f. length f.1 ≤ 1073741824) (map shown rows) = subst (λ (l : FileList). All (λ f. length f.1 ≤ 1073741824) l) (sym is) short in
    let here : length (get_or (map shown rows) k (shown d)).1 ≤ 1073741824 = all k (shown d) (omega (arith, length-map rows shown, below)) in
    subst (λ (f : List ℕ × List ℕ). length f.1 ≤ 1073741824) (get_or-map shown rows k d (shown d) below) here
