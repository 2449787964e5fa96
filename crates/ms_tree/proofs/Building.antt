-- Building files of rows that rise: each row is the last one.
use Rattle.std.proofs.Common.{◌≡◌, ℕ, suc, ◌+◌, ◌<◌, ◌≤◌, List, [], ◌∷◌, ◌++◌, length, map, drop, get_or, Contains, String, Global, string_cmp, Less, Greater, refl, sym, ◌∙◌, ap, subst, arith, drop-cons, add-one, append-nil}
use Rattle.std.specs.Ordering.{nat_cmp, ordering_reverse}
use Rattle.std.specs.Cmp.Lexicographic.{slice_cmp}
use Rattle.std.specs.List.Sorted.{IsStrictlySortedBy}
use Rattle.std.specs.Map.{keys_of, values_of}
use Rattle.std.specs.BTreeMap.{insert_entry}
use Rattle.std.proofs.lemmas.Cmp.{nat_list_cmp_total}
use Rattle.std.proofs.lemmas.List.{drop_all}
use Rattle.std.proofs.lemmas.List.Elements.{All-contains}
use Rattle.std.proofs.lemmas.List.Sums.{sum_by-cons}
use Rattle.std.proofs.lemmas.Map.Keys.{sorted_tail}
use Rattle.std.proofs.lemmas.Map.Views.{All-after_first}
use Rattle.ms_tree.specs.declared.files.FileRef.{FileRef}
use Rattle.ms_tree.specs.declared.files.Files.TheInside.{Inside}
use Rattle.ms_tree.specs.Files.{FileList, with_file, total_of, IsFiles}
use Rattle.ms_tree.specs.FilesInside.{view_of, IsKept}
use Rattle.ms_tree.proofs.Membership.{at_front, behind}
use Rattle.ms_tree.proofs.EntryLaws.{text_of}
use Rattle.ms_tree.proofs.InsideLaws.{same_text, inserted}
use Rattle.ms_tree.proofs.MapViews.{by_bytes}

abbrev pub shown_rows : List FileRef → FileList
shown_rows rows = map (λ r. (r.path.now, r.text.now)) rows

last_is_greatest : (f : List ℕ × List ℕ) (files rest : FileList) (path text : List ℕ) → IsStrictlySortedBy (slice_cmp nat_cmp) (keys_of (f ∷ files ++ (path, text) ∷ rest)) → slice_cmp nat_cmp path f.0 ≡ Greater
last_is_greatest f files rest path text rising =
    let less : slice_cmp nat_cmp f.0 path ≡ Less = All-contains (λ q. slice_cmp nat_cmp f.0 q ≡ Less) (keys_of (files ++ (path, text) ∷ rest)) path (All-after_first (slice_cmp nat_cmp) f.0 (keys_of (files ++ (path, text) ∷ rest)) rising) (in_keys files) in
    nat_list_cmp_total.antisymm path f.0 ∙ ap ordering_reverse less
  where
    in_keys : (files : FileList) → Contains (keys_of (files ++ (path, text) ∷ rest)) path
    in_keys [] = at_front path (keys_of rest) path refl
    in_keys (g ∷ files) = behind g.0 (keys_of (files ++ (path, text) ∷ rest)) path (in_keys files)

-- a file before which all others stand comes last
pub put_last : (files rest : FileList) (path text : List ℕ) → IsStrictlySortedBy (slice_cmp nat_cmp) (keys_of (files ++ (path, text) ∷ rest)) → with_file files path text ++ rest ≡ files ++ (path, text) ∷ rest
put_last [] rest path text rising = refl
put_last (f ∷ files) rest path text rising =
    let greater : slice_cmp nat_cmp path f.0 ≡ Greater = last_is_greatest f files rest path text rising in
    rw greater (ap (λ (fs : FileList). f ∷ fs) (put_last files rest path text (sorted_tail (slice_cmp nat_cmp) f.0 (keys_of (files ++ (path, text) ∷ rest)) rising)))

-- the map has the first rows, and the total is theirs
pub record IsBuilt (rows : List FileRef) (place : ℕ) (entries : List (String Global × List ℕ)) (total : ℕ) : Type 0 where
  pub whole : by_bytes text_of same_text entries ++ shown_rows (drop place rows) ≡ shown_rows rows
  pub sum : total + total_of (shown_rows (drop place rows)) ≡ total_of (shown_rows rows)

pub built_none : (rows : List FileRef) (entries : List (String Global × List ℕ)) → entries ≡ [] → IsBuilt rows 0 entries 0
built_none rows entries none = record { whole = rw none refl; sum = omega arith }

-- what a loop shows where there is no row
abbrev pub no_row : FileRef
no_row = record { path = record { ref_ptr = (0, 0); now = [] }; text = record { ref_ptr = (0, 0); now = [] } }

abbrev row_at : List FileRef → ℕ → FileRef
row_at rows place = get_or rows place no_row

rest_is : (rows : List FileRef) (place : ℕ) (row : FileRef) → place < length rows → row ≡ row_at rows place → shown_rows (drop place rows) ≡ (row.path.now, row.text.now) ∷ shown_rows (drop (place + 1) rows)
rest_is rows place row there is =
    let cut : drop place rows ≡ row ∷ drop (place + 1) rows =
    drop-cons rows place no_row there ∙ ap (λ (r : FileRef). r ∷ drop (suc place) rows) (sym is) ∙ ap (λ (n : ℕ). row ∷ drop n rows) (sym (add-one place)) in
    ap shown_rows cut

pub sum_fits : (rows : List FileRef) (place : ℕ) (entries : List (String Global × List ℕ)) (total : ℕ) → IsFiles (shown_rows rows) → IsBuilt rows place entries total → place < length rows
    → total + length (row_at rows place).text.now ≤ 1073741824
sum_fits rows place entries total kept built there =
    let row = row_at rows place in
    let rest = ap total_of (rest_is rows place row there refl) in
    omega (arith, rest, built.sum, kept.total, sum_by-cons length row.text.now (values_of (shown_rows (drop (place + 1) rows))))

pub built_more : (rows : List FileRef) (place : ℕ) (entries new : List (String Global × List ℕ)) (total : ℕ) (key : String Global) (text : List ℕ) → IsFiles (shown_rows rows) → IsBuilt rows place entries total
    → place < length rows → text_of key ≡ (row_at rows place).path.now → text ≡ (row_at rows place).text.now → new ≡ insert_entry string_cmp entries key text
    → IsBuilt rows (place + 1) new (total + length (row_at rows place).text.now)
built_more rows place entries new total key text kept built there spelled copied put =
    let row = row_at rows place in
    let rest : shown_rows (drop place rows) ≡ (row.path.now, row.text.now) ∷ shown_rows (drop (place + 1) rows) = rest_is rows place row there refl in
    let files = by_bytes text_of same_text entries in
    let more = shown_rows (drop (place + 1) rows) in
    let whole : files ++ (row.path.now, row.text.now) ∷ more ≡ shown_rows rows = ap (λ (l : FileList). files ++ l) (sym rest) ∙ built.whole in
    record {
      whole = ap (λ (l : FileList). l ++ more) (inserted entries new files key row.path.now row.text.now refl spelled (put ∙ ap (λ (t : List ℕ). insert_entry string_cmp entries key t) copied))
          ∙ put_last files more row.path.now row.text.now (subst (λ (l : FileList). IsStrictlySortedBy (slice_cmp nat_cmp) (keys_of l)) (sym whole) kept.rising) ∙ whole;
      sum = omega (arith, ap total_of rest, built.sum, sum_by-cons length row.text.now (values_of more));
    }

pub built_all : (rows : List FileRef) (place : ℕ) (s : Inside) → IsFiles (shown_rows rows) → IsBuilt rows place s.map.entries s.total → length rows ≤ place → (view_of s ≡ shown_rows rows) × IsKept s
built_all rows place s kept built all =
    let none : drop place rows ≡ [] = drop_all place rows all in
    let whole : view_of s ≡ shown_rows rows = sym (append-nil (view_of s)) ∙ ap (λ (l : List FileRef). view_of s ++ shown_rows l) (sym none) ∙ built.whole in
    let sum : s.total ≡ total_of (shown_rows rows) = omega (arith, built.sum, ap (λ (l : List FileRef). total_of (shown_rows l)) none) in
    (whole, record { files = subst IsFiles (sym whole) kept; total = sum ∙ ap total_of (sym whole) })
