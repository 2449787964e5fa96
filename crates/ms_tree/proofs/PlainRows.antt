-- Rows with and without their sizes.
use Rattle.std.proofs.Common.{◌≡◌, ℕ, ◌≤◌, List, [], ◌∷◌, map, Some, refl, sym, ap, subst}
use Rattle.std.specs.List.Sorted.{IsStrictlySortedBy}
use Rattle.std.specs.Ordering.{nat_cmp}
use Rattle.std.specs.Cmp.Lexicographic.{slice_cmp}
use Rattle.std.proofs.lemmas.List.{length-map}
use Rattle.std.proofs.lemmas.List.Elements.{All-map}
use Rattle.ms_base.specs.declared.names.Name.{Name}
use Rattle.ms_object.specs.declared.format.Format.{Format}
use Rattle.ms_object.specs.declared.format.Format.TheVariants as formats
use Rattle.ms_object.specs.declared.object.Row.{Row}
use Rattle.ms_object.specs.declared.object.SizedRow.{SizedRow}
use Rattle.ms_object.specs.Labels.{IsLabel}
use Rattle.ms_object.specs.Objects.{AreNames, AreSizes, IsDir, IsObject, IsSizedDir, most_rows, sized_names_of}
use Rattle.ms_object.specs.Trees.{rows_in, top_in, unsized}
use Rattle.ms_tree.specs.Planting.{dir_object, plain}

labels_plain : (rows : List SizedRow) → map (λ (row : Row). row.label) (map plain rows) ≡ map (λ (row : SizedRow). row.label) rows
labels_plain [] = refl
labels_plain (row ∷ rows) = ap (λ (l : List (List ℕ)). row.label ∷ l) (labels_plain rows)

names_plain : (rows : List SizedRow) → map (λ (row : Row). row.name) (map plain rows) ≡ sized_names_of rows
names_plain [] = refl
names_plain (row ∷ rows) = ap (λ (l : List Name). row.name ∷ l) (names_plain rows)

labels_unsized : (rows : List Row) → map (λ (row : SizedRow). row.label) (map unsized rows) ≡ map (λ (row : Row). row.label) rows
labels_unsized [] = refl
labels_unsized (row ∷ rows) = ap (λ (l : List (List ℕ)). row.label ∷ l) (labels_unsized rows)

abbrev Rise : List (List ℕ) → Type 0
Rise labels = IsStrictlySortedBy (slice_cmp nat_cmp) labels

pub dir_plain : (rows : List SizedRow) → IsSizedDir rows → IsDir (map plain rows)
dir_plain rows is = record {
  few = subst (λ (n : ℕ). n ≤ most_rows) (sym (length-map rows plain)) is.few;
  labels = All-map (λ (row : Row). IsLabel row.label) plain rows is.labels;
  rising = subst Rise (sym (labels_plain rows)) is.rising;
}

pub dir_unsized : (rows : List Row) → IsDir rows → IsSizedDir (map unsized rows)
dir_unsized rows is = record {
  few = subst (λ (n : ℕ). n ≤ most_rows) (sym (length-map rows unsized)) is.few;
  labels = All-map (λ (row : SizedRow). IsLabel row.label) unsized rows is.labels;
  rising = subst Rise (sym (labels_unsized rows)) is.rising;
}

pub dir_fits : (format : Format) (rows : List SizedRow) → IsSizedDir rows → AreNames (sized_names_of rows) → AreSizes rows → IsObject (dir_object format rows)
dir_fits formats.One rows is names sizes = (dir_plain rows is, subst AreNames (sym (names_plain rows)) names)
dir_fits formats.Two rows is names sizes = (is, names, sizes)

-- rows that say no more than the format lets them
abbrev pub AreSaid : Format → List SizedRow → Type 0
AreSaid formats.One rows = map unsized (map plain rows) ≡ rows
AreSaid formats.Two rows = Unit {0}

pub rows_back : (format : Format) (rows : List SizedRow) → AreSaid format rows → rows_in format (dir_object format rows) ≡ Some rows
rows_back formats.One rows said = ap (λ (l : List SizedRow). Some l) said
rows_back formats.Two rows said = refl

pub top_back : (format : Format) (rows : List SizedRow) → AreSaid format rows → top_in (dir_object format rows) ≡ Some (format, rows)
top_back formats.One rows said = ap (λ (l : List SizedRow). let top : Format × List SizedRow = (formats.One, l) in Some top) said
top_back formats.Two rows said = refl
