-- A walk that looks at no blob: it meets the sizes that files say in place of their bytes.
use Rattle.std.specs.Prelude.{◌≡◌, ℕ, zero, suc, ◌+◌, ◌-◌, nat_lt, List, [], ◌∷◌, ◌++◌, length, map, flat_map, Option, Some, None, Result, Ok, Err, if◌then◌else◌}
use Rattle.ms_base.specs.declared.limits.TheConstants.{FILES, LEVELS, PATH_BYTES, TOTAL_BYTES}
use Rattle.ms_base.specs.declared.names.Name.{Name}
use Rattle.ms_base.specs.declared.names.Quantity.TheVariants as quantities
use Rattle.ms_object.specs.declared.fault.GatherError.{GatherError}
use Rattle.ms_object.specs.declared.fault.GatherError.TheVariants as faults
use Rattle.ms_object.specs.declared.format.Format.{Format}
use Rattle.ms_object.specs.declared.object.Kind.{Kind}
use Rattle.ms_object.specs.declared.object.Kind.TheVariants as kinds
use Rattle.ms_object.specs.declared.object.SizedRow.{SizedRow}
use Rattle.ms_object.specs.Trees.{Texts, Met, or_fault, object_named, file_of, inner_rows_of, size_fault}
use Rattle.ms_tree.specs.Looking.{HaveBytes}

-- what such a walk meets: the size of a file, or a fault
abbrev pub SizeMet : Type 0
SizeMet = Result ℕ GatherError

-- the size of what a walk meets
abbrev pub weigh : Met → SizeMet
weigh (Ok file) = Ok (length file.1)
weigh (Err e) = Err e

-- the sizes that were met, together
abbrev pub sum_met : List SizeMet → ℕ
sum_met [] = 0
sum_met (Err e ∷ met) = sum_met met
sum_met (Ok size ∷ met) = size + sum_met met

-- a row of format 2 says the sum of the sizes below it
abbrev pub with_sum : Format → SizedRow → List SizeMet → List SizeMet
with_sum format row met = met ++ map weigh (size_fault format row (sum_met met))

-- a path is short enough, before its object is looked at
abbrev pub if_path_fits : List ℕ → List SizeMet → List SizeMet
if_path_fits path met = if nat_lt PATH_BYTES (length path) then Err (faults.Limit quantities.Path (length path)) ∷ [] else met

-- the size that the file of that name says
abbrev pub file_size : Format → Texts → Name → SizeMet
file_size format store name = or_fault (or_fault (object_named store name) (file_of format name)) (λ file. Ok file.0)

abbrev pub sizes_below : Result (List SizedRow) GatherError → (List SizedRow → List SizeMet) → List SizeMet
sizes_below (Err e) walk = Err e ∷ []
sizes_below (Ok rows) walk = walk rows

-- what stands at a row, by its kind; `walk` goes on below a directory
abbrev pub sizes_by_kind : Format → (List ℕ → List SizedRow → List SizeMet) → Texts → List ℕ → Name → Kind → List SizeMet
sizes_by_kind format walk store path name kinds.File = file_size format store name ∷ []
sizes_by_kind format walk store path name kinds.Dir = sizes_below (or_fault (object_named store name) (inner_rows_of format name)) (walk (path ++ 47 ∷ []))

-- the walk below the rows of a directory, in their order: as `walk_rows`
unfoldable pub sizes_rows : Format → ℕ → Texts → List ℕ → List SizedRow → List SizeMet
sizes_rows format zero store before rows = flat_map (λ row. if_path_fits (before ++ row.label) (Err (faults.Limit quantities.Levels (LEVELS + 1)) ∷ [])) rows
sizes_rows format (suc left) store before rows =
    flat_map (λ row. with_sum format row (if_path_fits (before ++ row.label) (sizes_by_kind format (sizes_rows format left store) store (before ++ row.label) row.name row.kind))) rows

-- the first fault after so many files with so many bytes together: as `first_fault`
abbrev pub first_excess : ℕ → ℕ → List SizeMet → Option GatherError
first_excess count total [] = None
first_excess count total (Err e ∷ met) = Some e
first_excess count total (Ok size ∷ met) =
    if nat_lt FILES (count + 1) then Some (faults.Limit quantities.Files (count + 1))
    else if nat_lt TOTAL_BYTES (total + size) then Some (faults.Limit quantities.Total (total + size))
    else first_excess (count + 1) (total + size) met

-- the blobs of each file have the bytes that it says
abbrev pub AreWhole : Format → Texts → Type 0
AreWhole format store = (name : Name) (size : ℕ) (blobs : List Name) → or_fault (object_named store name) (file_of format name) ≡ Ok (size, blobs) → HaveBytes format store size blobs
