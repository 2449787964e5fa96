-- Gathering the files of a tree: what is met at one row, the files so far, and what a walk goes on with.
use Rattle.std.specs.Prelude.{◌≡◌, ◌≢◌, ◌↔◌, ◌⊎◌, ℕ, zero, suc, ◌+◌, ◌<◌, ◌≤◌, true, List, [], ◌∷◌, ◌++◌, length, slice_index, flat_map, All, Contains, Some, Result, Ok, Err}
use Rattle.ms_base.specs.declared.limits.TheConstants.{LEVELS, PART_BYTES, PATH_BYTES}
use Rattle.ms_base.specs.declared.names.Quantity.TheVariants as quantities
use Rattle.ms_object.specs.declared.fault.GatherError.{GatherError}
use Rattle.ms_object.specs.declared.fault.GatherError.TheVariants as faults
use Rattle.ms_object.specs.declared.format.Format.{Format}
use Rattle.ms_object.specs.declared.object.SizedRow.{SizedRow}
use Rattle.ms_object.specs.Labels.{IsLabel}
use Rattle.ms_object.specs.Trees.{Texts, FileText, Met, bytes_met, or_fault, if_short, met_by_kind, walk_rows, with_size, size_fault, first_fault}
use Rattle.ms_tree.specs.Paths.{parts_of, long_part, is_path}
use Rattle.ms_tree.specs.Files.{total_of}

-- that answer comes, or memory ran out
abbrev pub Gives : {A : Type 0} → Result A GatherError → Result A GatherError → Type 0
Gives given (Ok a) = given ≡ Ok a
Gives given (Err faults.NoMemory) = Unit {0}
Gives given (Err e) = given ≡ Err e

-- bytes, and then those that others have
abbrev pub joined_on : List ℕ → Result (List ℕ) GatherError → Result (List ℕ) GatherError
joined_on text others = or_fault others (λ more. Ok (text ++ more))

-- what the paths below a directory begin with: its labels, each with a slash; there may be so many parts more
pub record IsFront (left : ℕ) (before : List ℕ) : Type 0 where
  pub labels : List (List ℕ)
  pub spelled : before ≡ flat_map (λ label. label ++ 47 ∷ []) labels
  pub each : All IsLabel labels
  pub levels : length labels + left ≡ LEVELS

-- a path that files may have, whatever its text
pub record IsFilePath (path : List ℕ) : Type 0 where
  pub path_is : is_path path ≡ true
  pub short : length path ≤ PATH_BYTES
  pub parts_short : long_part (parts_of path) ≤ PART_BYTES
  pub levels : length (parts_of path) ≤ LEVELS

-- what a walk meets at one row, before its size is judged
unfoldable pub row_below : Format → ℕ → Texts → List ℕ → SizedRow → List Met
row_below format zero store before row = if_short (before ++ row.label) (Err (faults.Limit quantities.Levels (LEVELS + 1)) ∷ [])
row_below format (suc left) store before row = if_short (before ++ row.label) (met_by_kind format (walk_rows format left store) store (before ++ row.label) row.name row.kind)

-- what a walk meets at one row
unfoldable pub row_met : Format → ℕ → Texts → List ℕ → SizedRow → List Met
row_met format zero store before row = row_below format zero store before row
row_met format (suc left) store before row = with_size format row (row_below format (suc left) store before row)

-- the row says that so many bytes lie below it, or says no size
abbrev pub SaysSize : Format → SizedRow → ℕ → Result Unit GatherError → Type 0
SaysSize format row bytes (Ok _) = size_fault format row bytes ≡ []
SaysSize format row bytes (Err e) = size_fault format row bytes ≡ Err e ∷ []

-- from the old files to the new ones no fault was met, and each file that was met is there
pub record Gathers (old new : List FileText) (met : List Met) : Type 0 where
  pub goes_on : (more : List Met) → first_fault (length old) (total_of old) (met ++ more) ≡ first_fault (length new) (total_of new) more
  pub found : (file : FileText) → Contains new file ↔ (Contains old file ⊎ Contains met (Ok file))
  pub bytes : total_of new ≡ total_of old + bytes_met met

-- after the old files this fault comes first, or memory ran out
abbrev pub StopsAt : List FileText → List Met → GatherError → Type 0
StopsAt old met e = (e ≡ faults.NoMemory) ⊎ ((more : List Met) → first_fault (length old) (total_of old) (met ++ more) ≡ Some e)

-- two texts differ before either ends
pub record Differ (one other : List ℕ) : Type 0 where
  pub place : ℕ
  pub in_one : place < length one
  pub in_other : place < length other
  pub apart : slice_index one place ≢ slice_index other place

-- no file is at this path, below it or above it
abbrev pub IsFree : List FileText → List ℕ → Type 0
IsFree files path = (file : FileText) → Contains files file → Differ (file.0 ++ 47 ∷ []) (path ++ 47 ∷ [])

-- the paths of these rows are free
abbrev pub AreFree : List FileText → List ℕ → List SizedRow → Type 0
AreFree files before rows = All (λ row. IsFree files (before ++ row.label)) rows
