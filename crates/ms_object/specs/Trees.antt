-- The tree of files below a directory of a store, and what a walk through it meets in the order of the rows.
use Rattle.std.specs.Prelude.{◌≡◌, ◌↔◌, ℕ, zero, suc, ◌+◌, ◌-◌, ◌==◌, nat_lt, min, List, [], ◌∷◌, ◌++◌, length, map, flat_map, Contains, Option, Some, None, Result, Ok, Err, if◌then◌else◌}
use Rattle.ms_base.specs.declared.limits.TheConstants.{FILES, LEVELS, PATH_BYTES, TOTAL_BYTES}
use Rattle.ms_base.specs.declared.names.Name.{Name}
use Rattle.ms_base.specs.declared.names.Quantity.TheVariants as quantities
use Rattle.ms_object.specs.declared.fault.GatherError.{GatherError}
use Rattle.ms_object.specs.declared.fault.GatherError.TheVariants as faults
use Rattle.ms_object.specs.declared.format.Format.{Format}
use Rattle.ms_object.specs.declared.format.Format.TheVariants as formats
use Rattle.ms_object.specs.declared.object.Kind.{Kind}
use Rattle.ms_object.specs.declared.object.Kind.TheVariants as kinds
use Rattle.ms_object.specs.declared.object.Object.{Object}
use Rattle.ms_object.specs.declared.object.Object.TheVariants as objects
use Rattle.ms_object.specs.declared.object.Row.{Row}
use Rattle.ms_object.specs.declared.object.SizedRow.{SizedRow}
use Rattle.ms_object.specs.Objects.{blob_size}
use Rattle.ms_object.specs.Reading.{blob_bytes, object_at}

-- a store: the text of each name that it has
abbrev pub Texts : Type 0
Texts = List ℕ → Option (List ℕ)

-- a file: its path and its bytes
abbrev pub FileText : Type 0
FileText = List ℕ × List ℕ

-- the value is used, or the fault stands
abbrev pub or_fault : {A B : Type 0} → Result A GatherError → (A → Result B GatherError) → Result B GatherError
or_fault (Err e) next = Err e
or_fault (Ok a) next = next a

-- what the text is that stands under this name, if it is what is wanted
abbrev pub object_or_fault : {A : Type 0} → Name → Option A → Result A GatherError
object_or_fault name None = Err (faults.WrongKind name)
object_or_fault name (Some object) = Ok object

abbrev pub text_or_fault : Name → Option (List ℕ) → Result (List ℕ) GatherError
text_or_fault name None = Err (faults.Missing name)
text_or_fault name (Some text) = Ok text

-- the object of that name
unfoldable pub object_named : Texts → Name → Result Object GatherError
object_named store name = or_fault (text_or_fault name (store name.0)) (λ text. object_or_fault name (object_at text))

-- ---- what is wanted of an object of a format

-- a row of format 1 says no size
abbrev pub unsized : Row → SizedRow
unsized row = record { kind = row.kind; label = row.label; size = 0; name = row.name }

-- the size of a file, and its blobs
abbrev pub file_in : Format → Object → Option (ℕ × List Name)
file_in formats.One (objects.File size blobs) = Some (size, blobs)
file_in formats.Two (objects.File2 size blobs) = Some (size, blobs)
file_in format _ = None

-- the rows of a directory
abbrev pub rows_in : Format → Object → Option (List SizedRow)
rows_in formats.One (objects.Dir rows) = Some (map unsized rows)
rows_in formats.Two (objects.Dir2 rows) = Some rows
rows_in format _ = None

-- the format of a directory, and its rows
abbrev pub top_in : Object → Option (Format × List SizedRow)
top_in (objects.Dir rows) = Some (formats.One, map unsized rows)
top_in (objects.Dir2 rows) = Some (formats.Two, rows)
top_in _ = None

-- so many bytes
abbrev pub of_size : ℕ → Option (List ℕ) → Option (List ℕ)
of_size size None = None
of_size size (Some text) = if length text == size then Some text else None

-- some rows
abbrev pub some_of : Option (List SizedRow) → Option (List SizedRow)
some_of (Some (row ∷ rows)) = Some (row ∷ rows)
some_of _ = None

abbrev pub blob_of : Format → Name → ℕ → Object → Result (List ℕ) GatherError
blob_of format name size object = object_or_fault name (of_size size (blob_bytes format (Some object)))

abbrev pub file_of : Format → Name → Object → Result (ℕ × List Name) GatherError
file_of format name object = object_or_fault name (file_in format object)

-- a directory below another has rows
abbrev pub inner_rows_of : Format → Name → Object → Result (List SizedRow) GatherError
inner_rows_of format name object = object_or_fault name (some_of (rows_in format object))

abbrev pub top_of : Name → Object → Result (Format × List SizedRow) GatherError
top_of name object = object_or_fault name (top_in object)

-- ---- files

-- the bytes of blobs, of which so many are left: each but the last is whole
unfoldable pub blobs_joined : Format → Texts → ℕ → List Name → Result (List ℕ) GatherError
blobs_joined format store left [] = Ok []
blobs_joined format store left (name ∷ names) =
    or_fault (or_fault (object_named store name) (blob_of format name (min (blob_size format) left))) (λ first.
    or_fault (blobs_joined format store (left - blob_size format) names) (λ others. Ok (first ++ others)))

-- the bytes of the file of that name
unfoldable pub file_named : Format → Texts → Name → Result (List ℕ) GatherError
file_named format store name = or_fault (or_fault (object_named store name) (file_of format name)) (λ file. blobs_joined format store file.0 file.1)

-- ---- walks

-- what a walk meets: a file, or a fault
abbrev pub Met : Type 0
Met = Result FileText GatherError

abbrev pub met_file : List ℕ → Result (List ℕ) GatherError → Met
met_file path (Err e) = Err e
met_file path (Ok bytes) = Ok (path, bytes)

abbrev pub met_below : {A : Type 0} → Result A GatherError → (A → List Met) → List Met
met_below (Err e) walk = Err e ∷ []
met_below (Ok rows) walk = walk rows

-- a path is short enough, before its object is looked at
abbrev pub if_short : List ℕ → List Met → List Met
if_short path met = if nat_lt PATH_BYTES (length path) then Err (faults.Limit quantities.Path (length path)) ∷ [] else met

-- the bytes of the files that were met
abbrev pub bytes_met : List Met → ℕ
bytes_met [] = 0
bytes_met (Err e ∷ met) = bytes_met met
bytes_met (Ok file ∷ met) = length file.1 + bytes_met met

-- a row of format 2 says how many bytes lie below it
abbrev pub size_fault : Format → SizedRow → ℕ → List Met
size_fault formats.One row bytes = []
size_fault formats.Two row bytes = if row.size == bytes then [] else Err (faults.WrongKind row.name) ∷ []

-- what was met below a row, and then whether its size is that of it
abbrev pub with_size : Format → SizedRow → List Met → List Met
with_size format row met = met ++ size_fault format row (bytes_met met)

-- what stands at a row, by its kind; `walk` goes on below a directory
abbrev pub met_by_kind : Format → (List ℕ → List SizedRow → List Met) → Texts → List ℕ → Name → Kind → List Met
met_by_kind format walk store path name kinds.File = met_file path (file_named format store name) ∷ []
met_by_kind format walk store path name kinds.Dir = met_below (or_fault (object_named store name) (inner_rows_of format name)) (walk (path ++ 47 ∷ []))

-- What a walk meets below the rows of a directory of a format, in their order: `before` begins each path, and paths
-- may have so many parts more. A path of more passes the limit.
unfoldable pub walk_rows : Format → ℕ → Texts → List ℕ → List SizedRow → List Met
walk_rows format zero store before rows = flat_map (λ row. if_short (before ++ row.label) (Err (faults.Limit quantities.Levels (LEVELS + 1)) ∷ [])) rows
walk_rows format (suc left) store before rows =
    flat_map (λ row. with_size format row (if_short (before ++ row.label) (met_by_kind format (walk_rows format left store) store (before ++ row.label) row.name row.kind))) rows

-- what a walk meets below the root of that name: all that it looks at is of the root's format
unfoldable pub walk : Texts → Name → List Met
walk store root = met_below (or_fault (object_named store root) (top_of root)) (λ top. walk_rows top.0 LEVELS store [] top.1)

-- the first fault after so many files with so many bytes together: what was met, or a limit that a file passes
abbrev pub first_fault : ℕ → ℕ → List Met → Option GatherError
first_fault count total [] = None
first_fault count total (Err e ∷ met) = Some e
first_fault count total (Ok file ∷ met) =
    if nat_lt FILES (count + 1) then Some (faults.Limit quantities.Files (count + 1))
    else if nat_lt TOTAL_BYTES (total + length file.1) then Some (faults.Limit quantities.Total (total + length file.1))
    else first_fault (count + 1) (total + length file.1) met

-- these are the files of the tree: no fault is met, and each path has the bytes that are met there
pub record IsTree (store : Texts) (root : Name) (files : List FileText) : Type 0 where
  pub whole : first_fault 0 0 (walk store root) ≡ None
  pub found : (file : FileText) → Contains files file ↔ Contains (walk store root) (Ok file)
