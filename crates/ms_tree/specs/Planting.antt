-- The objects of a folder: the texts of its blobs, files and directories, and the name of its root.
use Rattle.std.specs.Prelude.{◌≡◌, ◌≢◌, ℕ, zero, suc, ◌+◌, ◌==◌, List, [], ◌∷◌, ◌++◌, length, map, take, drop, flat_map, filter_map, bytes_eq, Contains, IsSome, ◌⊎◌, nat_lt, find, Option, Some, None, Result, Ok, Err, if◌then◌else◌}
use Rattle.std.specs.List.{before_first, list_any}
use Rattle.std.specs.Ordering.{is_lt, nat_cmp}
use Rattle.std.specs.Cmp.Lexicographic.{slice_cmp}
use Rattle.sha2.specs.Sha256.{sha256}
use Rattle.ms_base.specs.declared.limits.TheConstants.{LEVELS}
use Rattle.ms_base.specs.declared.names.Name.{Name}
use Rattle.ms_object.specs.declared.object.Kind.TheVariants as kinds
use Rattle.ms_object.specs.declared.object.Object.TheVariants as objects
use Rattle.ms_object.specs.declared.format.Format.{Format}
use Rattle.ms_object.specs.declared.format.Format.TheVariants as formats
use Rattle.ms_object.specs.declared.object.Object.{Object}
use Rattle.ms_object.specs.declared.object.Row.{Row}
use Rattle.ms_object.specs.declared.object.SizedRow.{SizedRow}
use Rattle.ms_object.specs.Objects.{object_text, blob_object, blob_size, blobs_in, file_object, most_file}
use Rattle.ms_object.specs.Trees.{FileText, Texts, IsTree}
use Rattle.ms_base.specs.declared.names.Quantity.TheVariants as quantities
use Rattle.ms_tree.specs.declared.planting.PlantError.{PlantError}
use Rattle.ms_tree.specs.declared.planting.PlantError.TheVariants as errors
use Rattle.ms_tree.specs.Files.{total_of}

abbrev pub named : List ℕ → Name
named text = record { 0 = sha256 text }

-- so many pieces of the size of a blob; the last has the rest
abbrev pub pieces : Format → ℕ → List ℕ → List (List ℕ)
pieces format zero bytes = []
pieces format (suc count) bytes = take (blob_size format) bytes ∷ pieces format count (drop (blob_size format) bytes)

-- the texts of the blobs of a file
abbrev pub blob_texts : Format → List ℕ → List (List ℕ)
blob_texts format bytes = map (λ piece. object_text (blob_object format piece)) (pieces format (blobs_in format (length bytes)) bytes)

-- the text of the file object
abbrev pub file_text : Format → List ℕ → List ℕ
file_text format bytes = object_text (file_object format (length bytes) (map named (blob_texts format bytes)))

-- the first part of a path
abbrev pub first_part : List ℕ → List ℕ
first_part path = before_first (λ b. b == 47) path

-- the bytes of the file of that path
abbrev pub file_at : List FileText → List ℕ → Option (List ℕ)
file_at [] path = None
file_at (file ∷ files) path = if bytes_eq file.0 path then Some file.1 else file_at files path

-- the file by its path below a directory, where it is below it
abbrev pub below : List ℕ → FileText → Option FileText
below part file = if bytes_eq (take (length part + 1) file.0) (part ++ 47 ∷ []) then Some (drop (length part + 1) file.0, file.1) else None

-- the files below a directory, by their paths from there
abbrev pub files_below : List FileText → List ℕ → List FileText
files_below files part = filter_map (below part) files

-- a part in its place among rising parts
abbrev pub with_part : List ℕ → List (List ℕ) → List (List ℕ)
with_part part [] = part ∷ []
with_part part (first ∷ parts) =
    if bytes_eq part first then first ∷ parts
    else if is_lt (slice_cmp nat_cmp part first) then part ∷ first ∷ parts
    else first ∷ with_part part parts

-- the first parts of the paths, rising, each once
abbrev pub first_parts : List FileText → List (List ℕ)
first_parts [] = []
first_parts (file ∷ files) = with_part (first_part file.0) (first_parts files)

-- a row of format 1 says no size
abbrev pub size_said : Format → ℕ → ℕ
size_said formats.One bytes = 0
size_said formats.Two bytes = bytes

abbrev pub plain : SizedRow → Row
plain row = record { kind = row.kind; label = row.label; name = row.name }

-- the directory of these rows
abbrev pub dir_object : Format → List SizedRow → Object
dir_object formats.One rows = objects.Dir (map plain rows)
dir_object formats.Two rows = objects.Dir2 rows

-- the row of a part: a file of that path, or a directory with that text, below which there are so many bytes
abbrev pub row_of : Format → List ℕ → Option (List ℕ) → ℕ → List ℕ → SizedRow
row_of format part (Some bytes) total directory = record { kind = kinds.File; label = part; size = size_said format (length bytes); name = named (file_text format bytes) }
row_of format part None total directory = record { kind = kinds.Dir; label = part; size = size_said format total; name = named directory }

-- the text of the directory of these files, whose paths have so many parts at most
unfoldable pub directory_text : Format → ℕ → List FileText → List ℕ
directory_text format zero files = object_text (dir_object format [])
directory_text format (suc left) files =
    object_text (dir_object format (map (λ part. row_of format part (file_at files part) (total_of (files_below files part)) (directory_text format left (files_below files part))) (first_parts files)))

-- the row of a part of these files
abbrev pub part_row : Format → ℕ → List FileText → List ℕ → SizedRow
part_row format left files part = row_of format part (file_at files part) (total_of (files_below files part)) (directory_text format left (files_below files part))

-- the texts of the objects of a part: of its file, or those of its directory
abbrev pub file_texts : Format → Option (List ℕ) → List (List ℕ) → List (List ℕ)
file_texts format (Some bytes) directories = blob_texts format bytes ++ file_text format bytes ∷ []
file_texts format None directories = directories

-- the texts of all objects of these files, the directory's last
unfoldable pub object_texts : Format → ℕ → List FileText → List (List ℕ)
object_texts format zero files = directory_text format zero files ∷ []
object_texts format (suc left) files =
    flat_map (λ part. file_texts format (file_at files part) (object_texts format left (files_below files part))) (first_parts files) ++ directory_text format (suc left) files ∷ []

-- the texts of all objects of a part of these files
abbrev pub part_texts : Format → ℕ → List FileText → List ℕ → List (List ℕ)
part_texts format left files part = file_texts format (file_at files part) (object_texts format left (files_below files part))

-- two different texts with one SHA-256
pub record Collide (texts : List (List ℕ)) : Type 0 where
  pub first : List ℕ
  pub second : List ℕ
  pub has_first : Contains texts first
  pub has_second : Contains texts second
  pub differ : first ≢ second
  pub same_name : sha256 first ≡ sha256 second

-- a store has exactly these texts, each under its SHA-256; of texts with one SHA-256 it has one
pub record HoldsTexts (store : Texts) (texts : List (List ℕ)) : Type 0 where
  pub all : (text : List ℕ) → Contains texts text → IsSome (store (sha256 text))
  pub only : (name text : List ℕ) → store name ≡ Some text → Contains texts text × (name ≡ sha256 text)

-- a store has what it had, and exactly these texts more, each under its SHA-256
pub record AddsTexts (old new : Texts) (texts : List (List ℕ)) : Type 0 where
  pub kept : (name text : List ℕ) → old name ≡ Some text → new name ≡ Some text
  pub all : (text : List ℕ) → Contains texts text → IsSome (new (sha256 text))
  pub only : (name text : List ℕ) → new name ≡ Some text → (old name ≡ Some text) ⊎ (Contains texts text × (name ≡ sha256 text))

-- how many different texts a list has
abbrev pub different : List (List ℕ) → ℕ
different [] = 0
different (text ∷ texts) = if list_any (bytes_eq text) texts then different texts else 1 + different texts

-- what is planted of these files: the name of the root and all objects; it is their tree, unless two texts collide
pub record IsPlanted (format : Format) (files : List FileText) (store : Texts) (root : Name) : Type 0 where
  pub root_is : root ≡ named (directory_text format LEVELS files)
  pub objects : HoldsTexts store (object_texts format LEVELS files)
  pub tree : Collide (object_texts format LEVELS files) ⊎ IsTree store root files

-- the first file that has too many bytes for the format
abbrev pub first_large : Format → List FileText → Option ℕ
first_large format files = find (nat_lt (most_file format)) (map (λ file. length file.1) files)

-- no file is too large for the format, or the first that is
abbrev pub MayPlant : Format → List FileText → Result Unit PlantError → Type 0
MayPlant format files (Ok _) = first_large format files ≡ None
MayPlant format files (Err (errors.Limit what value)) = (what ≡ quantities.File) × (first_large format files ≡ Some value)
MayPlant format files (Err errors.NoMemory) = first_large format files ≡ None
