-- Files: the texts of paths, in the order of the paths' bytes.
use Rattle.std.specs.Prelude.{◌≡◌, ℕ, ◌≤◌, ◌||◌, Bool, bytes_eq, List, length, All, Option, Some, IsSome, Result, Ok, Err, if◌then◌else◌, sum_by}
use Rattle.std.specs.Ordering.{nat_cmp}
use Rattle.std.specs.Cmp.Lexicographic.{slice_cmp}
use Rattle.std.specs.List.{list_any}
use Rattle.std.specs.List.Sorted.{IsStrictlySortedBy}
use Rattle.std.specs.Map.{keys_of, values_of, lookup, remove_entry}
use Rattle.std.specs.BTreeMap.{insert_entry}
use Rattle.ms_base.specs.declared.limits.TheConstants.{FILES, FILE_2_BYTES, LEVELS, PART_BYTES, PATH_BYTES, TOTAL_BYTES}
use Rattle.ms_base.specs.declared.names.Quantity.TheVariants as quantities
use Rattle.ms_tree.specs.declared.limits.FilesError.{FilesError}
use Rattle.ms_tree.specs.declared.limits.FilesError.TheVariants as errors
use Rattle.ms_tree.specs.Paths.{parts_of, long_part, is_path, is_directory_of, IsPath, IsDirectoryOf}
use Rattle.ms_tree.specs.Limits.{within, on_ok}

-- paths and texts
abbrev pub FileList : Type 0
FileList = List (List ℕ × List ℕ)

-- the text at the path
abbrev pub text_at : FileList → List ℕ → Option (List ℕ)
text_at files path = lookup (bytes_eq path) files

-- the text stands at the path, in its place in the order or in place of the one that was there
abbrev pub with_file : FileList → List ℕ → List ℕ → FileList
with_file files path text = insert_entry (slice_cmp nat_cmp) files path text

-- nothing stands at the path
abbrev pub without : FileList → List ℕ → FileList
without files path = remove_entry (bytes_eq path) files

-- the bytes of all texts
abbrev pub total_of : FileList → ℕ
total_of files = sum_by length (values_of files)

-- the path is a directory of another, or another is a directory of it
abbrev pub is_clash : FileList → List ℕ → Bool
is_clash files path = list_any (λ f. is_directory_of f.0 path) files || list_any (λ f. is_directory_of path f.0) files

-- the limits on a path, the first that it passes
abbrev pub path_limits : List ℕ → Result Unit FilesError
path_limits path =
    on_ok (within quantities.Path (length path) PATH_BYTES) (λ _.
    on_ok (within quantities.Part (long_part (parts_of path)) PART_BYTES) (λ _.
    within quantities.Levels (length (parts_of path)) LEVELS))

-- the limits on a text, and on the files once they have it
abbrev pub size_limits : List ℕ → FileList → Result Unit FilesError
size_limits text after =
    on_ok (within quantities.File (length text) FILE_2_BYTES) (λ _.
    on_ok (within quantities.Files (length after) FILES) (λ _.
    within quantities.Total (total_of after) TOTAL_BYTES))

-- the files with the text at the path, or the first rule that it breaks
abbrev pub added : FileList → List ℕ → List ℕ → Result FileList FilesError
added files path text =
    if is_path path then
    on_ok (path_limits path) (λ _.
    on_ok (size_limits text (with_file files path text)) (λ _.
    if is_clash files path then Err errors.Clash else Ok (with_file files path text)))
    else Err errors.BadPath

-- no rule is broken that is judged before memory is taken: all but Clash
abbrev pub Judged : Result FileList FilesError → Type 0
Judged (Ok files) = Unit
Judged (Err errors.Clash) = Unit
Judged (Err other) = ⊥

-- what an add answers, and what stands then; NoMemory comes only where the rules that are judged before are kept
abbrev pub Adds : FileList → FileList → Result FileList FilesError → Result Unit FilesError → Type 0
Adds old new given (Ok _) = given ≡ Ok new
Adds old new given (Err errors.NoMemory) = (new ≡ old) × Judged given
Adds old new given (Err e) = (given ≡ Err e) × (new ≡ old)

-- a path and a text within their limits
pub record IsFile (path text : List ℕ) : Type 0 where
  pub path_is : IsPath path
  pub path_short : length path ≤ PATH_BYTES
  pub parts_short : All (λ part. length part ≤ PART_BYTES) (parts_of path)
  pub levels : length (parts_of path) ≤ LEVELS
  pub text_short : length text ≤ FILE_2_BYTES

-- the paths rise by their bytes, none is a directory of another, and all limits are kept
pub record IsFiles (files : FileList) : Type 0 where
  pub rising : IsStrictlySortedBy (slice_cmp nat_cmp) (keys_of files)
  pub each : (path text : List ℕ) → text_at files path ≡ Some text → IsFile path text
  pub apart : (dir path : List ℕ) → IsSome (text_at files dir) → IsSome (text_at files path) → ¬ IsDirectoryOf dir path
  pub count : length files ≤ FILES
  pub total : total_of files ≤ TOTAL_BYTES
