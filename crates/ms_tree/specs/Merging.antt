-- The merge of base, ours and theirs with a tag, by single paths.
use Rattle.std.specs.Prelude.{◌≡◌, ◌≢◌, ◌⊎◌, ℕ, zero, suc, ◌+◌, ◌<◌, ◌≤◌, ◌||◌, ◌&&◌, Bool, true, false, not, bytes_eq, nat_lt, List, [], ◌∷◌, ◌++◌, length, take, filter, find, All, Option, Some, None, is_some, Result, Ok, Err, if◌then◌else◌}
use Rattle.std.specs.Fmt.{decimal}
use Rattle.std.specs.Ordering.{nat_cmp}
use Rattle.std.specs.Cmp.Lexicographic.{slice_cmp}
use Rattle.std.specs.List.{list_any}
use Rattle.std.specs.List.Sorted.{IsStrictlySortedBy}
use Rattle.std.specs.Map.{keys_of}
use Rattle.std.specs.Option.{option_or}
use Rattle.ms_base.specs.declared.limits.TheConstants.{FILES, PART_BYTES, PATH_BYTES, TOTAL_BYTES}
use Rattle.ms_base.specs.declared.names.Quantity.{Quantity}
use Rattle.ms_base.specs.declared.names.Quantity.TheVariants as quantities
use Rattle.ms_record.specs.declared.refusal.Refusal.{Refusal}
use Rattle.ms_record.specs.declared.refusal.Refusal.TheVariants as refusals
use Rattle.ms_text.specs.Labels.{IsClientLabel}
use Rattle.ms_tree.specs.Paths.{parts_of, long_part, is_directory_of}
use Rattle.ms_tree.specs.Files.{FileList, text_at, total_of, IsFiles}

-- a text, or nothing where no file is
abbrev pub Side : Type 0
Side = Option (List ℕ)

abbrev pub is_same : Side → Side → Bool
is_same None None = true
is_same (Some one) (Some other) = bytes_eq one other
is_same None (Some other) = false
is_same (Some one) None = false

-- what a path gives: equal sides that side, a side equal to base the other one; of two different changes theirs, unless it is a deletion
abbrev pub standing : Side → Side → Side → Side
standing base ours theirs =
    if is_same ours theirs then ours else
    (if is_same ours base then theirs else
    (if is_same theirs base then ours else option_or theirs ours))

-- two different changes, neither of them a deletion
abbrev pub is_conflict : Side → Side → Side → Bool
is_conflict base ours theirs = (is_some ours && is_some theirs) && (not (is_same ours theirs) && (not (is_same ours base) && not (is_same theirs base)))

-- the tagged names of a path: `path.tag`, `path.tag.2`, `path.tag.3` and so on
abbrev pub tagged : List ℕ → List ℕ → ℕ → List ℕ
tagged tag path zero = path ++ 46 ∷ tag
tagged tag path (suc k) = path ++ 46 ∷ tag ++ 46 ∷ decimal (suc (suc k))

-- a path of the files, or a directory of one
abbrev pub is_taken : FileList → List ℕ → Bool
is_taken files name = is_some (text_at files name) || list_any (λ f. is_directory_of name f.0) files

-- base, ours and theirs have no path or directory of this name, and it was not given yet
abbrev pub is_free : FileList → FileList → FileList → List (List ℕ) → List ℕ → Bool
is_free base ours theirs given name = not (is_taken base name || (is_taken ours name || (is_taken theirs name || list_any (bytes_eq name) given)))

-- the first tagged name of the path that is free
pub record IsTagged (base ours theirs : FileList) (tag : List ℕ) (given : List (List ℕ)) (path name : List ℕ) : Type 0 where
  pub number : ℕ
  pub spelled : name ≡ tagged tag path number
  pub free : is_free base ours theirs given name ≡ true
  pub first : (k : ℕ) → k < number → is_free base ours theirs given (tagged tag path k) ≡ false

-- the same files at tagged names, given to one after the other
abbrev pub AreTagged : FileList → FileList → FileList → List ℕ → List (List ℕ) → FileList → FileList → Type 0
AreTagged base ours theirs tag given [] [] = Unit {0}
AreTagged base ours theirs tag given (file ∷ files) (named ∷ more) =
    IsTagged base ours theirs tag given file.0 named.0 × (named.1 ≡ file.1) × AreTagged base ours theirs tag (given ++ named.0 ∷ []) files more
AreTagged base ours theirs tag given [] (named ∷ more) = ⊥
AreTagged base ours theirs tag given (file ∷ files) [] = ⊥

-- ours' files at the paths of conflicts, in rising order
abbrev pub conflicts : FileList → FileList → FileList → FileList
conflicts base ours theirs = filter (λ f. is_conflict (text_at base f.0) (Some f.1) (text_at theirs f.0)) ours

-- the files whose path is a directory of another's, in rising order where they rise
abbrev pub directories : FileList → FileList
directories files = filter (λ f. list_any (λ g. is_directory_of f.0 g.0) files) files

-- settled by path, with ours at a tagged name where there is a conflict; then each file at a directory of another is moved to one
pub record IsMerge (base ours theirs : FileList) (tag : List ℕ) (files : FileList) : Type 0 where
  pub doubled : FileList
  pub settled : FileList
  pub moved : FileList
  pub are_doubled : AreTagged base ours theirs tag [] (conflicts base ours theirs) doubled
  pub settled_rise : IsStrictlySortedBy (slice_cmp nat_cmp) (keys_of settled)
  pub are_settled : (path : List ℕ) → text_at settled path ≡ option_or (text_at doubled path) (standing (text_at base path) (text_at ours path) (text_at theirs path))
  pub are_moved : AreTagged base ours theirs tag (keys_of doubled) (directories settled) moved
  pub rise : IsStrictlySortedBy (slice_cmp nat_cmp) (keys_of files)
  pub are_files : (path : List ℕ) → text_at files path ≡ option_or (text_at moved path) (if is_some (text_at (directories settled) path) then None else text_at settled path)

-- the names that a merge gave, in the order in which it gave them
abbrev pub names_of : {base ours theirs : FileList} {tag : List ℕ} {files : FileList} → IsMerge base ours theirs tag files → List (List ℕ)
names_of merge = keys_of merge.doubled ++ keys_of merge.moved

-- what may be merged: files that keep all rules, with the label of a client as the tag
pub record MayMerge (base ours theirs : FileList) (tag : List ℕ) : Type 0 where
  pub base_whole : IsFiles base
  pub ours_whole : IsFiles ours
  pub theirs_whole : IsFiles theirs
  pub is_tag : IsClientLabel tag

-- the merge, which passes no limit
pub record IsMerged (base ours theirs : FileList) (tag : List ℕ) (files : FileList) : Type 0 where
  pub merge : IsMerge base ours theirs tag files
  pub whole : IsFiles files

-- the files of ours merged with those of a list, one after the other; what was merged last is the base of the next
abbrev pub IsMergedAll : FileList → FileList → List FileList → List ℕ → FileList → Type 0
IsMergedAll base ours [] tag files = files ≡ ours
IsMergedAll base ours (theirs ∷ more) tag files = (next : FileList) × IsMerged base ours theirs tag next × IsMergedAll theirs next more tag files

-- the sum of the texts when it first passes the limit, in rising order of the paths
pub record IsFirstPast (files : FileList) (sum : ℕ) : Type 0 where
  pub place : ℕ
  pub there : place < length files
  pub before : total_of (take place files) ≤ TOTAL_BYTES
  pub is : sum ≡ total_of (take (place + 1) files)
  pub past : TOTAL_BYTES < sum

-- the first of the names for which the length is above the limit has this length
abbrev pub IsFirstLong : (List ℕ → ℕ) → ℕ → List (List ℕ) → ℕ → Type 0
IsFirstLong measure most names value = (name : List ℕ) × (find (λ name. nat_lt most (measure name)) names ≡ Some name) × (value ≡ measure name)

-- merged files and names within all limits
pub record KeepsLimits (files : FileList) (names : List (List ℕ)) : Type 0 where
  pub few : length files ≤ FILES
  pub small : total_of files ≤ TOTAL_BYTES
  pub short : All (λ name. length name ≤ PATH_BYTES) names
  pub parts_short : All (λ name. long_part (parts_of name) ≤ PART_BYTES) names

-- the limit that they pass first, and the value that passes it
abbrev pub PassesLimit : FileList → List (List ℕ) → Quantity → ℕ → Type 0
PassesLimit files names quantities.Files value = (FILES < length files) × (value ≡ FILES + 1)
PassesLimit files names quantities.Total value = (length files ≤ FILES) × IsFirstPast files value
PassesLimit files names quantities.Path value = (length files ≤ FILES) × (total_of files ≤ TOTAL_BYTES) × IsFirstLong length PATH_BYTES names value
PassesLimit files names quantities.Part value =
    (length files ≤ FILES) × (total_of files ≤ TOTAL_BYTES) × All (λ name. length name ≤ PATH_BYTES) names × IsFirstLong (λ name. long_part (parts_of name)) PART_BYTES names value
PassesLimit files names what value = ⊥

-- what a merge answers; NoMemory may always come
abbrev pub Merges : FileList → FileList → FileList → List ℕ → Result FileList Refusal → Type 0
Merges base ours theirs tag (Ok files) = IsMerged base ours theirs tag files
Merges base ours theirs tag (Err (refusals.Limit what value)) = (files : FileList) × (merge : IsMerge base ours theirs tag files) × PassesLimit files (names_of merge) what value
Merges base ours theirs tag (Err refusals.NoMemory) = Unit {0}
Merges base ours theirs tag (Err other) = ⊥

-- a file of a side that base has not so stands in the files with its text, at its path or at a tagged name of it
abbrev pub KeepsChanges : FileList → FileList → List ℕ → FileList → Type 0
KeepsChanges base side tag files = (path text : List ℕ) → text_at side path ≡ Some text → text_at base path ≢ Some text
    → (text_at files path ≡ Some text) ⊎ ((number : ℕ) × (text_at files (tagged tag path number) ≡ Some text))
