-- What contracts see of a keeper and of a work folder, and what each call leaves, by its answer.
use Rattle.std.specs.Prelude.{◌≡◌, ◌≢◌, ◌⊎◌, ℕ, Bool, true, List, [], ◌∷◌, Option, Some, Result, Ok, Err}
use Rattle.ms_base.specs.Counts.{Rose}
use Rattle.ms_base.specs.declared.outside.OutsideError.{OutsideError}
use Rattle.ms_base.specs.declared.outside.OutsideError.TheVariants as errors
use Rattle.ms_tree.specs.declared.limits.FilesError.{FilesError}
use Rattle.ms_tree.specs.declared.limits.FilesError.TheVariants as file_errors
use Rattle.ms_tree.specs.Files.{FileList, IsFiles, added, with_file, without}
use Rattle.ms_tree.specs.Limits.{on_ok}
use Rattle.ms_record.specs.declared.key.Key.{Key}
use Rattle.ms_local.specs.declared.outside.WorkError.{WorkError}
use Rattle.ms_local.specs.declared.outside.WorkError.TheVariants as work_errors

-- the text of each key that has one
abbrev pub KeptTexts : Type 0
KeptTexts = Key → Option (List ℕ)

-- a keeper: whether it tells its texts, these, and its count of faults
pub record KeeperView : Type 0 where
  pub told : Bool
  pub texts : KeptTexts
  pub faults : ℕ

-- a work folder: whether it tells its files, these, and its count of faults
pub record WorkView : Type 0 where
  pub told : Bool
  pub files : FileList
  pub faults : ℕ

-- a fact where the texts, or the files, are told
abbrev pub WhereTold : Bool → Type 0 → Type 0
WhereTold told P = told ≡ true → P

-- the count of faults is as before after each answer but a failure
abbrev pub IsSteady : {X : Type 0} → ℕ → ℕ → Result X OutsideError → Type 0
IsSteady before now (Err errors.Failed) = Unit {0}
IsSteady before now (Err errors.NoMemory) = now ≡ before
IsSteady before now (Ok x) = now ≡ before

-- the same of a scan
abbrev pub IsScanSteady : ℕ → ℕ → Result FileList WorkError → Type 0
IsScanSteady before now (Err work_errors.Failed) = Unit {0}
IsScanSteady before now (Err work_errors.NoMemory) = now ≡ before
IsScanSteady before now (Err (work_errors.Limit what value)) = now ≡ before
IsScanSteady before now (Ok files) = now ≡ before

-- ---- keepers

abbrev pub Reads : Key → KeeperView → KeeperView → Result (Option (List ℕ)) OutsideError → Type 0
Reads key old new (Ok text) = WhereTold old.told (text ≡ old.texts key)
Reads key old new (Err errors.Failed) = Rose old.faults new.faults
Reads key old new (Err errors.NoMemory) = Unit {0}

-- the text stands under the key, and each other key has what it had
pub record IsKept (key : Key) (text : List ℕ) (old new : KeptTexts) : Type 0 where
  pub here : new key ≡ Some text
  pub others : (other : Key) → other ≢ key → new other ≡ old other

-- the texts are as before, or with this one
abbrev pub MayBeKept : Key → List ℕ → KeptTexts → KeptTexts → Type 0
MayBeKept key text old new = (new ≡ old) ⊎ IsKept key text old new

abbrev pub Writes : Key → List ℕ → KeeperView → KeeperView → Result Unit OutsideError → Type 0
Writes key text old new (Ok _) = WhereTold old.told (IsKept key text old.texts new.texts)
Writes key text old new (Err errors.Failed) = Rose old.faults new.faults × WhereTold old.told (MayBeKept key text old.texts new.texts)
Writes key text old new (Err errors.NoMemory) = WhereTold old.told (MayBeKept key text old.texts new.texts)

-- ---- work folders

-- the files one by one behind these, or the first rule that one of them breaks beside those before it
abbrev pub all_added : FileList → FileList → Result FileList FilesError
all_added files [] = Ok files
all_added files (next ∷ rest) = on_ok (added files next.0 next.1) (λ more. all_added more rest)

-- this is the first limit that the files pass, in the order of their paths
pub record PassesFirst (files : FileList) (error : FilesError) : Type 0 where
  pub passes : IsFiles files → ⊥
  pub first : all_added [] files ≡ Err error

-- told files keep all rules exactly where no limit is passed
abbrev pub Scans : WorkView → WorkView → Result FileList WorkError → Type 0
Scans old new (Ok files) = WhereTold old.told (files ≡ old.files)
Scans old new (Err (work_errors.Limit what value)) = WhereTold old.told (PassesFirst old.files (file_errors.Limit what value))
Scans old new (Err work_errors.Failed) = Rose old.faults new.faults
Scans old new (Err work_errors.NoMemory) = Unit {0}

-- with the text at the path the files keep all rules
abbrev pub MayPlace : List ℕ → List ℕ → WorkView → Type 0
MayPlace path text work = WhereTold work.told (added work.files path text ≡ Ok (with_file work.files path text))

-- the files are as before, or these
abbrev pub MayBe : FileList → FileList → FileList → Type 0
MayBe files old new = (new ≡ old) ⊎ (new ≡ files)

-- the files are to be these
abbrev pub Becomes : FileList → WorkView → WorkView → Result Unit OutsideError → Type 0
Becomes files old new (Ok _) = WhereTold old.told (new.files ≡ files)
Becomes files old new (Err errors.Failed) = Rose old.faults new.faults × WhereTold old.told (MayBe files old.files new.files)
Becomes files old new (Err errors.NoMemory) = WhereTold old.told (MayBe files old.files new.files)

abbrev pub Places : List ℕ → List ℕ → WorkView → WorkView → Result Unit OutsideError → Type 0
Places path text old new result = Becomes (with_file old.files path text) old new result

abbrev pub Removes : List ℕ → WorkView → WorkView → Result Unit OutsideError → Type 0
Removes path old new result = Becomes (without old.files path) old new result
