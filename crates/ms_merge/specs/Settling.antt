-- What single paths give, and what stands once rows of files were looked at.
use Rattle.std.specs.Prelude.{◌≡◌, ℕ, List, None, is_some, if◌then◌else◌}
use Rattle.std.specs.Map.{keys_of}
use Rattle.std.specs.Option.{option_or}
use Rattle.ms_tree.specs.Files.{FileList, text_at}
use Rattle.ms_tree.specs.Merging.{Side, standing, IsMerge, names_of}

-- what the path gives
abbrev pub settled_at : FileList → FileList → FileList → List ℕ → Side
settled_at base ours theirs path = standing (text_at base path) (text_at ours path) (text_at theirs path)

-- what the paths of the rows give stands there now
pub record Settles (base ours theirs rows old new : FileList) : Type 0 where
  pub there : (path : List ℕ) → text_at new path ≡ (if is_some (text_at rows path) then option_or (settled_at base ours theirs path) (text_at old path) else text_at old path)

-- nothing stands at the paths of the rows now
pub record Removes (rows old new : FileList) : Type 0 where
  pub there : (path : List ℕ) → text_at new path ≡ (if is_some (text_at rows path) then None else text_at old path)

-- the merge, and the names that it gave in order
pub record HasMerged (base ours theirs : FileList) (tag : List ℕ) (files names : FileList) : Type 0 where
  pub merge : IsMerge base ours theirs tag files
  pub names_are : names_of merge ≡ keys_of names
