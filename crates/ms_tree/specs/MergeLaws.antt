-- What is true of every merge.
use Rattle.std.specs.Prelude.{◌≡◌, ℕ, List, ◌≤◌, length, All}
use Rattle.ms_base.specs.declared.limits.TheConstants.{FILE_2_BYTES}
use Rattle.ms_base.specs.declared.names.Quantity.{Quantity}
use Rattle.ms_tree.specs.Files.{FileList, IsFiles}
use Rattle.ms_tree.specs.Merging.{MayMerge, IsMerge, names_of, KeepsLimits, PassesLimit, KeepsChanges}

-- It is the only one, as are the names that it gives in turn. It loses no change of ours or of theirs. Where it passes
-- no limit it is files, and where it passes one it is not.
pub record MergeLaws : Type 0 where
  pub one : (base ours theirs : FileList) (tag : List ℕ) (files others : FileList) → IsMerge base ours theirs tag files → IsMerge base ours theirs tag others → files ≡ others
  pub names : (base ours theirs : FileList) (tag : List ℕ) (files others : FileList) (merge : IsMerge base ours theirs tag files) (other : IsMerge base ours theirs tag others)
      → names_of merge ≡ names_of other
  pub ours : (base ours theirs : FileList) (tag : List ℕ) (files : FileList) → MayMerge base ours theirs tag → IsMerge base ours theirs tag files → KeepsChanges base ours tag files
  pub theirs : (base ours theirs : FileList) (tag : List ℕ) (files : FileList) → MayMerge base ours theirs tag → IsMerge base ours theirs tag files → KeepsChanges base theirs tag files
  pub short : (base ours theirs : FileList) (tag : List ℕ) (files : FileList) → MayMerge base ours theirs tag → IsMerge base ours theirs tag files → All (λ f. length f.1 ≤ FILE_2_BYTES) files
  pub whole : (base ours theirs : FileList) (tag : List ℕ) (files : FileList) → MayMerge base ours theirs tag → (merge : IsMerge base ours theirs tag files)
      → KeepsLimits files (names_of merge) → IsFiles files
  pub exact : (base ours theirs : FileList) (tag : List ℕ) (files : FileList) (what : Quantity) (value : ℕ) → MayMerge base ours theirs tag → (merge : IsMerge base ours theirs tag files)
      → PassesLimit files (names_of merge) what value → ¬ IsFiles files
