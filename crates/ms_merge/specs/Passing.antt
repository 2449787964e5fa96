-- Which limit merged files pass first, part by part.
use Rattle.std.specs.Prelude.{ℕ, ◌≤◌, List, length, All, Result, Ok, Err}
use Rattle.ms_base.specs.declared.limits.TheConstants.{PART_BYTES, PATH_BYTES, TOTAL_BYTES}
use Rattle.ms_base.specs.declared.names.Quantity.TheVariants as quantities
use Rattle.ms_record.specs.declared.refusal.Refusal.{Refusal}
use Rattle.ms_record.specs.declared.refusal.Refusal.TheVariants as refusals
use Rattle.ms_tree.specs.Paths.{parts_of, long_part}
use Rattle.ms_tree.specs.Files.{FileList, total_of}
use Rattle.ms_tree.specs.Merging.{IsFirstPast, IsFirstLong, KeepsLimits, PassesLimit}

-- that limit, or that they keep all; NoMemory may always come
abbrev pub Fits : FileList → List (List ℕ) → Result Unit Refusal → Type 0
Fits files names (Ok _) = KeepsLimits files names
Fits files names (Err (refusals.Limit what value)) = PassesLimit files names what value
Fits files names (Err refusals.NoMemory) = Unit {0}
Fits files names (Err other) = ⊥

-- the bytes of all files
abbrev pub FitsTotal : FileList → Result Unit Refusal → Type 0
FitsTotal files (Ok _) = total_of files ≤ TOTAL_BYTES
FitsTotal files (Err (refusals.Limit quantities.Total value)) = IsFirstPast files value
FitsTotal files (Err other) = ⊥

-- the names, and their parts
abbrev pub FitsNames : List (List ℕ) → Result Unit Refusal → Type 0
FitsNames names (Ok _) = All (λ name. length name ≤ PATH_BYTES) names × All (λ name. long_part (parts_of name) ≤ PART_BYTES) names
FitsNames names (Err (refusals.Limit quantities.Path value)) = IsFirstLong length PATH_BYTES names value
FitsNames names (Err (refusals.Limit quantities.Part value)) = All (λ name. length name ≤ PATH_BYTES) names × IsFirstLong (λ name. long_part (parts_of name)) PART_BYTES names value
FitsNames names (Err other) = ⊥
