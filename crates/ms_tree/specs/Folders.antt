-- The files below a directory, by their paths from there.
use Rattle.std.specs.Prelude.{◌≤◌, ℕ, List, length, map, drop, filter, bytes_eq, All, Contains}
use Rattle.std.specs.List.Sorted.{IsStrictlySortedBy}
use Rattle.std.specs.Ordering.{nat_cmp}
use Rattle.std.specs.Cmp.Lexicographic.{slice_cmp}
use Rattle.ms_base.specs.declared.limits.TheConstants.{FILES, FILE_2_BYTES}
use Rattle.ms_object.specs.declared.format.Format.{Format}
use Rattle.ms_object.specs.Labels.{IsLabel}
use Rattle.ms_object.specs.Objects.{most_file, most_rows}
use Rattle.ms_object.specs.Trees.{FileText}
use Rattle.ms_tree.specs.declared.files.FileRef.{FileRef}
use Rattle.ms_tree.specs.declared.parts.Part.{Part}
use Rattle.ms_tree.specs.Paths.{parts_of, IsDirectoryOf}
use Rattle.ms_tree.specs.Planting.{first_part, first_parts}

-- the file by its path without the first bytes of it
abbrev pub cut_file : ℕ → FileText → FileText
cut_file skip file = (drop skip file.0, file.1)

-- files by their paths without the first bytes of them
abbrev pub cut_files : ℕ → List FileText → List FileText
cut_files skip files = map (cut_file skip) files

-- the files that are shown, by their paths without the first bytes of them
abbrev pub shown_from : ℕ → List FileRef → List FileText
shown_from skip files = map (λ file. (drop skip file.path.now, file.text.now)) files

-- a part that is shown, with its files by their paths without the first bytes of them
abbrev pub shown_part : ℕ → Part → List ℕ × List FileText
shown_part skip part = (part.label.now, shown_from skip part.files.now)

-- the first bytes are there
abbrev pub Reach : ℕ → List FileRef → Type 0
Reach skip files = All (λ file. skip ≤ length file.path.now) files

-- so few files, each so small, that the bytes of all are a number of 64 bits
pub record AreSmall (files : List FileRef) : Type 0 where
  pub few : length files ≤ FILES
  pub each : All (λ file. length file.text.now ≤ FILE_2_BYTES) files

-- the files whose paths begin with this part
abbrev pub in_part : List FileText → List ℕ → List FileText
in_part files part = filter (λ file. bytes_eq (first_part file.0) part) files

-- a file that may be planted, whose path has so many parts at most
pub record IsFileBelow (format : Format) (left : ℕ) (file : FileText) : Type 0 where
  pub labels : All IsLabel (parts_of file.0)
  pub levels : length (parts_of file.0) ≤ left
  pub fits : length file.1 ≤ most_file format

-- the paths rise, and none is a directory of another
pub record IsFolder (format : Format) (left : ℕ) (files : List FileText) : Type 0 where
  pub rising : IsStrictlySortedBy (slice_cmp nat_cmp) (map (λ file. file.0) files)
  pub apart : (dir file : FileText) → Contains files dir → Contains files file → ¬ (IsDirectoryOf dir.0 file.0)
  pub each : All (IsFileBelow format left) files
  pub few : length files ≤ most_rows

-- each first part with the files that begin with it
abbrev pub split_files : List FileText → List (List ℕ × List FileText)
split_files files = map (λ part. (part, in_part files part)) (first_parts files)
