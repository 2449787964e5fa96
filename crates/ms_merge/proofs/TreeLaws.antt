-- What is known of files and of merges, by the laws of trees.
use Rattle.std.specs.Prelude.{◌≡◌, ◌↔◌, ℕ, List, Some, IsTrue, bytes_eq, if◌then◌else◌}
use Rattle.std.specs.Ordering.{nat_cmp}
use Rattle.std.specs.Cmp.Lexicographic.{slice_cmp}
use Rattle.std.specs.List.Sorted.{IsStrictlySortedBy}
use Rattle.std.specs.Map.{keys_of}
use Rattle.ms_tree.specs.Paths.{is_directory_of, IsDirectoryOf}
use Rattle.ms_tree.specs.Files.{FileList, text_at, with_file}
use Rattle.ms_tree.specs.MergeLaws.{MergeLaws}

-- the test decides what a directory is
abbrev pub DirectoryLaw : Type 0
DirectoryLaw = (dir path : List ℕ) → IsTrue (is_directory_of dir path) ↔ IsDirectoryOf dir path

pub record TreeLaws : Type 0 where
  pub directory : DirectoryLaw
  pub put : (files : FileList) (path text other : List ℕ) → text_at (with_file files path text) other ≡ (if bytes_eq other path then Some text else text_at files other)
  pub rises : (files : FileList) (path text : List ℕ) → IsStrictlySortedBy (slice_cmp nat_cmp) (keys_of files) → IsStrictlySortedBy (slice_cmp nat_cmp) (keys_of (with_file files path text))
  pub merges : MergeLaws
