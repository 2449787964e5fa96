-- The fields of files: a map, and the sum of its texts' lengths.
use Rattle.std.specs.Prelude.{◌≡◌, map, string_bytes}
use Rattle.ms_tree.specs.declared.files.Files.TheInside.{Inside}
use Rattle.ms_tree.specs.Files.{FileList, IsFiles, total_of}

abbrev pub view_of : Inside → FileList
view_of s = map (λ e. (string_bytes e.0, e.1)) s.map.entries

pub record IsKept (s : Inside) : Type 0 where
  pub files : IsFiles (view_of s)
  pub total : s.total ≡ total_of (view_of s)
