-- The field of a draft: a map.
use Rattle.std.specs.Prelude.{map, string_bytes}
use Rattle.std.specs.Ordering.{nat_cmp}
use Rattle.std.specs.Cmp.Lexicographic.{slice_cmp}
use Rattle.std.specs.List.Sorted.{IsStrictlySortedBy}
use Rattle.std.specs.Map.{keys_of}
use Rattle.ms_tree.specs.declared.draft.Draft.TheInside.{Inside}
use Rattle.ms_tree.specs.Files.{FileList}

abbrev pub view_of : Inside → FileList
view_of s = map (λ e. (string_bytes e.0, e.1.now)) s.map.entries

pub record IsRising (s : Inside) : Type 0 where
  pub rising : IsStrictlySortedBy (slice_cmp nat_cmp) (keys_of (view_of s))
