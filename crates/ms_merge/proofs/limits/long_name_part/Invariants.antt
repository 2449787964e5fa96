use Rattle.std.proofs.Common.{◌≤◌, All, map, take}
use Rattle.ms_tree.specs.Paths.{parts_of, long_part}
use Rattle.ms_merge.proofs.LimitLaws.{name_of}
use Rattle.ms_merge.proofs.limits.long_name_part.Given as goal

abbrev pub invariant-loop-name : goal.invariant-loop-name
invariant-loop-name l = All (λ name. long_part (parts_of name) ≤ 200) (map name_of (take l.name-index l.names))
