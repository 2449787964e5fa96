use Rattle.std.proofs.Common.{◌≡◌, map, take}
use Rattle.ms_tree.specs.DraftFiles.{drafted}
use Rattle.ms_tree.specs.Merging.{conflicts}
use Rattle.ms_merge.proofs.Steps.{shown}
use Rattle.ms_merge.proofs.sides.conflicts.Given as goal

abbrev pub invariant-loop-row : goal.invariant-loop-row
invariant-loop-row l = map drafted l.found.items ≡ conflicts l.sides.base.now (map shown (take l.row-index l.row-items)) l.sides.theirs.now
