use Rattle.std.proofs.Common.{map, take}
use Rattle.ms_tree.specs.DraftFiles.{drafted}
use Rattle.ms_merge.specs.Settling.{Removes}
use Rattle.ms_merge.proofs.merging.remove.Given as goal

abbrev pub invariant-loop-file : goal.invariant-loop-file
invariant-loop-file l = Removes (map drafted (take l.file-index l.files)) l.initial.draft l.draft
