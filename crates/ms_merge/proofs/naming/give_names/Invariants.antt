use Rattle.std.proofs.Common.{map, take}
use Rattle.ms_tree.specs.DraftFiles.{drafted}
use Rattle.ms_merge.specs.Naming.{IsGiven, IsNamed}
use Rattle.ms_merge.proofs.naming.give_names.Given as goal

abbrev pub invariant-loop-file : goal.invariant-loop-file
invariant-loop-file l =
    IsGiven l.given.by_name (map drafted l.given.order.items)
    × IsNamed l.sides.base.now l.sides.ours.now l.sides.theirs.now l.tag (map drafted (take l.file-index l.files)) (map drafted l.initial.given.order.items) (map drafted l.given.order.items) l.initial.draft l.draft
