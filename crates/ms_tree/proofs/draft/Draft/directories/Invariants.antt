use Rattle.ms_tree.proofs.DraftLaws.{AreFound}
use Rattle.ms_tree.proofs.draft.Draft.directories.Given as goal

abbrev pub invariant-loop-path : goal.invariant-loop-path
invariant-loop-path l = AreFound l.self l.found.items l.path-iterator
