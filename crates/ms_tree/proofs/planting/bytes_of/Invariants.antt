use Rattle.ms_tree.proofs.Sums.{IsSum}
use Rattle.ms_tree.proofs.planting.bytes_of.Given as goal

abbrev pub invariant-loop-file : goal.invariant-loop-file
invariant-loop-file l = IsSum l.files l.file-index l.total
