use Rattle.ms_merge.proofs.LimitLaws.{AreAdded}
use Rattle.ms_merge.proofs.limits.check_total.Given as goal

abbrev pub invariant-loop-row : goal.invariant-loop-row
invariant-loop-row l = AreAdded l.rows l.row-index l.total
