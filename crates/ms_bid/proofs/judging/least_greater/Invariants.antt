use Rattle.ms_bid.specs.Ends.{NoneGreaterBelow}
use Rattle.ms_bid.proofs.judging.least_greater.Given as goal

abbrev pub invariant-loop-place : goal.invariant-loop-place
invariant-loop-place l = NoneGreaterBelow l.sights l.ballot l.place
