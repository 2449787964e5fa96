use Rattle.ms_bid.specs.Shown.{GreatestUpTo}
use Rattle.ms_bid.proofs.offer.greatest_best.Given as goal

abbrev pub invariant-loop-service : goal.invariant-loop-service
invariant-loop-service l = GreatestUpTo l.sights l.service l.found
