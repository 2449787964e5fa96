use Rattle.ms_record.proofs.ServicesFilled.{NoneOf}
use Rattle.ms_record.proofs.services.ServiceSet.has.Given as goal

abbrev pub invariant-loop-own : goal.invariant-loop-own
invariant-loop-own l = NoneOf l.own-items l.own-index l.service.0
