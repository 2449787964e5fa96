use Rattle.ms_bid.proofs.Flagging.{AreUpTo}
use Rattle.ms_bid.proofs.flags.Flags.services.Given as goal

abbrev pub invariant-loop-number : goal.invariant-loop-number
invariant-loop-number l = AreUpTo l.services l.fn.self l.number
