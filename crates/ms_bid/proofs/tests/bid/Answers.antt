use Rattle.std.proofs.Common.{arith}
use Rattle.ms_bid.proofs.tests.bid.Goals as goal

pub new-requires-clause-voters_below : goal.new-requires-clause-voters_below
new-requires-clause-voters_below c = λ s v. omega (arith, c.voters.ensures.below s v, c.setting.ensures.services)
