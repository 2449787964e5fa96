use Rattle.std.proofs.Common.{arith}
use Rattle.ms_replay.proofs.Choosing.{first_below}
use Rattle.ms_replay.proofs.tally_tests.chosen_of.Goals as goal

pub chosen-requires-clause-known : goal.chosen-requires-clause-known
chosen-requires-clause-known c = first_below c.args.voters c.args.tally.now.services c.all.result c.all.ensures.are (omega (arith, c.services.ensures))
