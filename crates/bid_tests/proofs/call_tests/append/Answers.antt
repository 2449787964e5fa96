use Rattle.bid_tests.proofs.Seating.{never_told}
use Rattle.bid_tests.proofs.call_tests.append.Goals as goal

pub append_noted-requires-clause-supported : goal.append_noted-requires-clause-supported
append_noted-requires-clause-supported g c setting told = absurd (never_told c.args.desk.now.pass.lists setting c.requires.desk.untold told)
