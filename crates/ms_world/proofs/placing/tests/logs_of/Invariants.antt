use Rattle.std.proofs.Common.{All}
use Rattle.ms_world.specs.PutTexts.{ArePutsNamed}
use Rattle.ms_world.proofs.placing.tests.logs_of.Given as goal

abbrev pub invariant-loop-service : goal.invariant-loop-service
invariant-loop-service l = All ArePutsNamed l.logs.items
