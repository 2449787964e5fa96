use Rattle.ms_world.specs.PutTexts.{ArePutsNamed}
use Rattle.ms_world.proofs.placing.tests.log_of.Given as goal

abbrev pub invariant-loop-at : goal.invariant-loop-at
invariant-loop-at l = ArePutsNamed l.log
