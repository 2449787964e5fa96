use Rattle.std.proofs.Common.{◌≤◌}
use Rattle.ms_world.specs.Passes.{ArePromises}
use Rattle.ms_world.specs.Rulings.{votes_at}
use Rattle.ms_world.proofs.rule.rule.Given as goal

abbrev pub invariant-loop-log : goal.invariant-loop-log
invariant-loop-log l = record {
  few : l.promises.count ≤ l.log-index;
  are : ArePromises (votes_at l.logs) l.position l.ballot l.log-index l.promises.count l.promises.greatest;
}
