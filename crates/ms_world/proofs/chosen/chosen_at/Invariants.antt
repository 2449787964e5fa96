use Rattle.std.proofs.Common.{◌≡◌, ℕ, [], ◌<◌, get_or, length}
use Rattle.ms_world.specs.Passes.{AreTaken}
use Rattle.ms_world.specs.Rulings.{votes_at}
use Rattle.ms_world.proofs.chosen.chosen_at.Given as goal

abbrev pub invariant-loop-log : goal.invariant-loop-log
invariant-loop-log l = record {
  each : length l.lists.items ≡ l.log-index;
  taken : (s : ℕ) → s < l.log-index → AreTaken (votes_at l.logs s) l.position (get_or l.lists.items s []);
}
