use Rattle.ms_world.proofs.Fronts.{AreFirst}
use Rattle.ms_world.specs.Worlds.{votes_of_world}
use Rattle.ms_world.proofs.state.State.whole_fronts.Given as goal

abbrev pub invariant-loop-i : goal.invariant-loop-i
invariant-loop-i l = AreFirst (votes_of_world l.self) l.voters l.i l.fronts.items
