use Rattle.ms_world.proofs.Fronts.{AreFirst}
use Rattle.ms_world.specs.Worlds.{known_votes}
use Rattle.ms_world.proofs.state.State.known_fronts.Given as goal

abbrev pub invariant-loop-i : goal.invariant-loop-i
invariant-loop-i l = AreFirst (known_votes l.self l.c) l.voters l.i l.fronts.items
