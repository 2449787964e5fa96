use Rattle.std.proofs.Common.{◌≡◌, take}
use Rattle.ms_top.specs.Drills.{known_of}
use Rattle.ms_top.proofs.drills.known.Given as goal

abbrev pub invariant-loop-client : goal.invariant-loop-client
invariant-loop-client l = l.known ≡ take l.client (known_of l.world.world)
