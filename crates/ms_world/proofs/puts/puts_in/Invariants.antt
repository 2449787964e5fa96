use Rattle.std.proofs.Common.{take}
use Rattle.ms_world.specs.Puts.{Knows}
use Rattle.ms_world.proofs.puts.puts_in.Given as goal

abbrev pub invariant-loop-service : goal.invariant-loop-service
invariant-loop-service l = Knows (take l.service l.logs) l.generation l.puts.entries
