use Rattle.std.proofs.Common.{◌-◌, ◌^◌}
use Rattle.ms_world.proofs.PlacedLaws.{Walked}
use Rattle.ms_world.proofs.placing.is_placed.Given as goal

abbrev pub invariant-loop-place : goal.invariant-loop-place
invariant-loop-place l = Walked l.logs l.plan l.version l.puts.entries l.met l.place

abbrev pub decreases-loop-place : goal.decreases-loop-place
decreases-loop-place l = 2 ^ 64 - l.place
