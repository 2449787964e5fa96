use Rattle.ms_top.proofs.Running.{Carried}
use Rattle.ms_top.proofs.drills.run_events.Given as goal

abbrev pub invariant-loop-event : goal.invariant-loop-event
invariant-loop-event l = Carried l.drill.setting l.event-items l.event-index l.world
