use Rattle.std.proofs.Common.{take}
use Rattle.ms_record.specs.Logs.{votes_in}
use Rattle.ms_record.specs.Looks.{HasShown, IsOfBid}
use Rattle.ms_world.proofs.shown.shown.Given as goal

abbrev pub invariant-loop-event : goal.invariant-loop-event
invariant-loop-event l = record {
  bid : IsOfBid l.fn.position l.fn.ballot l.look;
  shown : HasShown (votes_in (take l.event-index l.log)) l.look;
}
