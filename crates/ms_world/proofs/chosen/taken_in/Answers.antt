use Rattle.ms_world.proofs.Counting.{read_on}
use Rattle.std.proofs.Common.{◌∙◌}
use Rattle.ms_world.proofs.chosen.taken_in.Goals as goal

pub loop-event-preserved : goal.loop-event-preserved
loop-event-preserved c = record {
  position = c.in_ok-read_event.ensures.position ∙ c.loop-event.invariant.position;
  read = read_on c.args.log.now c.loop-event.event-index c.event-item.result _ _ _ _ c.loop-event-test.true c.event-item.is c.in_ok-read_event.ensures.read c.loop-event.invariant.read;
}
