use Rattle.ms_world.proofs.PutLaws.{knows_begin, knows_next}
use Rattle.ms_world.proofs.puts.add_log.Goals as goal

pub loop-event-init : goal.loop-event-init
loop-event-init c = λ logs at k. knows_begin logs c.args.generation c.args.puts.now.entries k

pub loop-event-preserved : goal.loop-event-preserved
loop-event-preserved c = λ logs at k.
    knows_next logs c.as_slice-event-items.result.now c.loop-event.event-index c.event-item.result c.args.generation c.args.service c.loop-event.puts.entries c.add_event.new.puts.entries
    c.loop-event-test.true c.event-item.is at c.in_ok-add_event.ensures (c.loop-event.invariant logs at k)
