use Rattle.ms_world.proofs.Counting.{look_ends, look_on}
use Rattle.ms_world.proofs.shown.shown.Goals as goal

pub loop-event-preserved : goal.loop-event-preserved
loop-event-preserved c = record {
  bid = c.feed_event.ensures.bid c.args.position c.args.ballot c.loop-event.invariant.bid;
  shown = look_on c.args.log.now c.loop-event.event-index c.event-item.result c.loop-event.look c.feed_event.new.look c.loop-event-test.true c.event-item.is c.feed_event.ensures.goes_on c.loop-event.invariant.shown;
}

pub returns : goal.returns
returns c = look_ends c.args.log.now c.loop-event.event-index c.args.position c.args.ballot c.loop-event.look c.sight.result c.loop-event-test.false c.loop-event.invariant.bid c.loop-event.invariant.shown c.sight.ensures
