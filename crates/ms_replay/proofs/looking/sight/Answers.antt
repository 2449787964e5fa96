use Rattle.std.proofs.Common.{take}
use Rattle.ms_record.specs.Reading.{votes_of}
use Rattle.ms_replay.proofs.LookingOn.{look_ends, look_ranges, records_more, text_more}
use Rattle.ms_replay.proofs.looking.sight.Goals as goal

pub loop-text-preserved : goal.loop-text-preserved
loop-text-preserved c = record {
  bid = c.feed_text.ensures.bid c.args.position c.args.ballot c.loop-text.invariant.bid;
  shown = text_more c.args.list.now c.loop-text.text-index c.text-item.result c.as_slice.result.now c.feed_text.new.self c.loop-text-test.true c.text-item.is c.as_slice.ensures
      (c.feed_text.ensures.goes_on (votes_of (take c.loop-text.text-index c.args.list.now)) c.loop-text.invariant.shown);
  ranges = records_more c.args.list.now c.loop-text.text-index c.text-item.result c.as_slice.result.now c.loop-text-test.true c.text-item.is c.as_slice.ensures c.feed_text.ensures.ranges c.loop-text.invariant.ranges;
}

pub returns-clause-is : goal.returns-clause-is
returns-clause-is c = look_ends c.args.list.now c.loop-text.text-index c.args.position c.args.ballot c.loop-text.look c.sight.result c.loop-text-test.false c.loop-text.invariant.bid c.loop-text.invariant.shown c.sight.ensures

pub returns-clause-ranges : goal.returns-clause-ranges
returns-clause-ranges c =
    look_ranges c.args.list.now c.loop-text.text-index c.args.position c.args.ballot c.sight.result c.loop-text-test.false c.loop-text.invariant.ranges
    (look_ends c.args.list.now c.loop-text.text-index c.args.position c.args.ballot c.loop-text.look c.sight.result c.loop-text-test.false c.loop-text.invariant.bid c.loop-text.invariant.shown c.sight.ensures)
