use Rattle.std.proofs.lemmas.List.{take_rest}
use Rattle.ms_world.proofs.Searching.{absent, another_more, ends_below, ends_past, not_there}
use Rattle.ms_world.proofs.chosen.has_vote.Goals as goal

pub returns-then-is_below : goal.returns-then-is_below
returns-then-is_below c =
    not_there (absent c.args.list.now _ c.first_from.result c.loop-other.other-index c.args.vote.now c.requires (take_rest c.args.list.now c.first_from.result) c.first_from.ensures.before c.loop-other.invariant
    (ends_below _ c.loop-other.other-index c.args.vote.now c.other-item.result c.loop-other-test.true c.other-item.is (c.is_below.ensures.0 c.if-is_below.true)))

pub loop-other-preserved : goal.loop-other-preserved
loop-other-preserved c =
    another_more _ c.loop-other.other-index c.args.vote.now c.other-item.result c.is_same.result c.loop-other-test.true c.other-item.is c.if-is_same.false c.is_same.ensures c.loop-other.invariant

pub returns : goal.returns
returns c =
    not_there (absent c.args.list.now _ c.first_from.result c.loop-other.other-index c.args.vote.now c.requires (take_rest c.args.list.now c.first_from.result) c.first_from.ensures.before c.loop-other.invariant
    (ends_past _ c.loop-other.other-index c.args.vote.now c.loop-other-test.false))
