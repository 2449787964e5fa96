use Rattle.ms_merge.proofs.Steps.{settles_none, settles_more, settles_all, shown_more, shown}
use Rattle.ms_merge.proofs.sides.settle.Goals as goal

pub loop-row-init : goal.loop-row-init
loop-row-init c = settles_none _ _ _ _

pub loop-row-preserved : goal.loop-row-preserved
loop-row-preserved c = settles_more _ _ _ _ _ _ _ _ _ c.loop-row.invariant (shown_more shown c.args.rows.now c.loop-row.row-index _ c.loop-row-test.true) c.in_ok-settle_path.ensures

pub returns : goal.returns
returns c = settles_all _ _ _ _ _ c.args.rows.now c.loop-row.row-index c.loop-row.invariant c.loop-row-test.false
