use Rattle.std.proofs.Common.{arith}
use Rattle.ms_merge.proofs.Steps.{no_row}
use Rattle.ms_merge.proofs.LimitLaws.{added_none, added_more, added_past, added_all}
use Rattle.ms_merge.proofs.limits.check_total.Goals as goal

pub loop-row-init : goal.loop-row-init
loop-row-init c = added_none _

pub overflow_add-total : goal.overflow_add-total
overflow_add-total c = let short = c.requires c.loop-row.row-index no_row c.loop-row-test.true in omega (arith, short, c.loop-row.invariant.within)

pub loop-row-preserved : goal.loop-row-preserved
loop-row-preserved c = added_more c.args.rows.now c.loop-row.row-index c.loop-row.total c.loop-row-test.true c.loop-row.invariant c.if-total-gt-TOTAL_BYTES.false

pub returns-then-total-gt-TOTAL_BYTES : goal.returns-then-total-gt-TOTAL_BYTES
returns-then-total-gt-TOTAL_BYTES c = added_past c.args.rows.now c.loop-row.row-index c.loop-row.total c.loop-row-test.true c.loop-row.invariant c.if-total-gt-TOTAL_BYTES.true

pub returns : goal.returns
returns c = added_all c.args.rows.now c.loop-row.row-index c.loop-row.total c.loop-row.invariant c.loop-row-test.false
