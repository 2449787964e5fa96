use Rattle.ms_record.specs.Plans.{no_row}
use Rattle.ms_record.proofs.Feeding.{row_joined}
use Rattle.ms_record.proofs.writing.push_rows.Goals as goal

pub loop-row-preserved : goal.loop-row-preserved
loop-row-preserved c =
    row_joined c.args.out.now.items c.args.rows.now c.loop-row.row-index no_row _ _ _ c.loop-row-test.true c.loop-row.invariant c.in_ok-push_u32.ensures.ok c.in_ok-push_u64.ensures.ok
