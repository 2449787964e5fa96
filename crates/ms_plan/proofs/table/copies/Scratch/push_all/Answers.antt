use Rattle.ms_plan.proofs.Filling.{row_rules}
use Rattle.ms_plan.proofs.table.copies.Scratch.push_all.Goals as goal

pub push_copies-requires-clause-row : goal.push_copies-requires-clause-row
push_copies-requires-clause-row c =
    row_rules c.args.plan.now c.unit.result c.rows-row-items.result.now c.loop-row.row-index _ c.rows-row-items.ensures.rules c.unit.ensures c.rows-row-items.ensures.rows c.loop-row-test.true
