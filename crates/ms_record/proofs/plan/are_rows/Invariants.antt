use Rattle.std.proofs.Common.{◌≡◌, ◌≤◌, drop}
use Rattle.ms_record.specs.PlanTests.{are_rows}
use Rattle.ms_record.proofs.RowsRead.{FitBelow}
use Rattle.ms_record.proofs.plan.are_rows.Given as goal

abbrev pub invariant-loop-row : goal.invariant-loop-row
invariant-loop-row l = record {
  low : l.low ≤ 16;
  test : are_rows l.unit l.low (drop l.row-index l.rows) ≡ are_rows l.unit 0 l.rows;
  fits : FitBelow l.row-index l.rows;
}
