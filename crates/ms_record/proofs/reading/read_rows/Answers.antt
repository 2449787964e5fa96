use Rattle.std.proofs.Common.{sym, arith}
use Rattle.ms_record.proofs.RowsFilled.{ends, filled_on, filled_out}
use Rattle.ms_record.proofs.reading.read_rows.Goals as goal

pub loop-row-preserved : goal.loop-row-preserved
loop-row-preserved c = filled_on c.loop-row.rows c.loop-row.row-index c.loop-row.rest.now c.in-Some.after.now c.in-Some.read _ (omega arith) (sym c.in-Some.ensures) c.loop-row.invariant

pub returns-in_default : goal.returns-in_default
returns-in_default c = sym (ends _ _ c.loop-row.row-index c.loop-row.rest.now _ (omega arith) (sym c.in_default.ensures) c.loop-row.invariant)

pub returns : goal.returns
returns c = filled_out c.loop-row.rows c.loop-row.row-index c.loop-row.rest.now _ (omega arith) c.loop-row.invariant
