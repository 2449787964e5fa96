use Rattle.std.proofs.Common.{◌≡◌, ◌-◌, length, take}
use Rattle.ms_record.specs.Reading.{rows_at}
use Rattle.ms_record.proofs.RowsFilled.{with_front}
use Rattle.ms_record.proofs.reading.read_rows.Given as goal

abbrev pub invariant-loop-row : goal.invariant-loop-row
invariant-loop-row l =
    with_front (take l.row-index l.rows) (rows_at (length l.rows - l.row-index) l.rest) ≡ rows_at (length l.fn.rows) l.text
