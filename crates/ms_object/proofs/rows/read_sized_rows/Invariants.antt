use Rattle.std.proofs.Common.{◌≡◌, ◌-◌, []}
use Rattle.ms_base.specs.Fields.{many_at}
use Rattle.ms_object.specs.Reading.{sized_row_at}
use Rattle.ms_object.proofs.Many.{with_front}
use Rattle.ms_object.proofs.rows.read_sized_rows.Given as goal

abbrev pub invariant-loop : goal.invariant-loop
invariant-loop l = with_front l.rows (many_at sized_row_at (l.count - l.counter) (l.before, l.rest)) ≡ many_at sized_row_at l.count ([], l.text)
