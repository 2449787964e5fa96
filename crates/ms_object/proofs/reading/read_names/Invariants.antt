use Rattle.std.proofs.Common.{◌≡◌, ◌-◌}
use Rattle.ms_base.specs.Fields.{name_at, many_at}
use Rattle.ms_object.specs.Reading.{names_at}
use Rattle.ms_object.proofs.Many.{with_front}
use Rattle.ms_object.proofs.reading.read_names.Given as goal

abbrev pub invariant-loop : goal.invariant-loop
invariant-loop l = with_front l.names (many_at name_at (l.count - l.counter) l.rest) ≡ names_at l.count l.text
