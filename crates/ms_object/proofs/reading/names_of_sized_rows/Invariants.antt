use Rattle.std.proofs.Common.{◌≡◌, take}
use Rattle.ms_object.specs.Objects.{sized_names_of}
use Rattle.ms_object.proofs.reading.names_of_sized_rows.Given as goal

abbrev pub invariant-loop-row : goal.invariant-loop-row
invariant-loop-row l = l.names ≡ sized_names_of (take l.row-index l.rows)
