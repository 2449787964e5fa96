use Rattle.std.proofs.Common.{map, take}
use Rattle.ms_core.specs.Placing.{want_of, wanted_of}
use Rattle.ms_world.specs.Reaching.{Meets}
use Rattle.ms_object.specs.declared.object.SizedRow.{SizedRow}
use Rattle.ms_world.proofs.placing.meet_sized_rows.Given as goal

abbrev pub invariant-loop-row : goal.invariant-loop-row
invariant-loop-row l = Meets (map (λ (row : SizedRow). want_of (wanted_of row.kind) row.name) (take l.row-index l.rows)) l.fn.met l.met
