use Rattle.std.proofs.Common.{◌≡◌, ◌++◌, ◌<◌, ◌^◌, length, take}
use Rattle.std.specs.Prelude.{All, flat_map}
use Rattle.ms_object.specs.declared.object.SizedRow.{SizedRow}
use Rattle.ms_object.specs.Objects.{sized_row_text}
use Rattle.ms_object.proofs.writing.push_sized_rows.Given as goal

abbrev pub invariant-loop-row : goal.invariant-loop-row
invariant-loop-row l = record {
  text : l.out.items ≡ l.fn.out.items ++ flat_map sized_row_text (take l.row-index l.rows);
  names : All (λ (row : SizedRow). length row.name.0 ≡ 32) (take l.row-index l.rows);
  sizes : All (λ (row : SizedRow). row.size < 2 ^ 64) (take l.row-index l.rows);
}
