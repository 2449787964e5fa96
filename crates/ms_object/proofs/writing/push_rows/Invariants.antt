use Rattle.std.proofs.Common.{◌≡◌, ◌++◌, length, take}
use Rattle.std.specs.Prelude.{All, flat_map}
use Rattle.ms_object.specs.declared.object.Row.{Row}
use Rattle.ms_object.specs.Objects.{row_text}
use Rattle.ms_object.proofs.writing.push_rows.Given as goal

abbrev pub invariant-loop-row : goal.invariant-loop-row
invariant-loop-row l = record {
  text : l.out.items ≡ l.fn.out.items ++ flat_map row_text (take l.row-index l.rows);
  names : All (λ (row : Row). length row.name.0 ≡ 32) (take l.row-index l.rows);
}
