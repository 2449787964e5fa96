use Rattle.std.proofs.Common.{◌≡◌, ◌+◌, ◌*◌, take, drop}
use Rattle.std.specs.Prelude.{flat_map}
use Rattle.ms_object.specs.Stores.{text_of}
use Rattle.ms_tree.specs.Gathering.{row_met, Gathers, AreFree}
use Rattle.ms_tree.proofs.gathering.+gather_rows.Given as goal

abbrev pub decreases-gather_rows : goal.decreases-gather_rows
decreases-gather_rows l = 3 * l.left + 2

abbrev pub decreases-gather_row : goal.decreases-gather_row
decreases-gather_row l = 3 * l.left

abbrev pub decreases-gather_judged : goal.decreases-gather_judged
decreases-gather_judged l = 3 * l.left + 1

abbrev pub invariant-gather_rows-loop-row : goal.invariant-gather_rows-loop-row
invariant-gather_rows-loop-row l = record {
  gathered : Gathers l.initial.files l.files (flat_map (row_met l.format l.left (text_of l.store) l.initial.path.items) (take l.row-index l.rows));
  free : AreFree l.files l.initial.path.items (drop l.row-index l.rows);
  path : l.path.items ≡ l.initial.path.items;
}
