use Rattle.std.proofs.Common.{◌≡◌, length, map, take}
use Rattle.std.specs.List.{range_with_len}
use Rattle.ms_record.specs.Settings.{even_row}
use Rattle.ms_record.proofs.plan.Plan.even.Given as goal

abbrev pub invariant-loop-i : goal.invariant-loop-i
invariant-loop-i l = record {
  rows : take l.i l.rows ≡ map even_row (range_with_len 0 l.i);
  count : length l.rows ≡ 16;
}
