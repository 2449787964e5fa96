use Rattle.std.proofs.Common.{◌≡◌, length, take}
use Rattle.ms_plan.specs.Configuration.{rows_from}
use Rattle.ms_plan.proofs.config.first_plan.Given as goal

abbrev pub invariant-loop-i : goal.invariant-loop-i
invariant-loop-i l = record {
  rows : take l.i l.rows ≡ rows_from 0 (take l.i l.draft-inside.services.items);
  count : length l.rows ≡ 16;
}
