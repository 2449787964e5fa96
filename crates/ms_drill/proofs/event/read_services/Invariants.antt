use Rattle.std.proofs.Common.{◌≡◌, [], map, drop}
use Rattle.ms_drill.specs.Lines.{rows_on}
use Rattle.ms_drill.proofs.event.read_services.Given as goal

abbrev pub invariant-loop-i : goal.invariant-loop-i
invariant-loop-i l = rows_on l.rows.items (map (λ w. w.now) (drop l.i l.words)) ≡ rows_on [] (map (λ w. w.now) l.words)
