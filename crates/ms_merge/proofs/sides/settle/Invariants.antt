use Rattle.std.proofs.Common.{map, take}
use Rattle.ms_merge.specs.Settling.{Settles}
use Rattle.ms_merge.proofs.sides.settle.Given as goal

abbrev pub invariant-loop-row : goal.invariant-loop-row
invariant-loop-row l = Settles l.sides.base.now l.sides.ours.now l.sides.theirs.now (map (λ r. (r.path.now, r.text.now)) (take l.row-index l.rows)) l.initial.draft l.draft
