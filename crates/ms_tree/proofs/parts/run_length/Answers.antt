use Rattle.std.proofs.Common.{bytes_eq, true, false, ◌≡◌, arith}
use Rattle.ms_tree.proofs.Shown.{run_on, run_stops}
use Rattle.ms_tree.proofs.parts.run_length.Goals as goal

pub returns-then-ne : goal.returns-then-ne
returns-then-ne c =
    let other : bytes_eq c.part_at.result.now c.args.label.now ≡ false = grind arith in
    run_stops c.args.label.now c.part_at.result.now c.args.skip c.args.files.now c.loop-count.count _ _ c.loop-count-test.true c.part_at.ensures other c.loop-count.invariant

pub loop-count-preserved : goal.loop-count-preserved
loop-count-preserved c =
    let same : bytes_eq c.part_at.result.now c.args.label.now ≡ true = grind arith in
    run_on c.args.label.now c.part_at.result.now c.args.skip c.args.files.now c.loop-count.count _ _ c.loop-count-test.true c.part_at.ensures same c.loop-count.invariant
