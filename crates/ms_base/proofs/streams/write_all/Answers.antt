use Rattle.std.proofs.Common.{take-add, length-drop, arith, ◌∙◌}
use Rattle.std.proofs.lemmas.List.{take_rest}
use Rattle.ms_base.proofs.Known.{appends_on}
use Rattle.ms_base.proofs.streams.write_all.Goals as goal

pub loop-at-preserved : goal.loop-at-preserved
loop-at-preserved g c = record {
  within = omega (arith, length-drop c.loop-at.at c.args.text.now, c.in_ok-count.ensures.count);
  went = rw (take-add c.loop-at.at c.in_ok-count.count c.args.text.now) (appends_on _ _ _ _ _ c.loop-at.invariant.went (rw (take_rest c.args.text.now c.loop-at.at) at c.in_ok-count.ensures.bytes));
  told = λ h. c.write.ensures.told (c.loop-at.invariant.told h);
  steady = c.in_ok-count.ensures.steady ∙ c.loop-at.invariant.steady;
}
