use Rattle.std.proofs.Common.{ℕ, ◌+◌, List, length, sym, ◌∙◌, subst, ap, arith}
use Rattle.ms_bid.proofs.Flagging.{AreUpTo, all_up, one_down, one_up}
use Rattle.ms_bid.proofs.flags.Flags.services.Goals as goal
use Rattle.ms_bid.proofs.flags.Flags.services.Goals.{then-has, else-has}

pub add-requires-clause-above : goal.add-requires-clause-above
add-requires-clause-above c = λ s h. ((c.loop-number.invariant s).0 h).0

pub loop-number-preserved : goal.loop-number-preserved
loop-number-preserved c =
    elim c.if-has.branch [
      | then-has w ↦ subst (λ (xs : List ℕ). AreUpTo xs c.args.self.now (c.loop-number.number + 1)) (sym (w.services-is ∙ w.add.ensures)) (one_up c.loop-number.services c.args.self.now c.loop-number.number c.loop-number.invariant (sym c.has.ensures.is ∙ w.if-has.true))
      | else-has w ↦ subst (λ (xs : List ℕ). AreUpTo xs c.args.self.now (c.loop-number.number + 1)) (sym w.services-is) (one_down c.loop-number.services c.args.self.now c.loop-number.number c.loop-number.invariant (sym c.has.ensures.is ∙ w.if-has.false))
    ]

pub returns : goal.returns
returns c =
    all_up c.loop-number.services c.args.self.now (omega (arith, ap length c.self.view_is, c.self.invariant)) (subst (λ (n : ℕ). AreUpTo c.loop-number.services c.args.self.now n) (omega (arith, c.loop-number.auto.number-end, c.loop-number-test.false)) c.loop-number.invariant)
