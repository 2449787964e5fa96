use Rattle.std.proofs.Common.{ap}
use Rattle.ms_fault.proofs.Lateness.{all_due}
use Rattle.ms_fault.proofs.Reading.{has_asked, has_counted, has_passed}
use Rattle.ms_fault.specs.Faults.{FaultView}
use Rattle.ms_fault.proofs.calls.FaultLinkLinkFoldClosed.has.Goals as goal

pub invariant_of-self : goal.invariant_of-self
invariant_of-self g c = (all_due (g.L.Link.sees c.self.inside.inner) (g.L.Link.sees c.has.new.self) c.self.inside.late.items c.has.ensures.link c.self.invariant.0, c.self.invariant.1)

pub invariant_of-self-in_default : goal.invariant_of-self-in_default
invariant_of-self-in_default g c = (
  all_due (g.L.Link.sees c.self-in_default.inside.inner) (g.L.Link.sees c.has-answer.new.self) c.self-in_default.inside.late.items c.has-answer.ensures.link c.self-in_default.invariant.0,
  c.self-in_default.invariant.1,
)

pub returns-in_default-clause-has : goal.returns-in_default-clause-has
returns-in_default-clause-has g c =
    has_counted c.args.self.now c.meet.new.self c.counted.new.self c.self-in_default.inside.faults c.has-answer.new.pass c.args.generation c.args.name.now c.has-answer.result c.counted.result
    c.counted.ensures.count (ap (λ (f : FaultView). f.faults) c.self-in_default.view_is) c.meet.ensures.faults c.counted.ensures.answer
    (has_asked c.args.self.now c.meet.new.self c.counted.new.self (g.L.Link.sees c.self-in_default.inside.inner) (g.L.Link.sees c.has-answer.new.self) c.has-answer.new.pass c.args.generation c.args.name.now
    c.has-answer.result c.counted.result c.meet.ensures.next.inner (ap (λ (f : FaultView). f.inner) c.self-in_default.view_is) (ap (λ (f : FaultView). f.inner) c.counted.ensures.same)
    c.counted.ensures.answer c.has-answer.ensures.has)

pub returns-in_default-clause-script : goal.returns-in_default-clause-script
returns-in_default-clause-script g c =
    has_passed c.meet.result c.args.self.now c.counted.new.self c.args.pass.now c.has-answer.new.pass c.args.generation c.args.name.now c.counted.result c.meet.ensures.fault
    c.in_default.not-Lose c.in_default.not-ActThenFail c.in_default.not-Gone
    (has_asked c.args.self.now c.meet.new.self c.counted.new.self (g.L.Link.sees c.self-in_default.inside.inner) (g.L.Link.sees c.has-answer.new.self) c.has-answer.new.pass c.args.generation c.args.name.now
    c.has-answer.result c.counted.result c.meet.ensures.next.inner (ap (λ (f : FaultView). f.inner) c.self-in_default.view_is) (ap (λ (f : FaultView). f.inner) c.counted.ensures.same)
    c.counted.ensures.answer c.has-answer.ensures.has)
