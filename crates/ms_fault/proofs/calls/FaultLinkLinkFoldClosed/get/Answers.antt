use Rattle.std.proofs.Common.{Err, sym, ap, ◌∙◌}
use Rattle.ms_fault.proofs.Lateness.{all_due}
use Rattle.ms_fault.proofs.Reading.{gets_asked, gets_counted, gets_passed, gets_altered}
use Rattle.ms_fault.specs.Faults.{FaultView}
use Rattle.ms_fault.proofs.calls.FaultLinkLinkFoldClosed.get.Goals as goal

pub invariant_of-self : goal.invariant_of-self
invariant_of-self g c = (all_due (g.L.Link.sees c.self.inside.inner) (g.L.Link.sees c.get.new.self) c.self.inside.late.items c.get.ensures.link c.self.invariant.0, c.self.invariant.1)

pub invariant_of-self-in-Alter : goal.invariant_of-self-in-Alter
invariant_of-self-in-Alter g c = (
  all_due (g.L.Link.sees c.self-in-Alter.inside.inner) (g.L.Link.sees c.get-answer.new.self) c.self-in-Alter.inside.late.items c.get-answer.ensures.link c.self-in-Alter.invariant.0,
  c.self-in-Alter.invariant.1,
)

pub invariant_of-self-in_default : goal.invariant_of-self-in_default
invariant_of-self-in_default g c = (
  all_due (g.L.Link.sees c.self-in_default.inside.inner) (g.L.Link.sees c.get-answer-in_default.new.self) c.self-in_default.inside.late.items c.get-answer-in_default.ensures.link c.self-in_default.invariant.0,
  c.self-in_default.invariant.1,
)

pub returns-in_default-clause-gets : goal.returns-in_default-clause-gets
returns-in_default-clause-gets g c =
    gets_counted c.args.self.now c.meet.new.self c.counted-in_default.new.self c.self-in_default.inside.faults c.get-answer-in_default.new.pass c.args.generation c.args.name.now c.get-answer-in_default.result c.counted-in_default.result
    c.counted-in_default.ensures.count (ap (λ (f : FaultView). f.faults) c.self-in_default.view_is) c.meet.ensures.faults c.counted-in_default.ensures.answer
    (gets_asked c.args.self.now c.meet.new.self c.counted-in_default.new.self (g.L.Link.sees c.self-in_default.inside.inner) (g.L.Link.sees c.get-answer-in_default.new.self) c.get-answer-in_default.new.pass c.args.generation c.args.name.now
    c.get-answer-in_default.result c.counted-in_default.result c.meet.ensures.next.inner (ap (λ (f : FaultView). f.inner) c.self-in_default.view_is) (ap (λ (f : FaultView). f.inner) c.counted-in_default.ensures.same)
    c.counted-in_default.ensures.answer c.get-answer-in_default.ensures.gets)

pub returns-in_default-clause-script : goal.returns-in_default-clause-script
returns-in_default-clause-script g c =
    gets_passed c.meet.result c.args.self.now c.counted-in_default.new.self c.args.pass.now c.get-answer-in_default.new.pass c.args.generation c.args.name.now c.counted-in_default.result c.meet.ensures.fault
    c.in_default.not-Lose c.in_default.not-ActThenFail c.in_default.not-Alter c.in_default.not-Gone
    (gets_asked c.args.self.now c.meet.new.self c.counted-in_default.new.self (g.L.Link.sees c.self-in_default.inside.inner) (g.L.Link.sees c.get-answer-in_default.new.self) c.get-answer-in_default.new.pass c.args.generation c.args.name.now
    c.get-answer-in_default.result c.counted-in_default.result c.meet.ensures.next.inner (ap (λ (f : FaultView). f.inner) c.self-in_default.view_is) (ap (λ (f : FaultView). f.inner) c.counted-in_default.ensures.same)
    c.counted-in_default.ensures.answer c.get-answer-in_default.ensures.gets)

pub returns-in-Err-clause-gets : goal.returns-in-Err-clause-gets
returns-in-Err-clause-gets g c =
    gets_counted c.args.self.now c.meet.new.self c.counted.new.self c.self-in-Alter.inside.faults c.get-answer.new.pass c.args.generation c.args.name.now c.get-answer.result (Err c.in-Err.error)
    c.counted.ensures.count (ap (λ (f : FaultView). f.faults) c.self-in-Alter.view_is) c.meet.ensures.faults (sym c.in-Err.is ∙ c.counted.ensures.answer)
    (gets_asked c.args.self.now c.meet.new.self c.counted.new.self (g.L.Link.sees c.self-in-Alter.inside.inner) (g.L.Link.sees c.get-answer.new.self) c.get-answer.new.pass c.args.generation c.args.name.now
    c.get-answer.result (Err c.in-Err.error) c.meet.ensures.next.inner (ap (λ (f : FaultView). f.inner) c.self-in-Alter.view_is) (ap (λ (f : FaultView). f.inner) c.counted.ensures.same)
    (sym c.in-Err.is ∙ c.counted.ensures.answer) c.get-answer.ensures.gets)

pub returns-in-Err-clause-script : goal.returns-in-Err-clause-script
returns-in-Err-clause-script g c =
    gets_altered c.meet.result c.args.self.now c.counted.new.self c.args.pass.now c.get-answer.new.pass c.args.generation c.args.name.now c.in-Err.error c.in-Alter.is c.meet.ensures.fault
    (gets_asked c.args.self.now c.meet.new.self c.counted.new.self (g.L.Link.sees c.self-in-Alter.inside.inner) (g.L.Link.sees c.get-answer.new.self) c.get-answer.new.pass c.args.generation c.args.name.now
    c.get-answer.result (Err c.in-Err.error) c.meet.ensures.next.inner (ap (λ (f : FaultView). f.inner) c.self-in-Alter.view_is) (ap (λ (f : FaultView). f.inner) c.counted.ensures.same)
    (sym c.in-Err.is ∙ c.counted.ensures.answer) c.get-answer.ensures.gets)
