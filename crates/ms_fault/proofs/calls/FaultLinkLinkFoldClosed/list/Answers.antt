use Rattle.ms_fault.proofs.Lateness.{all_due}
use Rattle.ms_fault.proofs.calls.FaultLinkLinkFoldClosed.list.Goals as goal

pub invariant_of-self : goal.invariant_of-self
invariant_of-self g c = (all_due (g.L.Link.sees c.self.inside.inner) (g.L.Link.sees c.list.new.self) c.self.inside.late.items c.list.ensures.link c.self.invariant.0, c.self.invariant.1)

pub invariant_of-self-in_default : goal.invariant_of-self-in_default
invariant_of-self-in_default g c = (
  all_due (g.L.Link.sees c.self-in_default.inside.inner) (g.L.Link.sees c.list-answer.new.self) c.self-in_default.inside.late.items c.list-answer.ensures.link c.self-in_default.invariant.0,
  c.self-in_default.invariant.1,
)
