use Rattle.std.proofs.Common.{arith}
use Rattle.ms_fault.proofs.Lateness.{all_due}
use Rattle.ms_fault.proofs.link.FaultLink.meet.Goals as goal

pub invariant_of-self : goal.invariant_of-self
invariant_of-self g c = (
  all_due (g.L.Link.sees c.self.inside.inner) (g.L.Link.sees c.catch_up.new.link) c.catch_up.new.late.items c.catch_up.ensures.link c.catch_up.ensures.due,
  omega (arith, c.if-self-len.true),
)

pub invariant_of-self-else-self-len : goal.invariant_of-self-else-self-len
invariant_of-self-else-self-len g c = (
  all_due (g.L.Link.sees c.self.inside.inner) (g.L.Link.sees c.catch_up.new.link) c.catch_up.new.late.items c.catch_up.ensures.link c.catch_up.ensures.due,
  c.self.invariant.1,
)
