use Rattle.std.proofs.Common.{sym, subst}
use Rattle.ms_core.specs.Views.{IsClosed}
use Rattle.ms_fault.proofs.Lateness.{all_due}
use Rattle.ms_fault.specs.Changes.{event_of}
use Rattle.ms_fault.specs.Faults.{FaultView}
use Rattle.ms_ken.specs.Lists.{MayFollow}
use Rattle.ms_record.specs.declared.item.Item.TheVariants.{Log}
use Rattle.ms_fault.proofs.link.FaultLink.act.Goals as goal

pub send-requires-clause-closed : goal.send-requires-clause-closed
send-requires-clause-closed g c =
    subst (λ (f : FaultView). MayFollow IsClosed f.inner.board.words c.args.pass.now.lists f.inner.service (Log (event_of c.args.change))) (sym c.self.view_is) c.requires.closed

pub invariant_of-self : goal.invariant_of-self
invariant_of-self g c = (all_due (g.L.Link.sees c.self.inside.inner) (g.L.Link.sees c.send.new.link) c.self.inside.late.items c.send.ensures.link c.self.invariant.0, c.self.invariant.1)
