use Rattle.std.proofs.Common.{Result, sym, ap, subst}
use Rattle.ms_core.specs.Views.{IsClosed}
use Rattle.ms_fault.proofs.Lateness.{all_due}
use Rattle.ms_fault.specs.Changes.{Changes, event_of}
use Rattle.ms_fault.specs.Faults.{FaultView}
use Rattle.ms_ken.specs.Lists.{MayFollow}
use Rattle.ms_link.specs.Links.{LinkView}
use Rattle.ms_link.specs.declared.fault.LinkError.{LinkError}
use Rattle.ms_record.specs.declared.item.Item.TheVariants.{Log}
use Rattle.ms_fault.proofs.link.FaultLink.pass_on.Goals as goal

pub send-answer-requires-clause-closed : goal.send-answer-requires-clause-closed
send-answer-requires-clause-closed g c =
    subst (λ (f : FaultView). MayFollow IsClosed f.inner.board.words c.args.pass.now.lists f.inner.service (Log (event_of c.args.change))) (sym c.self.view_is) c.requires.closed

pub invariant_of-self : goal.invariant_of-self
invariant_of-self g c = (all_due (g.L.Link.sees c.self.inside.inner) (g.L.Link.sees c.send-answer.new.link) c.self.inside.late.items c.send-answer.ensures.link c.self.invariant.0, c.self.invariant.1)

pub returns-clause-changes : goal.returns-clause-changes
returns-clause-changes g c =
    let before = ap (λ (f : FaultView). f.inner) (sym c.self.view_is) in
    let after = ap (λ (f : FaultView). f.inner) c.counted.ensures.same in
    subst (λ (r : Result Unit LinkError). Changes c.args.self.now.inner c.counted.new.self.inner c.args.pass.now c.send-answer.new.pass (event_of c.args.change) r) (sym c.counted.ensures.answer)
    (subst (λ (l : LinkView). Changes l c.counted.new.self.inner c.args.pass.now c.send-answer.new.pass (event_of c.args.change) c.send-answer.result) (sym before)
    (subst (λ (l : LinkView). Changes (g.L.Link.sees c.self.inside.inner) l c.args.pass.now c.send-answer.new.pass (event_of c.args.change) c.send-answer.result) (sym after) c.send-answer.ensures.changes))
