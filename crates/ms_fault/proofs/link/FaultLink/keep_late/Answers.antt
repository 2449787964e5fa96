use Rattle.std.proofs.Common.{◌≤◌, sym, ap, ◌∙◌, subst}
use Rattle.ms_base.specs.declared.limits.TheConstants.{OBJECT_BYTES}
use Rattle.ms_core.specs.Views.{IsClosed}
use Rattle.ms_fault.proofs.Lateness.{kept_due, more_due}
use Rattle.ms_fault.specs.Changes.{event_of, size_of}
use Rattle.ms_fault.specs.Faults.{FaultView}
use Rattle.ms_ken.specs.Lists.{MayFollow}
use Rattle.ms_record.specs.declared.item.Item.TheVariants.{Log}
use Rattle.ms_record.specs.declared.log.LogEvent.{LogEvent}
use Rattle.ms_fault.proofs.link.FaultLink.keep_late.Goals as goal

pub invariant_of-self-2 : goal.invariant_of-self-2
invariant_of-self-2 g c =
    let link = g.L.Link.sees c.self.inside.inner in
    let asked = subst (λ (f : FaultView). MayFollow IsClosed f.inner.board.words c.args.pass.now.lists f.inner.service (Log (event_of c.args.change))) (sym c.self.view_is) c.requires.closed in
    let follows = subst (λ (event : LogEvent). MayFollow IsClosed link.board.words c.args.pass.now.lists link.service (Log event)) (sym c.in_ok-event.ensures) asked in
    let short = subst (λ (event : LogEvent). size_of event ≤ OBJECT_BYTES) (sym c.in_ok-event.ensures) c.requires.short in
    let board = c.requires.board.pass ∙ ap (λ (f : FaultView). f.inner.board) (sym c.self.view_is) in (
      more_due link c.self.inside.late.items c.push.new.self.items _ c.in_ok-push.ensures.items c.self.invariant.0
          (kept_due link c.args.pass.now c.note.result c.in_ok-event.event _ c.note.ensures.note board short follows),
      c.self.invariant.1,
    )
