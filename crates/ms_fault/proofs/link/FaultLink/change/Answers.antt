use Rattle.std.proofs.Common.{sym, ◌∙◌, subst}
use Rattle.ms_fault.proofs.Passing.{changes_before, changes_later, passed}
use Rattle.ms_fault.specs.Changes.{event_of}
use Rattle.ms_fault.specs.declared.fault.Fault.{Fault}
use Rattle.ms_fault.specs.Faults.{ChangesBy}
use Rattle.ms_core.specs.Views.{IsClosed}
use Rattle.ms_ken.specs.Rows.{begins_self}
use Rattle.ms_link.specs.Composing.{follows_on, learns_on, stays_on}
use Rattle.ms_fault.proofs.link.FaultLink.change.Goals as goal

pub act-requires-clause-closed : goal.act-requires-clause-closed
act-requires-clause-closed g c = follows_on IsClosed c.args.self.now.inner c.meet.new.self.inner c.args.pass.now c.args.pass.now (event_of c.args.change) c.meet.ensures.next.inner (begins_self c.args.pass.now.lists) c.requires.closed

pub delay-requires-clause-closed : goal.delay-requires-clause-closed
delay-requires-clause-closed g c = follows_on IsClosed c.args.self.now.inner c.meet.new.self.inner c.args.pass.now c.args.pass.now (event_of c.args.change) c.meet.ensures.next.inner (begins_self c.args.pass.now.lists) c.requires.closed

pub pass_on-requires-in-Pass-clause-closed : goal.pass_on-requires-in-Pass-clause-closed
pass_on-requires-in-Pass-clause-closed g c = follows_on IsClosed c.args.self.now.inner c.meet.new.self.inner c.args.pass.now c.args.pass.now (event_of c.args.change) c.meet.ensures.next.inner (begins_self c.args.pass.now.lists) c.requires.closed

pub act-requires-in-Repeat-clause-closed : goal.act-requires-in-Repeat-clause-closed
act-requires-in-Repeat-clause-closed g c = follows_on IsClosed c.args.self.now.inner c.meet.new.self.inner c.args.pass.now c.args.pass.now (event_of c.args.change) c.meet.ensures.next.inner (begins_self c.args.pass.now.lists) c.requires.closed

pub pass_on-requires-clause-closed : goal.pass_on-requires-clause-closed
pass_on-requires-clause-closed g c =
    follows_on IsClosed c.meet.new.self.inner c.act-in-Repeat.new.self.inner c.args.pass.now c.act-in-Repeat.new.pass (event_of c.args.change) c.act-in-Repeat.ensures.acted.inner c.act-in-Repeat.ensures.pass.more
    (follows_on IsClosed c.args.self.now.inner c.meet.new.self.inner c.args.pass.now c.args.pass.now (event_of c.args.change) c.meet.ensures.next.inner (begins_self c.args.pass.now.lists) c.requires.closed)

pub returns-in-Repeat-clause-script : goal.returns-in-Repeat-clause-script
returns-in-Repeat-clause-script g c =
    subst (λ (fault : Fault). ChangesBy fault c.args.self.now c.pass_on.new.self c.args.pass.now c.pass_on.new.pass (event_of c.args.change) c.pass_on.result) (sym c.in-Repeat.is ∙ c.meet.ensures.fault)
    (changes_before c.args.self.now.inner c.act-in-Repeat.new.self.inner c.pass_on.new.self.inner c.args.pass.now c.act-in-Repeat.new.pass c.pass_on.new.pass (event_of c.args.change) c.pass_on.result
    (stays_on c.args.self.now.inner c.meet.new.self.inner c.act-in-Repeat.new.self.inner c.meet.ensures.next.inner c.act-in-Repeat.ensures.acted.inner)
    c.act-in-Repeat.ensures.pass c.pass_on.ensures.changes)

pub returns-in-Repeat-clause-pass : goal.returns-in-Repeat-clause-pass
returns-in-Repeat-clause-pass g c = learns_on c.args.pass.now c.act-in-Repeat.new.pass c.pass_on.new.pass c.act-in-Repeat.ensures.pass c.pass_on.ensures.pass

pub returns-in-Pass-clause-script : goal.returns-in-Pass-clause-script
returns-in-Pass-clause-script g c =
    passed c.meet.result c.args.self.now c.pass_on-in-Pass.new.self c.args.pass.now c.pass_on-in-Pass.new.pass (event_of c.args.change) c.pass_on-in-Pass.result c.meet.ensures.fault c.in-Pass.is
    (changes_later c.args.self.now.inner c.meet.new.self.inner c.pass_on-in-Pass.new.self.inner c.args.pass.now c.pass_on-in-Pass.new.pass (event_of c.args.change) c.pass_on-in-Pass.result c.meet.ensures.next.inner c.pass_on-in-Pass.ensures.changes)
