use Rattle.std.proofs.Common.{◌<◌, ◌≤◌, List, length, sym, ◌∙◌, subst, rules, arith}
use Rattle.std.proofs.lemmas.Fn.{filter_same}
use Rattle.std.specs.Prelude.{nat_lt}
use Rattle.ms_link.specs.Composing.{stays_on}
use Rattle.ms_fault.proofs.Lateness.{due_stays, waits_as, all_wait, waiting_due, set_else, those_kept}
use Rattle.ms_fault.specs.declared.late.LateChange.{LateChange}
use Rattle.ms_fault.specs.Late.{IsDue}
use Rattle.ms_fault.proofs.late.catch_up.Goals as goal

pub do_due-requires-clause-due : goal.do_due-requires-clause-due
do_due-requires-clause-due g c =
    let link = g.L.Link.sees c.args.link.now in
    let place = c.loop-change.change-index in
    let here : place ≤ place = omega arith in
    let within = subst (λ (l : List LateChange). place < length l) c.deref_mut-change-items.ensures.value c.loop-change-test.true in
    due_stays link (g.L.Link.sees c.loop-change.link) _ c.loop-change.invariant.2
    (subst (IsDue link) (sym (c.loop-change.invariant.0 place c.change-item.result here)) (c.requires.due place c.change-item.result within))

pub loop-change-preserved : goal.loop-change-preserved
loop-change-preserved g c =
    let link = g.L.Link.sees c.args.link.now in
    let first = c.args.late.now.items in
    let items = c.loop-change.change-items in
    let place = c.loop-change.change-index in
    let d = c.change-item.result in
    let here : place ≤ place = omega arith in
    let within = subst (λ (l : List LateChange). place < length l) c.deref_mut-change-items.ensures.value c.loop-change-test.true in
    let inside : place < length items = subst (λ n. place < n) (sym c.loop-change.auto.change-items) c.loop-change-test.true in (
      λ k other le. let behind : place < k = omega arith in let from : place ≤ k = omega arith in set_else items place k other c.do_due.new.change behind ∙ c.loop-change.invariant.0 k other from,
      waits_as c.args.call items place d c.do_due.new.change inside c.do_due.ensures.before c.do_due.ensures.waits ∙ c.loop-change.invariant.1,
      stays_on link (g.L.Link.sees c.loop-change.link) (g.L.Link.sees c.do_due.new.link) c.loop-change.invariant.2 c.do_due.ensures.link,
      λ all.
          c.do_due.ensures.idle (subst (λ (change : LateChange). c.args.call < change.before) (sym (c.loop-change.invariant.0 place d here)) (all_wait c.args.call first place d within all))
          ∙ c.loop-change.invariant.3 all,
    )

pub returns-clause-due : goal.returns-clause-due
returns-clause-due g c =
    let kept = filter_same _ (λ (x : LateChange). nat_lt c.args.call x.before) _ (λ x b f' k. search rules) _ _ c.retain.ensures.filtered in
    let length_is = sym (c.loop-change.auto.change-items ∙ c.deref_mut-change-items.ensures.len) in
    waiting_due (g.L.Link.sees c.args.link.now) c.args.call c.args.late.now.items _ (those_kept _ c.args.call c.loop-change.change-items c.args.late.now.items _ _ kept length_is c.loop-change.invariant.1) c.requires.due

pub returns-clause-waiting : goal.returns-clause-waiting
returns-clause-waiting g c =
    let kept = filter_same _ (λ (x : LateChange). nat_lt c.args.call x.before) _ (λ x b f' k. search rules) _ _ c.retain.ensures.filtered in
    let length_is = sym (c.loop-change.auto.change-items ∙ c.deref_mut-change-items.ensures.len) in
    those_kept _ c.args.call c.loop-change.change-items c.args.late.now.items _ _ kept length_is c.loop-change.invariant.1
