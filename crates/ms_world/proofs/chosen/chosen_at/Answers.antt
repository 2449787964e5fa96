use Rattle.std.proofs.Common.{◌≡◌, ◌∙◌, length, ap, arith}
use Rattle.std.proofs.lemmas.List.{length_push}
use Rattle.std.proofs.lemmas.Option.{IfSome_then}
use Rattle.ms_world.specs.Rulings.{votes_at}
use Rattle.ms_world.proofs.Choosing.{all_rising, at_none_is, all_taken_push, most_chosen, chosen_most}
use Rattle.ms_world.proofs.chosen.chosen_at.Goals as goal

pub loop-log-preserved : goal.loop-log-preserved
loop-log-preserved c =
    let h = c.loop-log.invariant in
    let items = c.in_ok-push.ensures.items in
    record {
      each = omega (arith, ap length items, length_push c.loop-log.lists.items c.in_ok-taken_in.field-0, h.each);
      taken = all_taken_push c.args.logs.now c.args.position c.loop-log.log-index c.log-item.result c.as_slice.result.now c.loop-log.lists.items _ c.in_ok-taken_in.field-0 c.loop-log-test.true c.log-item.is
          c.as_slice.ensures h.each items c.in_ok-taken_in.ensures h.taken;
    }

pub most-requires : goal.most-requires
most-requires c =
    all_rising (votes_at c.args.logs.now) c.args.position c.loop-log.log-index c.loop-log.lists.items c.as_slice-2.result.now c.loop-log.invariant.each c.as_slice-2.ensures.value c.loop-log.invariant.taken

ends : (c : goal.After-drop-lists-2) → c.loop-log.log-index ≡ length c.args.logs.now
ends c = omega arith

pub returns-clause-some : goal.returns-clause-some
returns-clause-some c =
    let h = c.loop-log.invariant in
    IfSome_then c.most.result c.most.ensures.some
    (λ e w. most_chosen (votes_at c.args.logs.now) c.args.position (length c.args.logs.now) c.loop-log.lists.items c.as_slice-2.result.now w.0 e (h.each ∙ ends c) c.as_slice-2.ensures.value
    (λ s l. h.taken s (omega arith)) w.1 w.2)

pub returns-clause-none : goal.returns-clause-none
returns-clause-none c = λ is e chosen.
    let h = c.loop-log.invariant in
    at_none_is c.most.result is c.most.ensures.none _
    (chosen_most (votes_at c.args.logs.now) c.args.position (length c.args.logs.now) c.loop-log.lists.items c.as_slice-2.result.now e (h.each ∙ ends c) c.as_slice-2.ensures.value
    (λ s l. h.taken s (omega arith)) chosen)
