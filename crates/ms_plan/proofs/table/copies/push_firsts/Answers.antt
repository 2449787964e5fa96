use Rattle.std.proofs.Common.{rules, ap, ◌∙◌}
use Rattle.ms_plan.proofs.Filling.{firsts_more, when_found, when_new}
use Rattle.ms_plan.proofs.table.copies.push_firsts.Goals as goal
use Rattle.ms_plan.proofs.table.copies.push_firsts.Goals.{then-not-contains+in_ok-push, else-not-contains}

pub loop-copy-preserved : goal.loop-copy-preserved
loop-copy-preserved c =
    let step = firsts_more c.args.copies.now c.loop-copy.copy-index _ c.args.orders.now.items c.loop-copy.orders.items c.deref.result.now c.len-start.result c.contains.result
    c.loop-copy-test.true (search (rules, c.len-start.ensures)) c.loop-copy.invariant c.deref.ensures.value c.contains.ensures.value in
    elim c.if-not-contains.branch [
      | then-not-contains+in_ok-push w ↦ ap (λ v. v.items) w.orders-is ∙ w.in_ok-push.ensures.items ∙ when_new _ _ _ _ w.if-not-contains.true step
      | else-not-contains w ↦ ap (λ v. v.items) w.orders-is ∙ when_found _ _ _ _ w.if-not-contains.false step
    ]
