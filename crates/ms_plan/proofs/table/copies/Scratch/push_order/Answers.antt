use Rattle.std.proofs.lemmas.Result.{on_ok_weaker}
use Rattle.ms_plan.proofs.Slots.{order_pushed}
use Rattle.ms_plan.proofs.table.copies.Scratch.push_order.Goals as goal

pub returns : goal.returns
returns c =
    on_ok_weaker c.push_firsts.result
    (order_pushed c.args.plan.now c.args.slot c.clear.new.self.items c.push_all.new.self.copies.items c.sort_unstable.new.self.items c.deref.result.now c.args.orders.now.items c.push_firsts.new.orders.items
    c.clear.ensures.items c.in_ok-push_all.ensures c.sort_unstable.ensures.permutation c.sort_unstable.ensures.sorted c.deref.ensures.value)
    c.push_firsts.ensures
