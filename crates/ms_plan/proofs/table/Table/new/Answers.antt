use Rattle.ms_plan.proofs.Slots.{holds_more}
use Rattle.ms_plan.proofs.table.Table.new.Goals as goal

pub loop-slot-preserved : goal.loop-slot-preserved
loop-slot-preserved c =
    holds_more c.args.plan.now c.loop-slot.slot c.loop-slot.orders.items c.push_order.new.orders.items c.rows.ensures.rules c.loop-slot.invariant c.in_ok-push_order.ensures
