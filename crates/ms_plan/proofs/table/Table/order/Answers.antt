use Rattle.std.proofs.Common.{◌<◌, ap, sym, length, arith, subst}
use Rattle.ms_plan.specs.TableInside.{HoldsOrders}
use Rattle.ms_plan.proofs.Slots.{found_permutes}
use Rattle.ms_plan.proofs.table.Table.order.Goals as goal

pub returns-clause-all : goal.returns-clause-all
returns-clause-all c =
    let below : c.slot.result < 1024 = omega (arith, c.slot.ensures) in
    let found = found_permutes c.self.inside.plan 1024 c.slot.result (length c.rows-services.result.now) c.deref.result.now c.self.invariant.rules
    (subst (HoldsOrders c.self.inside.plan 1024) (sym c.deref.ensures.value) c.self.invariant.orders) below (ap length c.rows-services.ensures.rows) in
    rw (sym c.self.view_is) found
