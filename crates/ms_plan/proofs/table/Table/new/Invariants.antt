use Rattle.ms_plan.specs.TableInside.{HoldsOrders}
use Rattle.ms_plan.proofs.table.Table.new.Given as goal

abbrev pub invariant-loop-slot : goal.invariant-loop-slot
invariant-loop-slot l = HoldsOrders l.plan l.slot l.orders.items
