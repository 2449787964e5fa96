use Rattle.std.proofs.Common.{◌≡◌, ◌++◌, map, take}
use Rattle.ms_plan.specs.Mapping.{firsts}
use Rattle.ms_plan.proofs.table.copies.push_firsts.Given as goal

abbrev pub invariant-loop-copy : goal.invariant-loop-copy
invariant-loop-copy l = l.orders.items ≡ l.initial.orders.items ++ firsts (map (λ c. c.service) (take l.copy-index l.copies))
