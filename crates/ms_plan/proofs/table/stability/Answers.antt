use Rattle.ms_plan.specs.Mapping.{slot_of}
use Rattle.ms_plan.proofs.Ordering.{order-without}
use Rattle.ms_plan.proofs.Staying.{place_stays, place_stays_of_fewer, places_unmoved}
use Rattle.ms_plan.proofs.table.stability.Goals as goal

pub returns-clause-order : goal.returns-clause-order
returns-clause-order c = λ plan other service name. order-without plan other service (slot_of name)

pub returns-clause-stays : goal.returns-clause-stays
returns-clause-stays c = place_stays

pub returns-clause-fewer : goal.returns-clause-fewer
returns-clause-fewer c = place_stays_of_fewer

pub returns-clause-unmoved : goal.returns-clause-unmoved
returns-clause-unmoved c = places_unmoved
