use Rattle.ms_plan.specs.Mapping.{copies_in, compare_at}
use Rattle.ms_plan.proofs.Sorting.{sorted_permutes, rises_sorted, sorted_from_rises}
use Rattle.ms_plan.proofs.Ordering.{compare_at_total, order_of_sorted}
use Rattle.ms_plan.specs.Mapping.{slot_of}
use Rattle.ms_plan.proofs.Services.{services_permute}
use Rattle.ms_plan.proofs.table.orders_are_sorted.Goals as goal

pub returns-clause-same : goal.returns-clause-same
returns-clause-same c = λ plan slot. sorted_permutes (compare_at slot) (copies_in plan)

pub returns-clause-rises : goal.returns-clause-rises
returns-clause-rises c = λ plan slot. sorted_from_rises (compare_at_total slot) _ (rises_sorted (compare_at_total slot) (copies_in plan))

pub returns-clause-only : goal.returns-clause-only
returns-clause-only c = λ plan slot copies. order_of_sorted plan slot copies

pub returns-clause-all : goal.returns-clause-all
returns-clause-all c = λ plan name h. services_permute plan (slot_of name) h
