use Rattle.std.proofs.Common.{List, ap, sym, ◌∙◌, subst, take}
use Rattle.std.proofs.lemmas.List.{length-set}
use Rattle.ms_record.specs.declared.plan.PlanRow.{PlanRow}
use Rattle.ms_record.specs.Plans.{PlanView, IsPlan, plan_of}
use Rattle.ms_record.specs.Settings.{IsFirstPlan}
use Rattle.ms_record.proofs.EvenPlan.{even_keeps, even_more, even_front, even_first}
use Rattle.ms_record.proofs.plan.Plan.even.Goals as goal

pub loop-i-preserved : goal.loop-i-preserved
loop-i-preserved c = record {
  rows = even_more c.loop-i.rows c.loop-i.i c.loop-i.invariant.count c.loop-i-test.true c.loop-i.invariant.rows;
  count = length-set c.loop-i.rows c.loop-i.i _ ∙ c.loop-i.invariant.count;
}

pub unreachable-requires : goal.unreachable-requires
unreachable-requires c =
    let front = even_front c.loop-i.rows c.loop-i.i c.args.services c.loop-i.invariant.count c.loop-i-test.false c.loop-i.auto.i-end c.requires.few_services c.loop-i.invariant.rows in
    let plan : IsPlan (plan_of 1 1 c.args.replicas 1 (take c.args.services c.loop-i.rows)) =
    subst (λ (rows : List PlanRow). IsPlan (plan_of 1 1 c.args.replicas 1 rows)) (sym front)
    (even_keeps c.args.services c.args.replicas c.requires.some_services c.requires.few_services c.requires.some_replicas c.requires.few_replicas) in
    let none = c.in-None.ensures.only plan in cc

pub returns-clause-is : goal.returns-clause-is
returns-clause-is c =
    let front = even_front c.loop-i.rows c.loop-i.i c.args.services c.loop-i.invariant.count c.loop-i-test.false c.loop-i.auto.i-end c.requires.few_services c.loop-i.invariant.rows in
    c.in-Some.ensures.found.0 ∙ ap (λ (rows : List PlanRow). plan_of 1 1 c.args.replicas 1 rows) front

pub returns-clause-first : goal.returns-clause-first
returns-clause-first c =
    let front = even_front c.loop-i.rows c.loop-i.i c.args.services c.loop-i.invariant.count c.loop-i-test.false c.loop-i.auto.i-end c.requires.few_services c.loop-i.invariant.rows in
    subst (λ (p : PlanView). IsFirstPlan c.args.services p) (sym (c.in-Some.ensures.found.0 ∙ ap (λ (rows : List PlanRow). plan_of 1 1 c.args.replicas 1 rows) front))
    (even_first c.args.services c.args.replicas)
