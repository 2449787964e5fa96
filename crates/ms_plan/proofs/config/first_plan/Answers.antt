use Rattle.std.proofs.Common.{◌≡◌, ◌<◌, sym, ap, ◌∙◌, subst, length, take, arith}
use Rattle.std.proofs.lemmas.List.{length-set}
use Rattle.ms_record.specs.Plans.{IsPlan, plan_of}
use Rattle.ms_record.specs.declared.plan.PlanRow.{PlanRow}
use Rattle.std.specs.Prelude.{List}
use Rattle.ms_plan.specs.Configuration.{first_plan}
use Rattle.ms_plan.specs.Drafts.{DraftView}
use Rattle.ms_plan.specs.DraftInside.{seen}
use Rattle.ms_plan.specs.declared.config_line.ServiceLine.{ServiceLine}
use Rattle.ms_plan.proofs.FirstPlan.{first_keeps, front_rows, one_more}
use Rattle.ms_plan.proofs.config.first_plan.Goals as goal

pub loop-i-preserved : goal.loop-i-preserved
loop-i-preserved c =
    let within : c.loop-i.i < length c.draft.inside.services.items = subst (λ (ss : List ServiceLine). c.loop-i.i < length ss) c.deref-service-items.ensures.value c.loop-i-test.true in
    record {
      rows = one_more c.loop-i.rows c.draft.inside.services.items c.loop-i.i c.service-item.result c.loop-i.invariant.count (omega (arith, c.draft.invariant.rules.few_services)) within
          (cc) c.loop-i.invariant.rows;
      count = length-set c.loop-i.rows c.loop-i.i _ ∙ c.loop-i.invariant.count;
    }

pub unreachable-requires : goal.unreachable-requires
unreachable-requires c =
    let sizes : length c.deref-service-items.result.now ≡ length c.draft.inside.services.items = ap length c.deref-service-items.ensures.value in
    let front = front_rows c.loop-i.rows c.draft.inside.services.items c.loop-i.i c.len.result (omega arith) (omega arith) (omega arith) c.loop-i.invariant.rows in
    let some : 0 < length c.draft.inside.clients.items = subst (λ (d : DraftView). 0 < length d.clients) (sym c.draft.view_is) c.requires in
    let plan : IsPlan (plan_of 1 1 c.draft.inside.replicas c.draft.inside.unit (take c.len.result c.loop-i.rows)) =
    subst (λ (rows : List PlanRow). IsPlan (plan_of 1 1 c.draft.inside.replicas c.draft.inside.unit rows)) (sym front) (first_keeps (seen c.draft.inside) c.draft.invariant.rules c.draft.invariant.numbers some) in
    let none = c.in-None.ensures.only plan in cc

pub returns-clause-is : goal.returns-clause-is
returns-clause-is c =
    let sizes : length c.deref-service-items.result.now ≡ length c.draft.inside.services.items = ap length c.deref-service-items.ensures.value in
    let front = front_rows c.loop-i.rows c.draft.inside.services.items c.loop-i.i c.len.result (omega arith) (omega arith) (omega arith) c.loop-i.invariant.rows in
    c.in-Some.ensures.found.0 ∙ ap (λ (rows : List PlanRow). plan_of 1 1 c.draft.inside.replicas c.draft.inside.unit rows) front ∙ ap (λ (d : DraftView). first_plan d) c.draft.view_is
