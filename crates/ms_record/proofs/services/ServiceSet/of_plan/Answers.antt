use Rattle.std.proofs.Common.{ap, length, arith, refl}
use Rattle.std.proofs.lemmas.List.{length-map}
use Rattle.ms_record.specs.Plans.{no_row}
use Rattle.ms_record.proofs.ServicesFilled.{service_in, plan_more, whole_plan}
use Rattle.ms_record.proofs.services.ServiceSet.of_plan.Goals as goal

pub loop-i-init : goal.loop-i-init
loop-i-init c = refl

pub loop-i-preserved : goal.loop-i-preserved
loop-i-preserved c =
    let rows = c.rows-rows in
    plan_more rows.result.now c.loop-i.i no_row c.loop-i.services (omega (arith, rows.ensures.rules.few_rows, ap length rows.ensures.rows)) c.loop-i-test.true c.loop-i.invariant

pub invariant_of-result : goal.invariant_of-result
invariant_of-result c =
    let rows = c.rows-rows in
    (whole_plan c.args.plan.now rows.result.now c.loop-i.i c.loop-i.services rows.ensures.rows rows.ensures.rules c.loop-i-test.false c.loop-i.invariant).kept

pub returns-clause-are : goal.returns-clause-are
returns-clause-are c =
    let rows = c.rows-rows in
    (whole_plan c.args.plan.now rows.result.now c.loop-i.i c.loop-i.services rows.ensures.rows rows.ensures.rules c.loop-i-test.false c.loop-i.invariant).shows

pub returns-clause-some : goal.returns-clause-some
returns-clause-some c =
    let rows = c.rows-rows in
    let set = whole_plan c.args.plan.now rows.result.now c.loop-i.i c.loop-i.services rows.ensures.rows rows.ensures.rules c.loop-i-test.false c.loop-i.invariant in
    omega (arith, ap length set.shows, length-map c.args.plan.now.rows service_in, rows.ensures.rules.some_rows)
