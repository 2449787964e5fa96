use Rattle.std.proofs.Common.{◌≡◌, sym, ◌∙◌, rules, arith}
use Rattle.std.proofs.lemmas.Bool.{OnTrue_at, OnTrue_from}
use Rattle.ms_record.specs.Plans.{plan_of}
use Rattle.ms_record.specs.PlanTests.{is_plan}
use Rattle.ms_record.proofs.PlanRules.{plan_passes}
use Rattle.ms_record.proofs.plan.keeps_rules.Goals as goal

pub returns-then-replicas-rows : goal.returns-then-replicas-rows
unfolding is_plan
returns-then-replicas-rows c =
    let plan = plan_of c.args.generation c.args.format c.args.replicas c.args.unit c.args.rows.now in
    let test : c.are_rows.result ≡ is_plan plan = search rules in
    record { test = test; rules = OnTrue_from _ _ (λ e. plan_passes plan (omega arith) (OnTrue_at e c.are_rows.ensures.fits) (sym test ∙ e)) }
