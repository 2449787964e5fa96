use Rattle.ms_record.proofs.PlanRules.{plan_if_given, plan_if_keeps}
use Rattle.ms_record.proofs.plan.rules_are_tested.Goals as goal

pub returns-clause-passed : goal.returns-clause-passed
returns-clause-passed c = plan_if_given

pub returns-clause-passes : goal.returns-clause-passes
returns-clause-passes c = plan_if_keeps
