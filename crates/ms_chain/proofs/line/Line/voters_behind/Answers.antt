use Rattle.std.proofs.Common.{ℕ, List, subst, Contains}
use Rattle.ms_chain.proofs.line.Line.voters_behind.Goals as goal

pub returns-clause-below : goal.returns-clause-below
returns-clause-below c = λ s is. c.plan_behind.ensures.below s (subst (λ (voters : List ℕ). Contains voters s) c.of_plan.ensures.are is)
