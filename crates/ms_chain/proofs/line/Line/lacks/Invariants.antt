use Rattle.std.proofs.Common.{◌≡◌, ℕ, ◌<◌, Some, slice_get}
use Rattle.ms_local.specs.Learning.{HasHalf}
use Rattle.ms_record.specs.Chains.{voters_of}
use Rattle.ms_record.specs.Plans.{PlanView}
use Rattle.ms_chain.proofs.line.Line.lacks.Given as goal

abbrev pub invariant-loop-plan : goal.invariant-loop-plan
invariant-loop-plan l = (k : ℕ) (plan : PlanView) → k < l.plan-index → slice_get l.plan-items k ≡ Some plan → HasHalf l.failed (voters_of plan) → ⊥
