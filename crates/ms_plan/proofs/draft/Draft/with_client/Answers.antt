use Rattle.std.proofs.Common.{arith}
use Rattle.ms_plan.proofs.DraftLaws.{client_kept}
use Rattle.ms_plan.proofs.draft.Draft.with_client.Goals as goal

pub invariant_of-self : goal.invariant_of-self
invariant_of-self c = record {
  rules = client_kept _ _ c.args.label c.self.invariant.rules c.in_ok-push.ensures.items (omega arith) (omega arith) c.as_str.ensures.form (grind arith);
  numbers = record { unit = c.self.invariant.numbers.unit; capacities = c.self.invariant.numbers.capacities };
}
