use Rattle.std.proofs.Common.{arith}
use Rattle.ms_plan.proofs.DraftLaws.{numbers_kept, service_kept}
use Rattle.ms_plan.proofs.draft.Draft.with_service.Goals as goal

pub invariant_of-self : goal.invariant_of-self
invariant_of-self c = record {
  rules = service_kept _ _ c.args.service c.self.invariant.rules c.in_ok-push.ensures.items (grind arith) (omega arith) (grind arith) c.as_str.ensures.form (grind arith);
  numbers = numbers_kept _ _ c.args.service c.self.invariant.numbers c.in_ok-push.ensures.items (omega arith);
}
