use Rattle.std.proofs.Common.{◌≡◌, ℕ, List, None, IfOk, IfSome, sym, subst}
use Rattle.ms_world.proofs.Voting.{found_by_place, none_by_place}
use Rattle.ms_world.specs.Rulings.{AreFronts}
use Rattle.ms_world.specs.Worlds.{known_votes, next_of, services_of}
use Rattle.ms_record.specs.declared.entry.Entry.{Entry}
use Rattle.ms_record.specs.declared.log.LogEvent.{LogEvent}
use Rattle.ms_record.specs.Chains.{voters_of}
use Rattle.ms_record.specs.Plans.{PlanView}
use Rattle.ms_record.specs.Votes.{ChosenBy}
use Rattle.ms_world.proofs.state.State.chosen_next.Goals as goal

pub returns : goal.returns
returns c =
    let votes = known_votes c.args.self.now c.args.c.now in
    let are = subst (λ (fronts : List (List LogEvent)). AreFronts votes (services_of c.rows.result.now) fronts) (sym c.deref.ensures.value) c.in_ok-fronts.ensures in
    let k = c.next_position.result in
    let some = found_by_place votes c.plan-plan.result c.rows.result.now c.deref.result.now k c.chosen_at.result c.rows.ensures.rules c.rows.ensures.rows are c.chosen_at.ensures.some in
    let none = none_by_place votes c.plan-plan.result c.rows.result.now c.deref.result.now k c.chosen_at.result c.rows.ensures.rules c.rows.ensures.rows are c.chosen_at.ensures.none in
    record {
      some = subst (λ (p : PlanView). IfOk c.chosen_at.result (λ o. IfSome o (ChosenBy votes (voters_of p) (next_of c.args.c.now)))) c.plan-plan.ensures
          (subst (λ (n : ℕ). IfOk c.chosen_at.result (λ o. IfSome o (ChosenBy votes (voters_of c.plan-plan.result) n))) c.next_position.ensures some);
      none = subst (λ (p : PlanView). IfOk c.chosen_at.result (λ o. o ≡ None → (e : Entry) → ChosenBy votes (voters_of p) (next_of c.args.c.now) e → ⊥)) c.plan-plan.ensures
          (subst (λ (n : ℕ). IfOk c.chosen_at.result (λ o. o ≡ None → (e : Entry) → ChosenBy votes (voters_of c.plan-plan.result) n e → ⊥)) c.next_position.ensures none);
    }
