use Rattle.std.proofs.Common.{List, sym, subst}
use Rattle.ms_world.proofs.Fronts.{plan_rises}
use Rattle.ms_world.proofs.Voting.{ruling_by_number}
use Rattle.ms_world.specs.Rulings.{AreFronts, IsRuling}
use Rattle.ms_world.specs.Worlds.{ballot_of_round, known_votes, services_of}
use Rattle.ms_record.specs.declared.log.LogEvent.{LogEvent}
use Rattle.ms_record.specs.declared.plan.PlanRow.{PlanRow}
use Rattle.ms_record.specs.Plans.{PlanView}
use Rattle.ms_world.proofs.state.State.ruling.Goals as goal

pub returns : goal.returns
returns c =
    let bid = c.args.bid.now in
    let votes = known_votes c.args.self.now c.args.c.now in
    let plan = c.plan-plan.result in
    let rows = c.rows.ensures.rows in
    let are = subst (λ (fronts : List (List LogEvent)). AreFronts votes (services_of plan.rows) fronts) (sym c.deref.ensures.value)
    (subst (λ (l : List PlanRow). AreFronts votes (services_of l) c.in_ok-fronts.fronts.items) rows c.in_ok-fronts.ensures) in
    subst (λ (p : PlanView). IsRuling votes (services_of p.rows) bid.position (ballot_of_round c.args.client.0 bid.round) bid.want c.rule.result) c.plan-plan.ensures
    (ruling_by_number votes (services_of plan.rows) c.deref.result.now (plan_rises plan c.rows.ensures.rules) are bid.position (ballot_of_round c.args.client.0 bid.round) bid.want c.rule.result c.rule.ensures)
