use Rattle.std.proofs.Common.{List, sym, subst}
use Rattle.ms_world.proofs.Voting.{found_by_place, none_by_place}
use Rattle.ms_world.specs.Rulings.{AreFronts}
use Rattle.ms_world.specs.Worlds.{services_of, votes_of_world}
use Rattle.ms_record.specs.declared.log.LogEvent.{LogEvent}
use Rattle.ms_world.proofs.state.State.chosen_under.Goals as goal

pub returns : goal.returns
returns c =
    let votes = votes_of_world c.args.self.now in
    let are = subst (λ (fronts : List (List LogEvent)). AreFronts votes (services_of c.rows.result.now) fronts) (sym c.deref.ensures.value) c.in_ok-fronts.ensures in record {
      some = found_by_place votes c.args.plan.now c.rows.result.now c.deref.result.now c.args.position c.chosen_at.result c.rows.ensures.rules c.rows.ensures.rows are c.chosen_at.ensures.some;
      none = none_by_place votes c.args.plan.now c.rows.result.now c.deref.result.now c.args.position c.chosen_at.result c.rows.ensures.rules c.rows.ensures.rows are c.chosen_at.ensures.none;
    }
