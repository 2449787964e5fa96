use Rattle.ms_top.proofs.Together.{together}
use Rattle.ms_top.proofs.drills.holds_together.Goals as goal

pub returns-clause-together : goal.returns-clause-together
returns-clause-together c = λ entries chain.
    let reached = c.shows.ensures.reached in
    let set = c.shows.ensures.set in
    let setting = c.args.world.now.setting in
    let w = c.args.world.now.world in
    together w entries (c.every_run.ensures.begins setting w entries set reached chain) (c.every_run.ensures.one_list setting w set reached)
