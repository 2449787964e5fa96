use Rattle.std.proofs.Common.{refl}
use Rattle.ms_world.proofs.chain.follow_at.Goals as goal

pub returns-in-None-clause-end : goal.returns-in-None-clause-end
returns-in-None-clause-end c = λ none. (refl, λ e. c.in_ok-chosen.ensures.none c.in-None.is e)
