use Rattle.ms_core.proofs.Following.{may_offer}
use Rattle.ms_core.proofs.item_law.declare.Goals as goal

pub returns : goal.returns
returns c = may_offer
