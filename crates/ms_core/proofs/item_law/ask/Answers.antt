use Rattle.ms_core.proofs.Following.{may_ask}
use Rattle.ms_core.proofs.item_law.ask.Goals as goal

pub returns : goal.returns
returns c = may_ask
