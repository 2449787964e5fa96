use Rattle.ms_core.proofs.Living.{live_laws}
use Rattle.ms_core.proofs.log_law.live_laws.Goals as goal

pub returns : goal.returns
returns c = live_laws
