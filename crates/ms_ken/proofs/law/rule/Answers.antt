use Rattle.ms_ken.proofs.Keeping.{ruled}
use Rattle.ms_ken.proofs.law.rule.Goals as goal

pub returns : goal.returns
returns g c = ruled
