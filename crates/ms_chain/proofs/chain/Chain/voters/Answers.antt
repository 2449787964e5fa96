use Rattle.std.proofs.Common.{◌<◌, subst}
use Rattle.ms_local.specs.Learning.{ChainView}
use Rattle.ms_chain.proofs.chain.Chain.voters.Goals as goal

pub returns-clause-below : goal.returns-clause-below
returns-clause-below c = λ s is. subst (λ (chain : ChainView). s < chain.setting.services) c.self.view_is (c.voters_behind.ensures.below s is)
