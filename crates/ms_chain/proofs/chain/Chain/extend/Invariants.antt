use Rattle.std.proofs.Common.{◌≡◌, ◌-◌, length}
use Rattle.ms_base.specs.declared.limits.TheConstants.{LAST_NUMBER}
use Rattle.ms_local.specs.Learning.{ChainGrows}
use Rattle.ms_chain.proofs.chain.Chain.extend.Given as goal

abbrev pub invariant-members : goal.invariant-members
invariant-members l = ChainGrows l.fn.self l.self × (l.self.lists ≡ l.fn.self.lists)

abbrev pub decreases-members : goal.decreases-members
decreases-members l = LAST_NUMBER - length l.self.members
