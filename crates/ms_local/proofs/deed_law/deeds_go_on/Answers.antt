use Rattle.ms_local.specs.Running.{did_nothing, did_on, did_may, did_bid}
use Rattle.ms_local.proofs.deed_law.deeds_go_on.Goals as goal

pub returns-clause-nothing : goal.returns-clause-nothing
returns-clause-nothing c = did_nothing

pub returns-clause-on : goal.returns-clause-on
returns-clause-on c = did_on

pub returns-clause-may : goal.returns-clause-may
returns-clause-may c = did_may

pub returns-clause-bid : goal.returns-clause-bid
returns-clause-bid c = did_bid
