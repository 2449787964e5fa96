use Rattle.ms_core.specs.Closing.{support_stays, closed_of_nothing, closed_of_longer}
use Rattle.ms_core.proofs.item_law.supports_stay.Goals as goal

pub returns-clause-item : goal.returns-clause-item
returns-clause-item c = support_stays

pub returns-clause-nothing : goal.returns-clause-nothing
returns-clause-nothing c = closed_of_nothing

pub returns-clause-longer : goal.returns-clause-longer
returns-clause-longer c = closed_of_longer
