use Rattle.ms_link.specs.Composing.{added_before, added_stays, tells_on, puts_on}
use Rattle.ms_link.proofs.law.changes_stay.Goals as goal

pub returns-clause-added_before : goal.returns-clause-added_before
returns-clause-added_before c = added_before

pub returns-clause-added_stays : goal.returns-clause-added_stays
returns-clause-added_stays c = added_stays

pub returns-clause-tells : goal.returns-clause-tells
returns-clause-tells c = tells_on

pub returns-clause-puts : goal.returns-clause-puts
returns-clause-puts c = puts_on
