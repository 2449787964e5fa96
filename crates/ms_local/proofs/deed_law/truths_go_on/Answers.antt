use Rattle.ms_local.proofs.GoingOn.{history_called, history_on, history_self, truths_noted, truths_on, truths_quiet, truths_self}
use Rattle.ms_local.proofs.deed_law.truths_go_on.Goals as goal

pub returns-clause-nothing : goal.returns-clause-nothing
returns-clause-nothing c = truths_self

pub returns-clause-quiet : goal.returns-clause-quiet
returns-clause-quiet c = truths_quiet

pub returns-clause-on : goal.returns-clause-on
returns-clause-on c = truths_on

pub returns-clause-noted : goal.returns-clause-noted
returns-clause-noted c = truths_noted

pub returns-clause-own_nothing : goal.returns-clause-own_nothing
returns-clause-own_nothing c = history_self

pub returns-clause-own_on : goal.returns-clause-own_on
returns-clause-own_on c = history_on

pub returns-clause-own_called : goal.returns-clause-own_called
returns-clause-own_called c = history_called
