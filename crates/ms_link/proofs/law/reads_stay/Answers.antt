use Rattle.ms_link.specs.Composing.{lists_on, has_on, gets_on}
use Rattle.ms_link.proofs.law.reads_stay.Goals as goal

pub returns-clause-lists : goal.returns-clause-lists
returns-clause-lists c = lists_on

pub returns-clause-has : goal.returns-clause-has
returns-clause-has c = has_on

pub returns-clause-gets : goal.returns-clause-gets
returns-clause-gets c = gets_on
