use Rattle.ms_link.specs.Composing.{on_board_at, leads_on}
use Rattle.ms_link.proofs.law.links_lead.Goals as goal

pub returns-clause-on_board : goal.returns-clause-on_board
returns-clause-on_board c = on_board_at

pub returns-clause-leads_on : goal.returns-clause-leads_on
returns-clause-leads_on c = leads_on
