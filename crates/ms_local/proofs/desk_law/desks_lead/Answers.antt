use Rattle.ms_local.proofs.DeskLaws.{on_board, to_service}
use Rattle.ms_local.proofs.desk_law.desks_lead.Goals as goal

pub returns-clause-board : goal.returns-clause-board
returns-clause-board c = on_board

pub returns-clause-service : goal.returns-clause-service
returns-clause-service c = to_service
