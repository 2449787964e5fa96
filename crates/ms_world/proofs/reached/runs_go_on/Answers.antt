use Rattle.ms_world.proofs.ReachedLaws.{linked_stays, reached_more}
use Rattle.ms_world.proofs.reached.runs_go_on.Goals as goal

pub returns-clause-reached : goal.returns-clause-reached
returns-clause-reached c = reached_more

pub returns-clause-linked : goal.returns-clause-linked
returns-clause-linked c = linked_stays c.chain_laws.ensures
