use Rattle.ms_local.specs.Running.{run_on, run_prefix}
use Rattle.ms_local.proofs.deed_law.deeds_compose.Goals as goal

pub returns-clause-both : goal.returns-clause-both
returns-clause-both c = run_on

pub returns-clause-prefix : goal.returns-clause-prefix
returns-clause-prefix c = run_prefix
