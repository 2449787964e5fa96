use Rattle.ms_core.proofs.Left.{one_left}
use Rattle.ms_record.specs.Logs.{Stands}
use Rattle.ms_core.proofs.view_law.some_left.Goals as goal

pub returns : goal.returns
returns c = λ logs plan version lost whole few name text is. one_left (λ s. Stands (logs s) plan.generation name) lost plan (whole.placed.put name text is) few
