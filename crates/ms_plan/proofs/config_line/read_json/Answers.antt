use Rattle.serde_json.specs.Read.{read}
use Rattle.serde_json.specs.View.{view}
use Rattle.ms_plan.proofs.JsonLaws.{read_so, refused}
use Rattle.ms_plan.proofs.config_line.read_json.Goals as goal

pub returns-in-Ok : goal.returns-in-Ok
returns-in-Ok c = read_so c.args.line.now (read c.args.line.now) (view c.in-Ok.value) c.in-Ok.ensures.ok.0 c.in-Ok.ensures.ok.1

pub returns-in_default : goal.returns-in_default
returns-in_default c = refused c.args.line.now (read c.args.line.now) (c.in-Err.ensures.err (λ e. c.in_default.not-Memory (c.classify.ensures.memory.1 e)))
