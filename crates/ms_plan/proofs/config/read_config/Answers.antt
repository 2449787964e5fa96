use Rattle.std.proofs.Common.{subst, None, Result}
use Rattle.ms_record.specs.declared.refusal.Refusal.{Refusal}
use Rattle.ms_text.specs.Lines.{lines_of}
use Rattle.ms_plan.specs.Configuration.{ConfigView, ReadsConfig, config_at, config_line, whole}
use Rattle.ms_plan.proofs.config.read_config.Goals as goal

pub returns-clause-first : goal.returns-clause-first
returns-clause-first c = λ line e.
    c.first_wrong_lines.ensures.found config_line (whole c.args.text.now) None (lines_of c.args.text.now) line
    (subst (λ (r : Result ConfigView Refusal). ReadsConfig (config_at c.args.text.now) r) e c.read_whole.ensures.exact)
