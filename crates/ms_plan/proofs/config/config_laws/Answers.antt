use Rattle.ms_plan.proofs.GrammarLaws.{says}
use Rattle.ms_plan.proofs.GrammarReads.{reads}
use Rattle.ms_plan.proofs.LineForms.{one_value, read_again}
use Rattle.ms_plan.proofs.config.config_laws.Goals as goal

pub returns : goal.returns
returns c = record { line = one_value; line_again = read_again; whole = says; whole_again = reads }
