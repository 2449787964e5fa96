use Rattle.ms_local.proofs.StateLaws.{kept_is_read, kept_is_read_again, one_text}
use Rattle.ms_local.proofs.spelling.kept_laws.Goals as goal

pub returns-clause-read : goal.returns-clause-read
returns-clause-read c = kept_is_read c.fields_are_spelled.ensures

pub returns-clause-again : goal.returns-clause-again
returns-clause-again c = kept_is_read_again c.spelled_fields_are_read.ensures

pub returns-clause-one_text : goal.returns-clause-one_text
returns-clause-one_text c = one_text c.spelled_fields_are_read.ensures
