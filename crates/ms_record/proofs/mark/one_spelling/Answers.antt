use Rattle.ms_record.proofs.MarkLaws.{mark_is_read, mark_is_read_again}
use Rattle.ms_record.proofs.mark.one_spelling.Goals as goal

pub returns-clause-read : goal.returns-clause-read
returns-clause-read c = mark_is_read c.fields_are_spelled.ensures

pub returns-clause-again : goal.returns-clause-again
returns-clause-again c = mark_is_read_again c.spelled_fields_are_read.ensures
