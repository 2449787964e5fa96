use Rattle.ms_record.proofs.EntryLaws.{entry_is_read, entry_is_read_again}
use Rattle.ms_record.proofs.entry.one_spelling.Goals as goal

pub returns-clause-read : goal.returns-clause-read
returns-clause-read c = entry_is_read c.fields_are_spelled.ensures

pub returns-clause-again : goal.returns-clause-again
returns-clause-again c = entry_is_read_again c.spelled_fields_are_read.ensures
