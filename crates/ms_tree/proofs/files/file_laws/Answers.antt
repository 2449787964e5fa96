use Rattle.ms_tree.proofs.FileLaws.{text_at-with_file, text_at-without, text_at-place}
use Rattle.ms_tree.proofs.AddedLaws.{with_file_rises, added_files, files_added}
use Rattle.ms_tree.proofs.files.file_laws.Goals as goal

pub returns-clause-put : goal.returns-clause-put
returns-clause-put c = λ files path text other. text_at-with_file path text other files

pub returns-clause-taken : goal.returns-clause-taken
returns-clause-taken c = λ files path other kept. text_at-without path other files kept.rising

pub returns-clause-place : goal.returns-clause-place
returns-clause-place c = λ files place path text kept. text_at-place files place path text kept.rising

pub returns-clause-rises : goal.returns-clause-rises
returns-clause-rises c = λ files path text rise. with_file_rises path text files rise

pub returns-clause-added : goal.returns-clause-added
returns-clause-added c = λ files new path text kept h. added_files files new path text kept h

pub returns-clause-fits : goal.returns-clause-fits
returns-clause-fits c = λ files path text kept. files_added files path text kept
