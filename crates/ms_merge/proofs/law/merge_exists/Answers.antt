use Rattle.ms_merge.proofs.Answering.{has_answer}
use Rattle.ms_merge.proofs.Existing.{has_merge, few_names}
use Rattle.ms_merge.proofs.FreeNames.{has_free}
use Rattle.ms_merge.proofs.OneAnswer.{answers_same}
use Rattle.ms_merge.proofs.InTurn.{one_in_turn}
use Rattle.ms_merge.proofs.TreeLaws.{TreeLaws}
use Rattle.ms_merge.proofs.law.merge_exists.Goals as goal

pub returns-clause-merge : goal.returns-clause-merge
returns-clause-merge c = λ base ours theirs tag may.
    has_merge (record { directory = c.path_laws.ensures.directory; put = c.file_laws.ensures.put; rises = c.file_laws.ensures.rises; merges = c.merge_laws.ensures }) may

pub returns-clause-few : goal.returns-clause-few
returns-clause-few c = λ base ours theirs tag files may merge. few_names may files merge

pub returns-clause-free : goal.returns-clause-free
returns-clause-free c = λ base ours theirs tag given path may few. let f = has_free c.path_laws.ensures.directory may given path few in (f.name, f.is, f.near)

pub returns-clause-answer : goal.returns-clause-answer
returns-clause-answer c = λ base ours theirs tag may.
    let laws : TreeLaws = record { directory = c.path_laws.ensures.directory; put = c.file_laws.ensures.put; rises = c.file_laws.ensures.rises; merges = c.merge_laws.ensures } in
    let a = has_answer laws may in (a.answer, a.has_room, a.is)

pub returns-clause-one_answer : goal.returns-clause-one_answer
returns-clause-one_answer c = λ base ours theirs tag one other may room more a b. answers_same c.merge_laws.ensures may one other room more a b

pub returns-clause-in_turn : goal.returns-clause-in_turn
returns-clause-in_turn c = λ base ours ts tag f g a b. one_in_turn c.merge_laws.ensures base ours ts tag f g a b
