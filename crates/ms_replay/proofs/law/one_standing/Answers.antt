use Rattle.ms_replay.proofs.OneStanding.{standings_meet, all_in_range}
use Rattle.ms_replay.proofs.law.one_standing.Goals as goal

pub returns-clause-one : goal.returns-clause-one
returns-clause-one c = λ lists services voters k a b ranges among h g. standings_meet lists services voters k a b c.one_spelling.ensures.again ranges among h g

pub returns-clause-read : goal.returns-clause-read
returns-clause-read c = λ texts bytes. all_in_range texts c.one_spelling-2.ensures.read bytes
