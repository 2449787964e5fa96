use Rattle.ms_replay.proofs.DumpSpelling.{WordLaws, head_spelled, head_read, row_spelled, row_read}
use Rattle.ms_replay.proofs.DumpWhole.{dump_spelled, dump_read}
use Rattle.ms_replay.proofs.law.lines_are_spelled.Goals as goal

laws : (c : goal.After-one_spelling) → WordLaws
laws c = record {
  words = c.words_are_joined.ensures;
  read = c.one_spelling.ensures.read;
  again = c.one_spelling.ensures.again;
  no_space = c.one_spelling.ensures.no_space;
}

pub returns-clause-whole : goal.returns-clause-whole
returns-clause-whole c = λ text dump. (dump_spelled (laws c) text dump, dump_read (laws c) text dump)

pub returns-clause-head : goal.returns-clause-head
returns-clause-head c = λ line services genesis. (head_spelled (laws c) line services genesis, head_read (laws c) line services genesis)

pub returns-clause-row : goal.returns-clause-row
returns-clause-row c = λ services line service text few. (row_spelled (laws c) services line service text, row_read (laws c) services line service text few)
