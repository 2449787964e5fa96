use Rattle.bid_tests.proofs.mark_tests.reads.Given as goal

-- the board that was just made
abbrev pub ghosts-reads_on : goal.ghosts-reads_on
ghosts-reads_on a = record { board = a.board }
