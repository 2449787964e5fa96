use Rattle.bid_tests.proofs.learning_tests.reads_long.Given as goal

-- the board that was just made
abbrev pub ghosts-reads_long_on : goal.ghosts-reads_long_on
ghosts-reads_long_on a = record { board = a.board }
