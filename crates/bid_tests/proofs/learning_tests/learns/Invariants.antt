use Rattle.bid_tests.proofs.learning_tests.learns.Given as goal

-- the board that was just made
abbrev pub ghosts-learns_on : goal.ghosts-learns_on
ghosts-learns_on a = record { board = a.board }
