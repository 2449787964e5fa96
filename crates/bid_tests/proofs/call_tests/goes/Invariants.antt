use Rattle.bid_tests.proofs.call_tests.goes.Given as goal

-- the board that was just made
abbrev pub ghosts-goes_on : goal.ghosts-goes_on
ghosts-goes_on a = record { board = a.board }
