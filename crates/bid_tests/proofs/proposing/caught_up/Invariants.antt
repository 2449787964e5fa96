use Rattle.bid_tests.proofs.proposing.caught_up.Given as goal

-- the board that was just made
abbrev pub ghosts-caught_up_on : goal.ghosts-caught_up_on
ghosts-caught_up_on a = record { board = a.board }
