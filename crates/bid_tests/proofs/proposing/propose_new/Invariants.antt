use Rattle.bid_tests.proofs.proposing.propose_new.Given as goal

-- the board that was just made
abbrev pub ghosts-propose_new_on : goal.ghosts-propose_new_on
ghosts-propose_new_on a = record { board = a.board }
