use Rattle.bid_tests.proofs.mark_tests.writes.Given as goal

-- the board that was just made
abbrev pub ghosts-writes_on : goal.ghosts-writes_on
ghosts-writes_on a = record { board = a.board }
