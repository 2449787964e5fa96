use Rattle.link_tests.proofs.untold.is_played.Given as goal

-- the board that was just made
abbrev pub ghosts-is_played_on : goal.ghosts-is_played_on
ghosts-is_played_on g a = record { board = a.board.now }
