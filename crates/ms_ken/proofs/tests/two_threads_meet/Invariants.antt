use Rattle.ms_ken.proofs.tests.two_threads_meet.Given as goal

-- the board that was just made
abbrev pub ghosts-five_and_seven : goal.ghosts-five_and_seven
ghosts-five_and_seven g a = record { board = a.board.now }
