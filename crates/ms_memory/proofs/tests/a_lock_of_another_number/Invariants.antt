use Rattle.ms_memory.proofs.tests.a_lock_of_another_number.Given as goal

-- the board that was just made
abbrev pub ghosts-refuses_on : goal.ghosts-refuses_on
ghosts-refuses_on g a = record { board = a.board.now }
