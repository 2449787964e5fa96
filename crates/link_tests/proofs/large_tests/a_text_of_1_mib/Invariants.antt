use Rattle.link_tests.proofs.large_tests.a_text_of_1_mib.Given as goal

-- the board that was just made
abbrev pub ghosts-large_on : goal.ghosts-large_on
ghosts-large_on g a = record { board = a.board.now }
