use Rattle.link_tests.proofs.large_tests.two_thousand_texts.Given as goal

-- the board that was just made
abbrev pub ghosts-many_on : goal.ghosts-many_on
ghosts-many_on g a = record { board = a.board.now }
