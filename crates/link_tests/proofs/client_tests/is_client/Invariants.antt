use Rattle.link_tests.proofs.client_tests.is_client.Given as goal

-- the board that was just made
abbrev pub ghosts-client_on : goal.ghosts-client_on
ghosts-client_on g a = record { board = a.board.now }
