use Rattle.link_tests.proofs.told.events_where_a_setting_is_told.Given as goal

-- the board that was just made
abbrev pub ghosts-told_on : goal.ghosts-told_on
ghosts-told_on g a = record { board = a.board.now }
