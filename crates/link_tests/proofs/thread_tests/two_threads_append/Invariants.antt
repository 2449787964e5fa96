use Rattle.std.specs.Arc.{arc_value}
use Rattle.link_tests.proofs.thread_tests.two_threads_append.Given as goal

-- the board that was just made
abbrev pub ghosts-threads_on : goal.ghosts-threads_on
ghosts-threads_on g a = record { board = arc_value a.board }
