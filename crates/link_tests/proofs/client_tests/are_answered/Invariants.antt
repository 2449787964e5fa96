use Rattle.link_tests.specs.Untold.{IsAsking}
use Rattle.link_tests.proofs.client_tests.are_answered.Given as goal

abbrev pub invariant-loop-step : goal.invariant-loop-step
invariant-loop-step g l = IsAsking l.board (g.L.Link.sees l.link) l.pass
