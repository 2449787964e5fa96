use Rattle.std.proofs.Common.{◌≡◌}
use Rattle.link_tests.specs.Untold.{IsReady}
use Rattle.link_tests.proofs.untold.plays.Given as goal

abbrev pub invariant-loop-step : goal.invariant-loop-step
invariant-loop-step g l = record {
  board : l.board ≡ (g.L.Link.sees l.link).board;
  ready : IsReady (g.L.Link.sees l.link).board (g.L.Link.sees l.link).service l.pass;
}
