use Rattle.std.proofs.Common.{◌≡◌}
use Rattle.link_tests.specs.Untold.{IsReady}
use Rattle.link_tests.proofs.large_tests.append_many.Given as goal

abbrev pub invariant-loop-number : goal.invariant-loop-number
invariant-loop-number g l = record {
  board : l.board ≡ (g.L.Link.sees l.link).board;
  ready : IsReady (g.L.Link.sees l.link).board (g.L.Link.sees l.link).service l.pass;
}
