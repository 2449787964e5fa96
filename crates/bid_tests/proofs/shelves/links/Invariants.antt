use Rattle.std.proofs.Common.{map}
use Rattle.bid_tests.specs.Shelves.{AreLinks, shelf_view}
use Rattle.bid_tests.proofs.shelves.links.Given as goal

abbrev pub invariant-loop-shelf : goal.invariant-loop-shelf
invariant-loop-shelf g l = AreLinks g.J.Naming.board (map (λ link. shelf_view g.J.Naming.board link.service.0 link.shelf.script.faults) l.links.items)
