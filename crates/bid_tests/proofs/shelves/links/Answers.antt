use Rattle.std.proofs.Common.{List, map, refl, sym, subst, arith}
use Rattle.bid_tests.specs.declared.shelves.ShelfLink.{ShelfLink}
use Rattle.bid_tests.specs.Shelves.{AreLinks, shelf_view}
use Rattle.bid_tests.proofs.Seating.{links_grow}
use Rattle.bid_tests.proofs.shelves.links.Goals as goal

pub loop-shelf-preserved : goal.loop-shelf-preserved
loop-shelf-preserved g c =
    let board = g.J.Naming.board in
    let items = c.loop-shelf.links.items in
    subst (λ (links : List (ShelfLink g.row.J.Denot)). AreLinks board (map (λ link. shelf_view board link.service.0 link.shelf.script.faults) links)) (sym c.in_ok-push.ensures.items)
    (links_grow (λ (link : ShelfLink g.row.J.Denot). shelf_view board link.service.0 link.shelf.script.faults) board items _ c.loop-shelf.invariant
    (omega (arith, c.if-len-ge16.false, c.len.ensures, c.loop-shelf.links.ok.0))
    (record { on_board = refl; to_service = omega (arith, c.len-in-loop-shelf.ensures, c.loop-shelf.links.ok.0) }))
