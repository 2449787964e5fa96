use Rattle.std.proofs.Common.{List, [], ◌∷◌, ◌++◌, map, ap, ◌∙◌, sym, subst, length, arith}
use Rattle.ms_local.specs.declared.desk.Lane.{Lane}
use Rattle.bid_tests.specs.declared.shelves.ShelfLink.{ShelfLink}
use Rattle.bid_tests.specs.Shelves.{IsOneLane, shelf_view}
use Rattle.bid_tests.proofs.Seating.{one_lane}
use Rattle.bid_tests.proofs.shelves.lane.Goals as goal

pub returns : goal.returns
returns g c =
    let board = g.J.Naming.board in
    let many = length c.args.shelves.items in
    let is = c.in_ok-push.ensures.items ∙ ap (λ (lanes : List (Lane (ShelfLink g.row.J.Denot))). lanes ++ record { links = c.in_ok-links.links } ∷ []) c.new-lanes.ensures.items in
    subst (λ (lanes : List (Lane (ShelfLink g.row.J.Denot))). IsOneLane board many (map (λ lane. map (λ l. shelf_view board l.service.0 l.shelf.script.faults) lane.links.items) lanes)) (sym is)
    (one_lane (λ (link : ShelfLink g.row.J.Denot). shelf_view board link.service.0 link.shelf.script.faults) board c.in_ok-links.links.items many c.in_ok-links.ensures
    (omega (arith, c.if-len-many.false, c.len.ensures, c.in_ok-links.links.ok.0, c.len-many.ensures, c.args.shelves.ok.0))
    (omega (arith, c.if-many-eq0.false, c.len-many.ensures, c.args.shelves.ok.0)))
