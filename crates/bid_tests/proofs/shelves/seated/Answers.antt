use Rattle.bid_tests.proofs.Seating.{untold_desk}
use Rattle.bid_tests.proofs.shelves.seated.Goals as goal

pub returns-clause-desk : goal.returns-clause-desk
returns-clause-desk g c = untold_desk _ g.J.Naming.board c.requires.board c.requires.client c.requires.pass c.requires.lanes
