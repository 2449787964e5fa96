use Rattle.link_tests.proofs.Following.{any_may_follow, ready_stays}
use Rattle.link_tests.proofs.untold.append.Goals as goal

pub append-requires-clause-closed : goal.append-requires-clause-closed
append-requires-clause-closed g c =
    any_may_follow (g.L.Link.sees c.args.link.now).board.words c.args.pass.now.lists (g.L.Link.sees c.args.link.now).service _ c.requires.ready.below c.requires.ready.untold

pub returns-clause-ready : goal.returns-clause-ready
returns-clause-ready g c =
    ready_stays (g.L.Link.sees c.args.link.now) (g.L.Link.sees c.append.new.self) c.args.pass.now c.append.new.pass c.requires.ready c.append.ensures.link c.append.ensures.pass
