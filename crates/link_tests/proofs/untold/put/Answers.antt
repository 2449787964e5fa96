use Rattle.link_tests.proofs.Following.{any_may_follow, ready_stays}
use Rattle.link_tests.proofs.untold.put.Goals as goal

pub put-requires-clause-closed : goal.put-requires-clause-closed
put-requires-clause-closed g c =
    any_may_follow (g.L.Link.sees c.args.link.now).board.words c.args.pass.now.lists (g.L.Link.sees c.args.link.now).service _ c.requires.ready.below c.requires.ready.untold

pub returns-clause-ready : goal.returns-clause-ready
returns-clause-ready g c =
    ready_stays (g.L.Link.sees c.args.link.now) (g.L.Link.sees c.put.new.self) c.args.pass.now c.put.new.pass c.requires.ready c.put.ensures.link c.put.ensures.pass
