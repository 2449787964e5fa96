use Rattle.link_tests.proofs.Following.{any_may_follow, ready_stays}
use Rattle.link_tests.proofs.untold.drop_below.Goals as goal

pub drop_below-requires-clause-closed : goal.drop_below-requires-clause-closed
drop_below-requires-clause-closed g c =
    any_may_follow (g.L.Link.sees c.args.link.now).board.words c.args.pass.now.lists (g.L.Link.sees c.args.link.now).service _ c.requires.ready.below c.requires.ready.untold

pub returns-clause-ready : goal.returns-clause-ready
returns-clause-ready g c =
    ready_stays (g.L.Link.sees c.args.link.now) (g.L.Link.sees c.drop_below.new.self) c.args.pass.now c.drop_below.new.pass c.requires.ready c.drop_below.ensures.link c.drop_below.ensures.pass
