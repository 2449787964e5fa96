use Rattle.link_tests.proofs.Following.{ready_stays}
use Rattle.link_tests.proofs.untold.list.Goals as goal

pub returns-clause-ready : goal.returns-clause-ready
returns-clause-ready g c =
    ready_stays (g.L.Link.sees c.args.link.now) (g.L.Link.sees c.list.new.self) c.args.pass.now c.list.new.pass c.requires.ready c.list.ensures.link c.list.ensures.pass
