use Rattle.link_tests.proofs.Following.{ready_stays}
use Rattle.link_tests.proofs.untold.get.Goals as goal

pub returns-clause-ready : goal.returns-clause-ready
returns-clause-ready g c =
    ready_stays (g.L.Link.sees c.args.link.now) (g.L.Link.sees c.get.new.self) c.args.pass.now c.get.new.pass c.requires.ready c.get.ensures.link c.get.ensures.pass
