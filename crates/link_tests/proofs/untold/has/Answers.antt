use Rattle.link_tests.proofs.Following.{ready_stays}
use Rattle.link_tests.proofs.untold.has.Goals as goal

pub returns-clause-ready : goal.returns-clause-ready
returns-clause-ready g c =
    ready_stays (g.L.Link.sees c.args.link.now) (g.L.Link.sees c.has.new.self) c.args.pass.now c.has.new.pass c.requires.ready c.has.ensures.link c.has.ensures.pass
