use Rattle.link_tests.proofs.Following.{asking_stays, may_ask}
use Rattle.link_tests.proofs.client_tests.put.Goals as goal

pub put_then_has-requires-clause-closed : goal.put_then_has-requires-clause-closed
put_then_has-requires-clause-closed g c = may_ask c.requires _

pub returns : goal.returns
returns g c = asking_stays c.requires c.put_then_has.ensures.link c.put_then_has.ensures.pass
