use Rattle.link_tests.proofs.Following.{asking_stays, may_ask}
use Rattle.link_tests.proofs.client_tests.dropped.Goals as goal

pub drop_then_has-requires-clause-closed : goal.drop_then_has-requires-clause-closed
drop_then_has-requires-clause-closed g c = may_ask c.requires _

pub returns : goal.returns
returns g c = asking_stays c.requires c.drop_then_has.ensures.link c.drop_then_has.ensures.pass
