use Rattle.link_tests.proofs.Following.{asking_stays, may_ask}
use Rattle.link_tests.proofs.client_tests.refused.Goals as goal

pub stale_then_put-requires-clause-closed : goal.stale_then_put-requires-clause-closed
stale_then_put-requires-clause-closed g c = may_ask c.requires _

pub returns : goal.returns
returns g c = asking_stays c.requires c.stale_then_put.ensures.link c.stale_then_put.ensures.pass
