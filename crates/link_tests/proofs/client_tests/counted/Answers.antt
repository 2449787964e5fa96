use Rattle.link_tests.proofs.Following.{asking_stays, may_ask}
use Rattle.link_tests.proofs.client_tests.counted.Goals as goal

pub append_counted-requires-clause-closed : goal.append_counted-requires-clause-closed
append_counted-requires-clause-closed g c = may_ask c.requires _

pub returns : goal.returns
returns g c = asking_stays c.requires c.append_counted.ensures.link c.append_counted.ensures.pass
