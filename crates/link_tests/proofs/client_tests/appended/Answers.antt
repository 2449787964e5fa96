use Rattle.link_tests.proofs.Following.{asking_stays, may_ask}
use Rattle.link_tests.proofs.client_tests.appended.Goals as goal

pub append_then_list-requires-clause-closed : goal.append_then_list-requires-clause-closed
append_then_list-requires-clause-closed g c = may_ask c.requires _

pub returns : goal.returns
returns g c = asking_stays c.requires c.append_then_list.ensures.link c.append_then_list.ensures.pass
