use Rattle.link_tests.proofs.Following.{asking_stays}
use Rattle.link_tests.proofs.client_tests.got.Goals as goal

pub returns : goal.returns
returns g c = asking_stays c.requires c.get_then_has.ensures.link c.get_then_has.ensures.pass
