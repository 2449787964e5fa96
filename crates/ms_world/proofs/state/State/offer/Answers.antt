use Rattle.std.proofs.Common.{refl}
use Rattle.ms_world.proofs.Offering.{offers_nothing, offered}
use Rattle.ms_world.proofs.state.State.offer.Goals as goal

pub returns-in-Nothing-clause-ok : goal.returns-in-Nothing-clause-ok
returns-in-Nothing-clause-ok c = (
  offers_nothing c.args.setting.now c.args.self.now c.args.client.0 c.in-Ok.c.now c.in-Some.bid c.in_ok-ruling.ruling c.in-Ok.ensures.up c.in-Some.ensures.found c.in_ok-ruling.ensures c.in-Nothing.is,
  refl,
)

pub returns-in_ok-make_offer-in-Offer-clause-ok : goal.returns-in_ok-make_offer-in-Offer-clause-ok
returns-in_ok-make_offer-in-Offer-clause-ok c =
    let up = c.in-Ok.ensures.up in
    offered c.args.setting.now c.args.self.now c.make_offer.new.self c.args.client.0 c.in-Ok.c.now c.in-Some.bid c.in-Offer.entry c.in_ok-ruling.ruling up c.in-Some.ensures.found c.in_ok-ruling.ensures
    c.in-Offer.is (c.in_ok-make_offer-in-Offer.ensures.ok c.in-Ok.c.now up.is)
