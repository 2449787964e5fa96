use Rattle.std.proofs.Common.{◌≡◌, ◌<◌, Some, sym, ◌∙◌, subst, arith}
use Rattle.ms_local.specs.Keeping.{state_in}
use Rattle.ms_local.specs.Memory.{Shelf, keeper_of}
use Rattle.bid_tests.proofs.Bidders.{seat_there}
use Rattle.bid_tests.proofs.bidding.seat_of.Goals as goal

pub returns-clause-seat : goal.returns-clause-seat
returns-clause-seat g c =
    let below : c.in-Some-desk_of.desk.client.0 < c.args.setting.now.clients = omega (arith, c.in-Some-desk_of.ensures.client, c.requires.client, c.requires.clients) in
    seat_there c.args.setting.now _ c.args.kept.now c.in-Some-desk_of.ensures.desk c.requires.setting (c.requires.services ∙ sym c.in-Some-desk_of.ensures.services) below
    (subst (λ (k : Shelf). state_in (keeper_of k).texts ≡ Some c.args.kept.now) (sym c.in-Some-desk_of.ensures.keep) c.in-Some.ensures) c.requires.ranges
