use Rattle.std.proofs.Common.{refl, None, arith}
use Rattle.ms_bid.specs.declared.act.Act.TheVariants.{Keep}
use Rattle.ms_bid.specs.Bids.{ballot_of_round}
use Rattle.ms_bid.proofs.Beginning.{fresh_bid}
use Rattle.ms_bid.proofs.proposer.Proposer.new.Goals as goal

pub invariant_of-result : goal.invariant_of-result
invariant_of-result c =
    let a = c.args in
    fresh_bid
    a.voters.now
    a.position
    (ballot_of_round a.round a.client)
    a.want
    (record {
      ballot = ballot_of_round a.round a.client;
      position = a.position;
      voters = a.voters.now;
      want = a.want;
      act = Keep a.round;
      offer = None;
      sent = c.none.result;
      failed = c.none-2.result;
      first_looks = c.none-3.result;
      second_looks = c.none-4.result;
    })
    (record {
      ballot_is = refl;
      position_is = refl;
      voters_are = refl;
      want_is = refl;
      act_is = refl;
      offer_is = refl;
      sent_is = c.none.ensures;
      failed_is = c.none-2.ensures;
      first_is = c.none-3.ensures;
      second_is = c.none-4.ensures;
    })
    c.requires.position
    (record { some_round = c.requires.some_round; last_round = c.requires.last_round; client = omega (arith, c.requires.client_below, c.requires.setting.few_clients) })
    c.requires.own
    (λ s v. omega (arith, c.requires.voters_below s v, c.requires.setting.few_services))
