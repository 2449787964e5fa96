use Rattle.std.proofs.Common.{◌+◌, ◌<◌, Bool, List, length, subst, sym, arith}
use Rattle.ms_bid.specs.Ends.{AllSent, AllSeen}
use Rattle.ms_bid.specs.Bids.{IsFramed}
use Rattle.ms_bid.proofs.Noting.{framed_failed, sent_failed, seen_failed}
use Rattle.ms_bid.proofs.bid.Bid.note_failed.Goals as goal

pub add-requires : goal.add-requires
add-requires c = omega (arith, c.requires.framed.below c.args.service.0 c.requires.votes, c.requires.framed.failed_many)

pub returns-clause-sends : goal.returns-clause-sends
returns-clause-sends c =
    let b = c.args.self.now in
    let t = c.args.service.0 in
    let within : t < length b.failed = omega (arith, c.requires.framed.below t c.requires.votes, c.requires.framed.failed_many) in
    subst (λ (failed : List Bool). AllSent b.sent b.failed b.voters t → AllSent b.sent failed b.voters (t + 1)) (sym c.add.ensures)
    (sent_failed b.sent b.failed b.voters t within)

pub returns-clause-looks : goal.returns-clause-looks
returns-clause-looks c = λ sights.
    let b = c.args.self.now in
    let t = c.args.service.0 in
    let within : t < length b.failed = omega (arith, c.requires.framed.below t c.requires.votes, c.requires.framed.failed_many) in
    subst (λ (failed : List Bool). AllSeen sights b.failed b.voters t → AllSeen sights failed b.voters (t + 1)) (sym c.add.ensures)
    (seen_failed sights b.failed b.voters t within)

pub returns-clause-framed : goal.returns-clause-framed
returns-clause-framed c =
    let b = c.args.self.now in
    let t = c.args.service.0 in
    subst (λ (failed : List Bool). IsFramed (record b { failed = failed })) (sym c.add.ensures) (framed_failed b t c.requires.framed c.requires.votes c.requires.unseen)
