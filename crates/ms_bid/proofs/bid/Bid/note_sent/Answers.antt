use Rattle.std.proofs.Common.{◌+◌, ◌<◌, Bool, List, length, subst, sym, arith}
use Rattle.ms_bid.specs.Ends.{AllSent}
use Rattle.ms_bid.proofs.Noting.{sent_more}
use Rattle.ms_bid.proofs.bid.Bid.note_sent.Goals as goal

pub add-requires : goal.add-requires
add-requires c = omega (arith, c.requires.framed.below c.args.service.0 c.requires.votes, c.requires.framed.sent_many)

pub returns-clause-sends : goal.returns-clause-sends
returns-clause-sends c =
    let b = c.args.self.now in
    let t = c.args.service.0 in
    let within : t < length b.sent = omega (arith, c.requires.framed.below t c.requires.votes, c.requires.framed.sent_many) in
    subst (λ (sent : List Bool). AllSent b.sent b.failed b.voters t → AllSent sent b.failed b.voters (t + 1)) (sym c.add.ensures)
    (sent_more b.sent b.failed b.voters t within)
