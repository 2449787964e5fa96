use Rattle.std.proofs.Common.{◌≡◌, ◌+◌, ◌-◌, ◌<◌, ap, subst, arith}
use Rattle.ms_bid.specs.declared.act.Act.{Act}
use Rattle.ms_bid.specs.declared.act.Act.TheVariants.{Look}
use Rattle.ms_bid.specs.declared.bid.Bid.{Bid}
use Rattle.ms_bid.specs.Bids.{IsPending, acts_left, left_at, rounds_left}
use Rattle.ms_bid.proofs.bid.Bid.take.Goals as goal

pub returns-in-Look-Failed-clause-left : goal.returns-in-Look-Failed-clause-left
returns-in-Look-Failed-clause-left c =
    let b = c.args.self.now in
    let s = c.in-Look-Failed.service in
    let pending : IsPending b (Look s) = subst (λ (a : Act). IsPending b a) c.in-Look-Failed.is-0 c.requires.pending in
    let within : s.0 < 16 = c.requires.framed.below s.0 pending.0.votes in
    let before : acts_left b ≡ rounds_left b.offer + (16 - s.0) = ap (λ (a : Act). left_at b.offer a) c.in-Look-Failed.is-0 in
    let same : rounds_left c.note_failed-in-Look-Failed.new.self.offer ≡ rounds_left b.offer = ap (λ (x : Bid). rounds_left x.offer) c.note_failed-in-Look-Failed.ensures.is in
    omega (arith, c.looks_from-in-Look-Failed.ensures.left, same, before, within)
