use Rattle.std.proofs.Common.{◌+◌, ◌<◌, List, Option, length, subst, sym, arith}
use Rattle.ms_record.specs.declared.sight.Sight.{Sight}
use Rattle.ms_bid.specs.Ends.{AllSeen}
use Rattle.ms_bid.specs.Bids.{IsFramed, NoneSeenFrom, seen_of}
use Rattle.ms_bid.proofs.Noting.{looks_first, looks_second, framed_first, framed_second, unseen_first, unseen_second}
use Rattle.ms_bid.proofs.bid.Bid.note_sight.Goals as goal

pub add-requires : goal.add-requires
add-requires c = omega (arith, c.requires.framed.below c.args.service.0 c.requires.votes, c.requires.framed.first_many)

pub add-requires-in-Some : goal.add-requires-in-Some
add-requires-in-Some c = omega (arith, c.requires.framed.below c.args.service.0 c.requires.votes, c.requires.framed.second_many)

pub returns-in-None-clause-framed : goal.returns-in-None-clause-framed
returns-in-None-clause-framed c =
    let b = c.args.self.now in
    subst (λ (looks : List (Option Sight)). IsFramed (record b { first_looks = looks })) (sym c.add.ensures) (framed_first b c.args.service.0 c.args.sight c.requires.framed c.requires.votes c.in-None.is c.requires.free)

pub returns-in-None-clause-looks : goal.returns-in-None-clause-looks
returns-in-None-clause-looks c =
    let b = c.args.self.now in
    let t = c.args.service.0 in
    let within : t < length b.first_looks = omega (arith, c.requires.framed.below t c.requires.votes, c.requires.framed.first_many) in
    subst (λ (looks : List (Option Sight)). AllSeen (seen_of b.offer b.first_looks b.second_looks) b.failed b.voters t → AllSeen (seen_of b.offer looks b.second_looks) b.failed b.voters (t + 1))
    (sym c.add.ensures) (looks_first b.offer b.first_looks b.second_looks b.failed b.voters t c.args.sight c.in-None.is within)

pub returns-in-Some-clause-framed : goal.returns-in-Some-clause-framed
returns-in-Some-clause-framed c =
    let b = c.args.self.now in
    subst (λ (looks : List (Option Sight)). IsFramed (record b { second_looks = looks })) (sym c.add-in-Some.ensures) (framed_second b c.in-Some.field-0 c.args.service.0 c.args.sight c.requires.framed c.requires.votes c.in-Some.is c.requires.free)

pub returns-in-Some-clause-looks : goal.returns-in-Some-clause-looks
returns-in-Some-clause-looks c =
    let b = c.args.self.now in
    let t = c.args.service.0 in
    let within : t < length b.second_looks = omega (arith, c.requires.framed.below t c.requires.votes, c.requires.framed.second_many) in
    subst (λ (looks : List (Option Sight)). AllSeen (seen_of b.offer b.first_looks b.second_looks) b.failed b.voters t → AllSeen (seen_of b.offer b.first_looks looks) b.failed b.voters (t + 1))
    (sym c.add-in-Some.ensures) (looks_second b.offer c.in-Some.field-0 b.first_looks b.second_looks b.failed b.voters t c.args.sight c.in-Some.is within)

pub returns-in-None-clause-unseen : goal.returns-in-None-clause-unseen
returns-in-None-clause-unseen c =
    let b = c.args.self.now in
    let t = c.args.service.0 in
    subst (λ (looks : List (Option Sight)). NoneSeenFrom (seen_of b.offer b.first_looks b.second_looks) t → NoneSeenFrom (seen_of b.offer looks b.second_looks) (t + 1))
    (sym c.add.ensures) (unseen_first b.offer b.first_looks b.second_looks t c.args.sight c.in-None.is)

pub returns-in-Some-clause-unseen : goal.returns-in-Some-clause-unseen
returns-in-Some-clause-unseen c =
    let b = c.args.self.now in
    let t = c.args.service.0 in
    subst (λ (looks : List (Option Sight)). NoneSeenFrom (seen_of b.offer b.first_looks b.second_looks) t → NoneSeenFrom (seen_of b.offer b.first_looks looks) (t + 1))
    (sym c.add-in-Some.ensures) (unseen_second b.offer c.in-Some.field-0 b.first_looks b.second_looks t c.args.sight c.in-Some.is)
