use Rattle.std.proofs.Common.{sym, subst}
use Rattle.ms_record.specs.Votes.{services_below}
use Rattle.ms_replay.specs.declared.standing.Standing.TheVariants.{Unseen, Seen}
use Rattle.ms_replay.specs.Standings.{IsStanding}
use Rattle.ms_replay.specs.Tallies.{TallyView, IsTallyOf}
use Rattle.ms_replay.specs.TallyInside.{view_of}
use Rattle.ms_replay.proofs.Choosing.{AreBelow, shows_here, none_is, greatest_is, unseen_is, beside_is}
use Rattle.ms_replay.proofs.PlacesKept.{votes_here}
use Rattle.ms_replay.proofs.tally.Tally.chosen.Goals as goal

pub first_chosen-requires : goal.first_chosen-requires
first_chosen-requires c =
    votes_here c.self.inside.places c.args.position c.votes_at-here.result.now c.votes_at-here.ensures c.self.invariant.kept c.self.invariant.sorted

pub chosen_beside-requires : goal.chosen_beside-requires
chosen_beside-requires c =
    votes_here c.self.inside.places c.args.position c.votes_at-here.result.now c.votes_at-here.ensures c.self.invariant.kept c.self.invariant.sorted

pub greatest_vote-requires : goal.greatest_vote-requires
greatest_vote-requires c =
    votes_here c.self.inside.places c.args.position c.votes_at-here.result.now c.votes_at-here.ensures c.self.invariant.kept c.self.invariant.sorted

pub returns-in-Some : goal.returns-in-Some
returns-in-Some c = λ lists h.
    let k = c.args.position in
    let here = c.votes_at-here.result.now in
    let below : AreBelow c.self.inside.places.services c.args.voters.now = subst (λ (t : TallyView). AreBelow t.services c.args.voters.now) (sym c.self.view_is) c.requires.known in
    let shows = shows_here lists (view_of c.self.inside) k here c.votes_at-here.ensures (subst (λ (t : TallyView). IsTallyOf lists t) (sym c.self.view_is) h) c.self.invariant.kept in
    subst (λ (t : TallyView). IsStanding lists (services_below t.services) c.args.voters.now k c.chosen_beside.result) c.self.view_is
    (beside_is c.self.inside.places.services k c.args.voters.now lists here c.in-Some.first c.chosen_beside.result below shows c.in-Some.ensures.some c.chosen_beside.ensures)

pub returns-in-Some-greatest_vote : goal.returns-in-Some-greatest_vote
returns-in-Some-greatest_vote c = λ lists h.
    let k = c.args.position in
    let here = c.votes_at-here.result.now in
    let below : AreBelow c.self.inside.places.services c.args.voters.now = subst (λ (t : TallyView). AreBelow t.services c.args.voters.now) (sym c.self.view_is) c.requires.known in
    let shows = shows_here lists (view_of c.self.inside) k here c.votes_at-here.ensures (subst (λ (t : TallyView). IsTallyOf lists t) (sym c.self.view_is) h) c.self.invariant.kept in
    subst (λ (t : TallyView). IsStanding lists (services_below t.services) c.args.voters.now k (Seen c.in-Some-greatest_vote.vote)) c.self.view_is
    (greatest_is c.self.inside.places.services k lists here c.in-Some-greatest_vote.vote shows c.in-Some-greatest_vote.ensures.some, none_is c.self.inside.places.services k c.args.voters.now lists here below shows c.in-None.ensures.none)

pub returns-in-None-greatest_vote : goal.returns-in-None-greatest_vote
returns-in-None-greatest_vote c = λ lists h.
    let k = c.args.position in
    let here = c.votes_at-here.result.now in
    let below : AreBelow c.self.inside.places.services c.args.voters.now = subst (λ (t : TallyView). AreBelow t.services c.args.voters.now) (sym c.self.view_is) c.requires.known in
    let shows = shows_here lists (view_of c.self.inside) k here c.votes_at-here.ensures (subst (λ (t : TallyView). IsTallyOf lists t) (sym c.self.view_is) h) c.self.invariant.kept in
    subst (λ (t : TallyView). IsStanding lists (services_below t.services) c.args.voters.now k Unseen) c.self.view_is
    (unseen_is c.self.inside.places.services k lists here shows c.in-None-greatest_vote.ensures.none)
