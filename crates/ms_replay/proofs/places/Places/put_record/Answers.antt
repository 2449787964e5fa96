use Rattle.std.proofs.Common.{◌≡◌, ℕ, sym, ap, ◌∙◌, refl, subst}
use Rattle.ms_record.specs.declared.ballot.Ballot.{Ballot}
use Rattle.ms_record.specs.declared.record.Record.{Record}
use Rattle.ms_record.specs.Acceptors.{IsTop}
use Rattle.ms_record.specs.Ballots.{IsBelow}
use Rattle.ms_record.specs.Votes.{position_of}
use Rattle.ms_replay.specs.Tallies.{place_at, top_of}
use Rattle.ms_replay.proofs.ListOn.{Counts, tally_counts, voted_counts}
use Rattle.ms_replay.proofs.PlaceOn.{tally_outbid, voted_not}
use Rattle.ms_replay.proofs.Writing.{vote_fits}
use Rattle.ms_replay.proofs.places.Places.put_record.Goals as goal

pub returns-then-is_outbid-clause-read : goal.returns-then-is_outbid-clause-read
returns-then-is_outbid-clause-read c = λ lists h.
    let y = c.if-is_outbid.ensures.yes refl in
    let places = c.args.self.now.places in
    let top = ap (λ (n : ℕ). top_of (place_at places n) c.args.service) (sym c.position-position.ensures) ∙ sym c.top.ensures ∙ y.1 in
    tally_outbid lists c.args.service c.args.message.now c.args.self.now y.0 c.requires.within c.requires.ranges top (subst (λ (b : Ballot). IsBelow b y.0) c.ballot-ballot.ensures y.2) h

pub returns-then-is_outbid-clause-voted : goal.returns-then-is_outbid-clause-voted
returns-then-is_outbid-clause-voted c = λ lists h.
    let y = c.if-is_outbid.ensures.yes refl in
    let places = c.args.self.now.places in
    let top = ap (λ (n : ℕ). top_of (place_at places n) c.args.service) (sym c.position-position.ensures) ∙ sym c.top.ensures ∙ y.1 in
    voted_not (lists c.args.service) c.args.message.now y.0 (subst (λ o. IsTop (lists c.args.service) (position_of c.args.message.now) o) top (h.places c.args.service (position_of c.args.message.now) c.requires.within).top)
    (subst (λ (b : Ballot). IsBelow b y.0) c.ballot-ballot.ensures y.2)

pub write-requires-clause-vote : goal.write-requires-clause-vote
write-requires-clause-vote c =
    vote_fits c.args.self.now.services c.args.service c.position-position.result c.args.text.now c.args.message.now c.in_ok-vote.vote c.requires.within c.requires.spells c.requires.reads c.position-position.ensures c.in_ok-vote.ensures

pub returns-clause-read : goal.returns-clause-read
returns-clause-read c = λ lists h.
    let counts : Counts lists c.args.service c.args.message.now c.args.self.now c.position-position.result c.ballot-ballot.result =
    record { position = c.position-position.ensures; ballot = c.ballot-ballot.ensures; up = λ b e. c.if-is_outbid.ensures.no refl b (c.top.ensures ∙ e) } in
    tally_counts lists c.args.service c.args.message.now c.args.text.now c.args.self.now c.write.new.self c.position-position.result c.ballot-ballot.result c.in_ok-vote.vote c.in_ok-put.put.vote counts c.requires.within
    c.in_ok-put.ensures.services c.requires.ranges c.in_ok-vote.ensures c.requires.reads c.in_ok-put.ensures.writes h

pub returns-clause-voted : goal.returns-clause-voted
returns-clause-voted c = λ lists h.
    let counts : Counts lists c.args.service c.args.message.now c.args.self.now c.position-position.result c.ballot-ballot.result =
    record { position = c.position-position.ensures; ballot = c.ballot-ballot.ensures; up = λ b e. c.if-is_outbid.ensures.no refl b (c.top.ensures ∙ e) } in
    voted_counts lists c.args.service c.args.message.now c.args.text.now c.args.self.now c.write.new.self c.position-position.result c.in_ok-put.put.position c.ballot-ballot.result c.in_ok-vote.vote c.in_ok-put.put.vote counts
    c.requires.within c.in_ok-put.ensures.position c.in_ok-vote.ensures c.in_ok-put.ensures.writes h
