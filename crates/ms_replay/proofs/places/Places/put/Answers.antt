use Rattle.std.proofs.Common.{None, [], subst}
use Rattle.ms_record.specs.Reading.{with_record}
use Rattle.ms_replay.specs.Tallies.{IsTallyOf, IsVotedAt, goes_on}
use Rattle.ms_replay.proofs.PlaceOn.{tally_skips, voted_skips}
use Rattle.ms_replay.proofs.places.Places.put.Goals as goal

pub returns-in-None-clause-read : goal.returns-in-None-clause-read
returns-in-None-clause-read c = λ lists h.
    subst (λ o. IsTallyOf (goes_on lists c.args.service (with_record o [])) c.args.self.now) c.in-None.ensures.exact (tally_skips lists c.args.service c.args.self.now h)

pub returns-in-None-clause-voted : goal.returns-in-None-clause-voted
returns-in-None-clause-voted c = λ lists h. subst (λ o. IsVotedAt (lists c.args.service) o None) c.in-None.ensures.exact (voted_skips (lists c.args.service))
