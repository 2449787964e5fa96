-- Ballots are ordered by round, then by client.
use Rattle.std.specs.Prelude.{◌≡◌, ◌<◌, ◌≤◌}
use Rattle.ms_record.specs.declared.ballot.Ballot.{Ballot}

abbrev pub IsBelow : Ballot → Ballot → Type 0
IsBelow b c = (b.round ≤ c.round) × (b.round ≡ c.round → b.client.0 < c.client.0)

abbrev pub IsAtMost : Ballot → Ballot → Type 0
IsAtMost b c = (b.round ≤ c.round) × (b.round ≡ c.round → b.client.0 ≤ c.client.0)
