-- What was read of the vote lists: of each service, so many texts from the first on.
use Rattle.std.specs.Prelude.{◌≡◌, ◌⊎◌, ℕ, ◌≤◌, List, [], ◌∷◌, ◌++◌, slice_set, slice_index_or}
use Rattle.ms_record.specs.declared.ballot.Ballot.{Ballot}
use Rattle.ms_record.specs.declared.entry.Entry.{Entry}
use Rattle.ms_record.specs.declared.record.Record.{Record}
use Rattle.ms_record.specs.Votes.{IsTaken}

-- the list of that service goes on by a text
abbrev pub heard_more : List (List (List ℕ)) → ℕ → List ℕ → List (List (List ℕ))
heard_more lists service text = slice_set lists service (slice_index_or lists service [] ++ text ∷ [])

-- the greatest position with a taken Accept, 0 without one
pub record IsGreatestSeen (votes : ℕ → List Record) (seen : ℕ) : Type 0 where
  pub none_above : (service place position : ℕ) (b : Ballot) (e : Entry) → IsTaken (votes service) place position b e → position ≤ seen
  pub stands : (seen ≡ 0) ⊎ ((service place : ℕ) × (b : Ballot) × (e : Entry) × IsTaken (votes service) place seen b e)
