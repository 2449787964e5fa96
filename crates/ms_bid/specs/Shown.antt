-- What the sights of services show together: the Best of greatest ballot, and whether a majority shows what is sought.
use Rattle.std.specs.Prelude.{◌≡◌, ℕ, ◌*◌, ◌<◌, ◌≤◌, Bool, false, List, Option, Some, None, length, slice_index_or, count_by, if◌then◌else◌}
use Rattle.ms_record.specs.declared.ballot.Vote.{Vote}
use Rattle.ms_record.specs.Ballots.{IsAtMost}
use Rattle.ms_record.specs.declared.sight.Sight.{Sight}
use Rattle.ms_bid.specs.declared.sight.Sought.{Sought}
use Rattle.ms_bid.specs.declared.sight.Sought.TheVariants.{Promise, Taken}

-- what was seen of the service with this number
abbrev pub sight_at : List (Option Sight) → ℕ → Option Sight
sight_at sights s = slice_index_or sights s None

-- whether a sight shows what is sought
abbrev pub shows : Sought → Option Sight → Bool
shows sought None = false
shows Promise (Some sight) = sight.promised
shows Taken (Some sight) = sight.taken

-- more than half of the voters show it
abbrev pub Most : Sought → List (Option Sight) → List ℕ → Type 0
Most sought sights voters = length voters < 2 * count_by (λ (s : ℕ). shows sought (sight_at sights s)) voters

-- the Best before the promised Prepare that a sight shows
abbrev pub shown_best : Option Sight → Option Vote
shown_best None = None
shown_best (Some sight) = if sight.promised then sight.best else None

-- among the services below n: this Best is the greatest, at the least service of several
pub record IsGreatestBest (sights : List (Option Sight)) (n : ℕ) (vote : Vote) : Type 0 where
  pub service : ℕ
  pub below : service < n
  pub has : shown_best (sight_at sights service) ≡ Some vote
  pub greatest : (s : ℕ) (v : Vote) → s < n → shown_best (sight_at sights s) ≡ Some v → IsAtMost v.ballot vote.ballot
  pub least : (s : ℕ) (v : Vote) → s < n → shown_best (sight_at sights s) ≡ Some v → v.ballot ≡ vote.ballot → service ≤ s

abbrev pub GreatestUpTo : List (Option Sight) → ℕ → Option Vote → Type 0
GreatestUpTo sights n None = (s : ℕ) (v : Vote) → s < n → shown_best (sight_at sights s) ≡ Some v → ⊥
GreatestUpTo sights n (Some vote) = IsGreatestBest sights n vote
