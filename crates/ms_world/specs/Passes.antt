-- What one pass over a list of votes keeps, and what the votes of several lists come to.
use Rattle.std.specs.Prelude.{◌≡◌, ℕ, ◌≤◌, Bool, true, List, [], Option, Some, None, length, slice_get, slice_index_or, count_by, Contains}
use Rattle.ms_record.specs.declared.acceptor.Acceptor.{Acceptor}
use Rattle.ms_record.specs.declared.ballot.Ballot.{Ballot}
use Rattle.ms_record.specs.declared.ballot.Vote.{Vote}
use Rattle.ms_record.specs.declared.entry.Entry.{Entry}
use Rattle.ms_record.specs.declared.record.Record.{Record}
use Rattle.ms_record.specs.Acceptors.{IsAcceptorOf}
use Rattle.ms_record.specs.Ballots.{IsAtMost}
use Rattle.ms_record.specs.declared.sight.Sight.{Sight}
use Rattle.ms_record.specs.Sights.{IsSight}
use Rattle.ms_record.specs.Votes.{IsTaken, IsMajority, services_below}

-- the ballots of the votes do not fall
abbrev pub AreRising : List Vote → Type 0
AreRising votes = (i j : ℕ) (v w : Vote) → i ≤ j → slice_get votes i ≡ Some v → slice_get votes j ≡ Some w → IsAtMost v.ballot w.ballot

-- the votes are the Accepts that are taken at the position
pub record AreTaken (records : List Record) (position : ℕ) (votes : List Vote) : Type 0 where
  pub taken : (vote : Vote) → Contains votes vote → (place : ℕ) × IsTaken records place position vote.ballot vote.entry
  pub kept : (place : ℕ) (b : Ballot) (e : Entry) → IsTaken records place position b e → Contains votes (record { ballot = b; entry = e })
  pub rising : AreRising votes

-- the acceptor has read these records, and the votes are the Accepts that are taken
pub record IsReadOf (records : List Record) (acceptor : Acceptor) (votes : List Vote) : Type 0 where
  pub read : IsAcceptorOf records acceptor
  pub are_taken : AreTaken records acceptor.position votes

-- more than half of the lists have the vote
pub record HaveMost (lists : List (List Vote)) (vote : Vote) : Type 0 where
  pub part : ℕ → Bool
  pub majority : IsMajority part (services_below (length lists))
  pub have : (s : ℕ) → part s ≡ true → Contains (slice_index_or lists s []) vote

-- the list at this place shows this Best
abbrev pub ShowsBest : List Sight → ℕ → Vote → Type 0
ShowsBest seen s vote = (sight : Sight) × (slice_get seen s ≡ Some sight) × (sight.best ≡ Some vote)

-- of the Bests that were seen, that of greatest ballot, the first of several
pub record IsFirstGreatest (seen : List Sight) (vote : Vote) : Type 0 where
  pub service : ℕ
  pub has : ShowsBest seen service vote
  pub greatest : (s : ℕ) (v : Vote) → ShowsBest seen s v → IsAtMost v.ballot vote.ballot
  pub least : (s : ℕ) (v : Vote) → ShowsBest seen s v → v.ballot ≡ vote.ballot → service ≤ s

-- the greatest of the Bests that were seen; none where there is no Best
abbrev pub IsGreatestSeen : List Sight → Option Vote → Type 0
IsGreatestSeen seen None = (s : ℕ) (v : Vote) → ShowsBest seen s v → ⊥
IsGreatestSeen seen (Some vote) = IsFirstGreatest seen vote

-- of the first n lists so many show a promised Prepare of the ballot, and this is the greatest of their Bests
pub record ArePromises (votes : ℕ → List Record) (position : ℕ) (ballot : Ballot) (n count : ℕ) (greatest : Option Vote) : Type 0 where
  pub seen : List Sight
  pub each : length seen ≡ n
  pub shown : (s : ℕ) (sight : Sight) → slice_get seen s ≡ Some sight → IsSight (votes s) position ballot sight
  pub count_is : count ≡ count_by (λ (sight : Sight). sight.promised) seen
  pub greatest_is : IsGreatestSeen seen greatest
