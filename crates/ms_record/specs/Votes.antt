-- What a vote list shows: promised Prepares, taken Accepts, the Best before a place; and from the
-- lists of several services, which entry is chosen.
use Rattle.std.specs.Prelude.{◌≡◌, ℕ, ◌*◌, ◌<◌, ◌≤◌, Bool, true, List, Option, Some, None, length, slice_get, count_by, Contains}
use Rattle.std.specs.List.{range_with_len}
use Rattle.ms_record.specs.declared.ballot.Ballot.{Ballot}
use Rattle.ms_record.specs.declared.ballot.Vote.{Vote}
use Rattle.ms_record.specs.declared.entry.Entry.{Entry}
use Rattle.ms_record.specs.declared.record.Record.{Record}
use Rattle.ms_record.specs.declared.record.Record.TheVariants.{Prepare, Accept}
use Rattle.ms_record.specs.Ballots.{IsAtMost}

abbrev pub position_of : Record → ℕ
position_of (Prepare k b) = k
position_of (Accept k b e) = k

abbrev pub ballot_of : Record → Ballot
ballot_of (Prepare k b) = b
ballot_of (Accept k b e) = b

-- no record of the list before this place, at this position, has a greater ballot
abbrev pub NoneAbove : List Record → ℕ → ℕ → Ballot → Type 0
NoneAbove records place position ballot =
    (i : ℕ) (r : Record) → i < place → slice_get records i ≡ Some r → position_of r ≡ position → IsAtMost (ballot_of r) ballot

-- at this place stands a Prepare, and no greater ballot at its position before it
pub record IsPromised (records : List Record) (place position : ℕ) (ballot : Ballot) : Type 0 where
  pub stands : slice_get records place ≡ Some (Prepare position ballot)
  pub none_above : NoneAbove records place position ballot

-- at this place stands an Accept, and no greater ballot at its position before it
pub record IsTaken (records : List Record) (place position : ℕ) (ballot : Ballot) (entry : Entry) : Type 0 where
  pub stands : slice_get records place ≡ Some (Accept position ballot entry)
  pub none_above : NoneAbove records place position ballot

-- a taken Accept before the place; each other one is of a smaller ballot, or of the same and not behind it
pub record IsGreatestTaken (records : List Record) (position place : ℕ) (vote : Vote) : Type 0 where
  pub at : ℕ
  pub before : at < place
  pub taken : IsTaken records at position vote.ballot vote.entry
  pub greatest : (i : ℕ) (b : Ballot) (e : Entry) → i < place → IsTaken records i position b e → IsAtMost b vote.ballot
  pub last : (i : ℕ) (e : Entry) → i < place → IsTaken records i position vote.ballot e → i ≤ at

-- the Best at a position before a place
abbrev pub IsBest : List Record → ℕ → ℕ → Option Vote → Type 0
IsBest records position place None = (i : ℕ) (b : Ballot) (e : Entry) → i < place → IsTaken records i position b e → ⊥
IsBest records position place (Some vote) = IsGreatestTaken records position place vote

-- a part of the voters, with more than half of them
pub record IsMajority (part : ℕ → Bool) (voters : List ℕ) : Type 0 where
  pub within : (s : ℕ) → part s ≡ true → Contains voters s
  pub more_than_half : length voters < 2 * count_by part voters

-- under one ballot, the lists of a majority of the voters have a taken Accept of this entry
pub record ChosenBy (votes : ℕ → List Record) (voters : List ℕ) (position : ℕ) (entry : Entry) : Type 0 where
  pub ballot : Ballot
  pub part : ℕ → Bool
  pub majority : IsMajority part voters
  pub taken : (s : ℕ) → part s ≡ true → (place : ℕ) × IsTaken (votes s) place position ballot entry

-- the services are numbered from 0
abbrev pub services_below : ℕ → List ℕ
services_below n = range_with_len 0 n

-- Accepts of one ballot at one position have one entry
abbrev pub HaveOne : (ℕ → List Record) → Type 0
HaveOne votes = (s t i j k : ℕ) (b : Ballot) (e f : Entry) → slice_get (votes s) i ≡ Some (Accept k b e) → slice_get (votes t) j ≡ Some (Accept k b f) → e ≡ f
