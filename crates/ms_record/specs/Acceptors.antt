-- What an acceptor of one position keeps of the records that it was fed, and what it says of one more.
use Rattle.std.specs.Prelude.{◌≡◌, ◌≢◌, ℕ, List, [], ◌∷◌, ◌++◌, Option, Some, None, length, slice_get}
use Rattle.ms_record.specs.declared.ballot.Ballot.{Ballot}
use Rattle.ms_record.specs.declared.entry.Entry.{Entry}
use Rattle.ms_record.specs.declared.record.Record.{Record}
use Rattle.ms_record.specs.Ballots.{IsBelow}
use Rattle.ms_record.specs.Votes.{position_of, ballot_of, NoneAbove, IsPromised, IsTaken, IsBest}
use Rattle.ms_record.specs.declared.acceptor.Acceptor.{Acceptor}
use Rattle.ms_record.specs.declared.acceptor.Verdict.{Verdict}
use Rattle.ms_record.specs.declared.acceptor.Verdict.TheVariants.{Promised, Taken, Outbid, Elsewhere}

-- a record of this position has this ballot, and none has a greater one
pub record IsGreatestBallot (records : List Record) (position : ℕ) (ballot : Ballot) : Type 0 where
  pub place : ℕ
  pub message : Record
  pub stands : slice_get records place ≡ Some message
  pub here : position_of message ≡ position
  pub ballot_is : ballot_of message ≡ ballot
  pub greatest : NoneAbove records (length records) position ballot

-- the greatest ballot at a position; none where no record is of it
abbrev pub IsTop : List Record → ℕ → Option Ballot → Type 0
IsTop records position None = (i : ℕ) (r : Record) → slice_get records i ≡ Some r → position_of r ≢ position
IsTop records position (Some ballot) = IsGreatestBallot records position ballot

-- the acceptor has read these records
pub record IsAcceptorOf (records : List Record) (a : Acceptor) : Type 0 where
  pub top_is : IsTop records a.position a.top
  pub best_is : IsBest records a.position (length records) a.best

-- the record is a Prepare that is promised behind the others
pub record PromisesNext (records : List Record) (message : Record) (position : ℕ) : Type 0 where
  pub ballot : Ballot
  pub promised : IsPromised (records ++ message ∷ []) (length records) position ballot

-- the record is an Accept that is taken behind the others
pub record TakesNext (records : List Record) (message : Record) (position : ℕ) : Type 0 where
  pub ballot : Ballot
  pub entry : Entry
  pub taken : IsTaken (records ++ message ∷ []) (length records) position ballot entry

-- what the record counts as behind the others, for the acceptor of this position
abbrev pub IsVerdict : List Record → Record → ℕ → Verdict → Type 0
IsVerdict records message position (Promised best) = PromisesNext records message position × IsBest records position (length records) best
IsVerdict records message position Taken = TakesNext records message position
IsVerdict records message position (Outbid top) = (position_of message ≡ position) × IsGreatestBallot records position top × IsBelow (ballot_of message) top
IsVerdict records message position Elsewhere = position_of message ≢ position
