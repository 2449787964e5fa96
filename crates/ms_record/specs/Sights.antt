-- What a reading of one vote list shows of the bid of a ballot at a position.
use Rattle.std.specs.Prelude.{◌≡◌, ℕ, Bool, true, false, List, Option, None}
use Rattle.ms_record.specs.declared.ballot.Ballot.{Ballot}
use Rattle.ms_record.specs.declared.ballot.Vote.{Vote}
use Rattle.ms_record.specs.declared.entry.Entry.{Entry}
use Rattle.ms_record.specs.declared.record.Record.{Record}
use Rattle.ms_record.specs.declared.sight.Sight.{Sight}
use Rattle.ms_record.specs.Acceptors.{IsTop}
use Rattle.ms_record.specs.Offers.{IsFirstPromised}
use Rattle.ms_record.specs.Votes.{IsPromised, IsTaken, IsBest}

-- the Best before the first promised Prepare of the ballot; none, and no Best, where no Prepare of it is promised
abbrev pub ShowsPromise : List Record → ℕ → Ballot → Bool → Option Vote → Type 0
ShowsPromise records position ballot true best = (place : ℕ) × IsFirstPromised records place position ballot × IsBest records position place best
ShowsPromise records position ballot false best = ((place : ℕ) → IsPromised records place position ballot → ⊥) × (best ≡ None)

-- whether an Accept of the ballot is taken
abbrev pub ShowsTaken : List Record → ℕ → Ballot → Bool → Type 0
ShowsTaken records position ballot true = (place : ℕ) × (entry : Entry) × IsTaken records place position ballot entry
ShowsTaken records position ballot false = (place : ℕ) (entry : Entry) → IsTaken records place position ballot entry → ⊥

-- this is what the list shows
pub record IsSight (records : List Record) (position : ℕ) (ballot : Ballot) (sight : Sight) : Type 0 where
  pub promise : ShowsPromise records position ballot sight.promised sight.best
  pub taken : ShowsTaken records position ballot sight.taken
  pub top : IsTop records position sight.top
