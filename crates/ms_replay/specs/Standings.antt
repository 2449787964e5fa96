-- What the lists of some services show at a position.
use Rattle.std.specs.Prelude.{◌≡◌, ◌≢◌, ℕ, false, List, Option, Some, None, Contains}
use Rattle.std.specs.Ordering.{nat_cmp, is_lt}
use Rattle.std.specs.Cmp.Lexicographic.{slice_cmp}
use Rattle.ms_record.specs.declared.ballot.Ballot.{Ballot}
use Rattle.ms_record.specs.declared.ballot.Vote.{Vote}
use Rattle.ms_record.specs.declared.entry.Entry.{Entry}
use Rattle.ms_record.specs.declared.record.Record.{Record}
use Rattle.ms_record.specs.Ballots.{IsAtMost}
use Rattle.ms_record.specs.Entries.{entry_text}
use Rattle.ms_record.specs.Votes.{IsTaken, ChosenBy}
use Rattle.ms_replay.specs.declared.standing.Standing.{Standing}
use Rattle.ms_replay.specs.declared.standing.Standing.TheVariants.{Unseen, Seen, Chosen, Split}

-- the bytes of the one entry come before those of the other, or are the same
abbrev pub IsTextAtMost : Entry → Entry → Type 0
IsTextAtMost e f = is_lt (slice_cmp nat_cmp (entry_text f) (entry_text e)) ≡ false

-- a smaller ballot, or the same and at most the other's bytes
abbrev pub IsNoLater : Ballot → Entry → Ballot → Entry → Type 0
IsNoLater b e c f = IsAtMost b c × (c ≡ b → IsTextAtMost e f)

-- no list of these services has a taken Accept at the position
abbrev pub NoneTaken : (ℕ → List Record) → List ℕ → ℕ → Type 0
NoneTaken lists services position = (s place : ℕ) (b : Ballot) (e : Entry) → Contains services s → IsTaken (lists s) place position b e → ⊥

-- a taken Accept of greatest ballot, and of those the one of least bytes
pub record IsGreatestVote (lists : ℕ → List Record) (services : List ℕ) (position : ℕ) (vote : Vote) : Type 0 where
  pub service : ℕ
  pub one : Contains services service
  pub place : ℕ
  pub taken : IsTaken (lists service) place position vote.ballot vote.entry
  pub greatest : (s p : ℕ) (b : Ballot) (e : Entry) → Contains services s → IsTaken (lists s) p position b e → IsAtMost b vote.ballot
  pub least : (s p : ℕ) (e : Entry) → Contains services s → IsTaken (lists s) p position vote.ballot e → IsTextAtMost vote.entry e

abbrev pub NoneChosen : (ℕ → List Record) → List ℕ → ℕ → Type 0
NoneChosen lists voters position = (e : Entry) → ChosenBy lists voters position e → ⊥

-- another than the one given, if one is
abbrev pub Differs : Option Entry → Entry → Type 0
Differs None e = Unit {0}
Differs (Some f) e = e ≢ f

-- it is the one given
abbrev pub IsGiven : Option Entry → Entry → Type 0
IsGiven None e = ⊥
IsGiven (Some f) e = e ≡ f

-- of the chosen entries other than the one given, that of least ballot, and of those the one of least bytes
pub record IsFirstChosen (lists : ℕ → List Record) (voters : List ℕ) (position : ℕ) (but : Option Entry) (entry : Entry) : Type 0 where
  pub chosen : ChosenBy lists voters position entry
  pub differs : Differs but entry
  pub first : (f : Entry) (other : ChosenBy lists voters position f) → Differs but f → IsNoLater chosen.ballot entry other.ballot f

-- each chosen entry is this one
abbrev pub IsOnlyChosen : (ℕ → List Record) → List ℕ → ℕ → Entry → Type 0
IsOnlyChosen lists voters position entry = (f : Entry) → ChosenBy lists voters position f → f ≡ entry

-- What the lists of the services show at the position, where these of them vote: the greatest vote of all lists, and
-- what the voters have chosen. Exactly one of the four holds.
abbrev pub IsStanding : (ℕ → List Record) → List ℕ → List ℕ → ℕ → Standing → Type 0
IsStanding lists services voters position Unseen = NoneTaken lists services position
IsStanding lists services voters position (Seen vote) = IsGreatestVote lists services position vote × NoneChosen lists voters position
IsStanding lists services voters position (Chosen entry) = ChosenBy lists voters position entry × IsOnlyChosen lists voters position entry
IsStanding lists services voters position (Split first second) = IsFirstChosen lists voters position None first × IsFirstChosen lists voters position (Some first) second
