-- What votes in order show at a position.
use Rattle.std.specs.Prelude.{◌≡◌, ◌≢◌, ℕ, ◌+◌, ◌*◌, ◌<◌, ◌≤◌, ◌==◌, ◌&&◌, Bool, false, List, Option, Some, slice_get, length, count_by, bytes_eq}
use Rattle.std.specs.Ordering.{nat_cmp, is_lt}
use Rattle.std.specs.Cmp.Lexicographic.{slice_cmp}
use Rattle.std.specs.List.{list_any}
use Rattle.ms_record.specs.declared.ballot.Ballot.{Ballot}
use Rattle.ms_record.specs.declared.ballot.Vote.{Vote}
use Rattle.ms_record.specs.declared.entry.Entry.{Entry}
use Rattle.ms_record.specs.declared.record.Record.TheVariants.{Accept}
use Rattle.ms_record.specs.Ballots.{IsAtMost}
use Rattle.ms_record.specs.Reading.{record_at}
use Rattle.ms_replay.specs.declared.voted.Voted.{Voted}
use Rattle.ms_replay.specs.declared.standing.Standing.{Standing}
use Rattle.ms_replay.specs.declared.standing.Standing.TheVariants.{Chosen, Split}
use Rattle.ms_replay.specs.Standings.{Differs, IsNoLater}
use Rattle.ms_replay.specs.Tallies.{IsVote, vote_cmp}

-- votes of one position, in order
pub record AreHere (position : ℕ) (part : List Voted) : Type 0 where
  pub votes : (i : ℕ) (v : Voted) → slice_get part i ≡ Some v → IsVote v
  pub here : (i : ℕ) (v : Voted) → slice_get part i ≡ Some v → v.position ≡ position
  pub order : (i j : ℕ) (v w : Voted) → i ≤ j → slice_get part i ≡ Some v → slice_get part j ≡ Some w → is_lt (vote_cmp w v) ≡ false

-- the votes from one place up to another have one text, which the vote behind them has not
pub record IsGroup (part : List Voted) (from to : ℕ) : Type 0 where
  pub some : from < to
  pub within : to ≤ length part
  pub same : (i : ℕ) (v w : Voted) → from ≤ i → i < to → slice_get part i ≡ Some v → slice_get part from ≡ Some w → v.text ≡ w.text
  pub ends : (v w : Voted) → slice_get part to ≡ Some v → slice_get part from ≡ Some w → v.text ≢ w.text

-- one of the votes is of this service
abbrev pub has_voted : List Voted → ℕ → Bool
has_voted group s = list_any (λ v. v.service == s) group

-- one of the votes has this text and is of this service
abbrev pub has_text : List Voted → List ℕ → ℕ → Bool
has_text part text s = list_any (λ v. bytes_eq v.text text && (v.service == s)) part

-- more than half of the voters have a vote of this text
abbrev pub HasMajority : List Voted → List ℕ → List ℕ → Type 0
HasMajority part voters text = length voters < 2 * count_by (has_text part text) voters

-- a vote for this entry, for which more than half of the voters voted under this ballot
pub record IsWinner (part : List Voted) (voters : List ℕ) (position : ℕ) (ballot : Ballot) (entry : Entry) : Type 0 where
  pub place : ℕ
  pub vote : Voted
  pub stands : slice_get part place ≡ Some vote
  pub reads : record_at vote.text ≡ Some (Accept position ballot entry)
  pub majority : HasMajority part voters vote.text

-- of the winners that are other than the one given, the first
pub record IsFirstWinner (part : List Voted) (voters : List ℕ) (position : ℕ) (but : Option Entry) (entry : Entry) : Type 0 where
  pub ballot : Ballot
  pub winner : IsWinner part voters position ballot entry
  pub differs : Differs but entry
  pub first : (c : Ballot) (f : Entry) → IsWinner part voters position c f → Differs but f → IsNoLater ballot entry c f

-- the vote of greatest ballot, and of those the one of least bytes
pub record IsGreatestHere (part : List Voted) (position : ℕ) (vote : Vote) : Type 0 where
  pub place : ℕ
  pub voted : Voted
  pub stands : slice_get part place ≡ Some voted
  pub reads : record_at voted.text ≡ Some (Accept position vote.ballot vote.entry)
  pub greatest : (i : ℕ) (v : Voted) → slice_get part i ≡ Some v → IsAtMost v.ballot vote.ballot
  pub least : (i : ℕ) (v : Voted) → slice_get part i ≡ Some v → v.ballot ≡ vote.ballot → is_lt (slice_cmp nat_cmp v.text voted.text) ≡ false

-- what stands beside the first winner
abbrev pub StandsBeside : List Voted → List ℕ → ℕ → Entry → Standing → Type 0
StandsBeside part voters position first (Chosen entry) = (entry ≡ first) × ((b : Ballot) (e : Entry) → IsWinner part voters position b e → e ≡ first)
StandsBeside part voters position first (Split one second) = (one ≡ first) × IsFirstWinner part voters position (Some first) second
StandsBeside part voters position first _ = ⊥
