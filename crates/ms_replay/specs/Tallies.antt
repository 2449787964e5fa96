-- What a tally keeps of the vote lists that it has read.
use Rattle.std.specs.Prelude.{◌≡◌, ℕ, ◌<◌, ◌==◌, List, [], ◌++◌, Option, Some, None, length, slice_get, slice_index_or, unwrap_or, if◌then◌else◌}
use Rattle.std.specs.declared.cmp.Ordering.{Ordering}
use Rattle.std.specs.Ordering.{ordering_then, nat_cmp, is_lt}
use Rattle.std.specs.Cmp.Lexicographic.{slice_cmp}
use Rattle.std.specs.List.Sorted.{IsSortedBy}
use Rattle.std.specs.Map.{lookup}
use Rattle.std.specs.BTreeMap.{is_at}
use Rattle.ms_record.specs.declared.ballot.Ballot.{Ballot}
use Rattle.ms_record.specs.declared.entry.Entry.{Entry}
use Rattle.ms_record.specs.declared.record.Record.{Record}
use Rattle.ms_record.specs.declared.record.Record.TheVariants.{Accept}
use Rattle.ms_record.specs.Reading.{record_at, with_record}
use Rattle.ms_record.specs.Records.{IsPosition, record_text}
use Rattle.ms_record.specs.Votes.{position_of, IsTaken}
use Rattle.ms_replay.specs.declared.voted.Voted.{Voted}
use Rattle.ms_record.specs.Acceptors.{IsTop}

-- what the lists show at one position: of each service the greatest ballot, and the votes that were taken
pub record PlaceView : Type 0 where
  pub tops : List (Option Ballot)
  pub votes : List Voted

-- how many services there are, and what their lists show, by the positions
pub record TallyView : Type 0 where
  pub services : ℕ
  pub places : List (ℕ × PlaceView)

-- what lists without records of a position show there
abbrev pub nothing_there : PlaceView
nothing_there = record { tops = []; votes = [] }

abbrev pub found_at : List (ℕ × PlaceView) → ℕ → Option PlaceView
found_at places k = lookup (is_at (nat_cmp k)) places

abbrev pub place_at : List (ℕ × PlaceView) → ℕ → PlaceView
place_at places k = unwrap_or (found_at places k) nothing_there

-- the greatest ballot of a service
abbrev pub top_of : PlaceView → ℕ → Option Ballot
top_of place service = slice_index_or place.tops service None

-- votes are ordered by position, ballot and the bytes of their record
abbrev pub vote_cmp : Voted → Voted → Ordering
vote_cmp v w =
    ordering_then (nat_cmp v.position w.position) (ordering_then (nat_cmp v.ballot.round w.ballot.round)
    (ordering_then (nat_cmp v.ballot.client.0 w.ballot.client.0) (slice_cmp nat_cmp v.text w.text)))

abbrev pub AreSorted : List Voted → Type 0
AreSorted votes = IsSortedBy (λ v w. is_lt (vote_cmp v w)) votes

-- the vote's text is that of an Accept of its position and ballot
pub record IsVote (v : Voted) : Type 0 where
  pub entry : Entry
  pub reads : record_at v.text ≡ Some (Accept v.position v.ballot entry)
  pub spells : v.text ≡ record_text (Accept v.position v.ballot entry)

abbrev pub AreVotes : List Voted → Type 0
AreVotes votes = (i : ℕ) (v : Voted) → slice_get votes i ≡ Some v → IsVote v

-- they are of services below this number
abbrev pub AreKnown : ℕ → List Voted → Type 0
AreKnown services votes = (i : ℕ) (v : Voted) → slice_get votes i ≡ Some v → v.service < services

-- a vote of the service for this entry
pub record HasVote (votes : List Voted) (service position : ℕ) (ballot : Ballot) (entry : Entry) : Type 0 where
  pub place : ℕ
  pub vote : Voted
  pub stands : slice_get votes place ≡ Some vote
  pub service_is : vote.service ≡ service
  pub reads : record_at vote.text ≡ Some (Accept position ballot entry)

-- what stands at the position of a service is what its list shows there
pub record IsPlaceOf (service : ℕ) (records : List Record) (position : ℕ) (place : PlaceView) : Type 0 where
  pub top : IsTop records position (top_of place service)
  pub taken : (b : Ballot) (e : Entry) → HasVote place.votes service position b e → (p : ℕ) × IsTaken records p position b e
  pub kept : (p : ℕ) (b : Ballot) (e : Entry) → IsTaken records p position b e → HasVote place.votes service position b e

-- the tally has read these lists of its services, and no more
pub record IsTallyOf (lists : ℕ → List Record) (t : TallyView) : Type 0 where
  pub positions : (s place : ℕ) (r : Record) → s < t.services → slice_get (lists s) place ≡ Some r → IsPosition (position_of r)
  pub places : (s k : ℕ) → s < t.services → IsPlaceOf s (lists s) k (place_at t.places k)

-- the list of a service goes on by these records
abbrev pub goes_on : (ℕ → List Record) → ℕ → List Record → ℕ → List Record
goes_on lists service more s = if s == service then lists s ++ more else lists s

-- the position at which the record, behind the others, is an Accept that is taken; none where it is no such
abbrev pub IsVotedAt : List Record → Option Record → Option ℕ → Type 0
IsVotedAt records message None = (k : ℕ) (b : Ballot) (e : Entry) → IsTaken (records ++ with_record message []) (length records) k b e → ⊥
IsVotedAt records message (Some k) = (b : Ballot) × (e : Entry) × IsTaken (records ++ with_record message []) (length records) k b e
