-- The places of a tally, one by one: what each keeps, and what a record puts there.
use Rattle.std.specs.Prelude.{◌≡◌, ◌≢◌, ℕ, ◌≤◌, ◌<◌, Bool, List, [], Option, Some, None, IfSome, length, slice_get, set, replicate, ◌∷◌, if◌then◌else◌}
use Rattle.std.specs.List.{insert, remove}
use Rattle.std.specs.Map.{remove_entry, set_value}
use Rattle.std.specs.Ordering.{nat_cmp}
use Rattle.std.specs.BTreeMap.{is_at}
use Rattle.ms_record.specs.declared.ballot.Ballot.{Ballot}
use Rattle.ms_record.specs.declared.record.Record.{Record}
use Rattle.ms_record.specs.declared.record.Record.TheVariants.{Prepare, Accept}
use Rattle.ms_replay.specs.declared.place.Put.{Put}
use Rattle.ms_replay.specs.declared.voted.Voted.{Voted}
use Rattle.ms_replay.specs.Tallies.{PlaceView, TallyView, AreSorted, IsVote, AreVotes, AreKnown, found_at, place_at, top_of}

-- a place of so many services, of whose lists nothing was read
abbrev pub blank : ℕ → PlaceView
blank services = record { tops = replicate services None; votes = [] }

-- the votes are of this position and of services below this number
pub record IsPlace (services position : ℕ) (p : PlaceView) : Type 0 where
  pub wide : length p.tops ≡ services
  pub votes : AreVotes p.votes
  pub here : (i : ℕ) (v : Voted) → slice_get p.votes i ≡ Some v → v.position ≡ position
  pub known : AreKnown services p.votes

abbrev pub AreKept : TallyView → Type 0
AreKept t = (k : ℕ) (p : PlaceView) → found_at t.places k ≡ Some p → IsPlace t.services k p

abbrev pub AreInOrder : TallyView → Type 0
AreInOrder t = (k : ℕ) (p : PlaceView) → found_at t.places k ≡ Some p → AreSorted p.votes

-- the vote of an Accept; none of a Prepare
abbrev pub IsVoteOf : ℕ → List ℕ → Record → Option Voted → Type 0
IsVoteOf service text (Prepare k b) vote = vote ≡ None
IsVoteOf service text (Accept k b e) vote = vote ≡ Some (record { position = k; ballot = b; text = text; service = service })

-- a vote, where there is one, is of this position and of a service below this number
pub record FitsAt (services position : ℕ) (v : Voted) : Type 0 where
  pub vote : IsVote v
  pub here : v.position ≡ position
  pub known : v.service < services

abbrev pub IsVoteAt : ℕ → ℕ → Option Voted → Type 0
IsVoteAt services position vote = IfSome vote (FitsAt services position)

-- a vote, where there is one, was put in at this place
abbrev pub IsPutIn : Option Voted → Option ℕ → List Voted → List Voted → Type 0
IsPutIn None None old new = new ≡ old
IsPutIn (Some v) (Some at) old new = (at ≤ length old) × (new ≡ insert old at v)
IsPutIn None (Some at) old new = ⊥
IsPutIn (Some v) None old new = ⊥

-- the ballot of a service was raised, and a vote was put in
pub record IsRaised (service : ℕ) (ballot : Ballot) (vote : Option Voted) (at : Option ℕ) (old new : PlaceView) : Type 0 where
  pub top : top_of new service ≡ Some ballot
  pub others : (s : ℕ) → s ≢ service → top_of new s ≡ top_of old s
  pub votes : IsPutIn vote at old.votes new.votes

-- that was done at one position
pub record IsPutAt (service position : ℕ) (ballot : Ballot) (vote : Option Voted) (at : Option ℕ) (old new : List (ℕ × PlaceView)) : Type 0 where
  pub here : IsRaised service ballot vote at (place_at old position) (place_at new position)
  pub elsewhere : (k : ℕ) → k ≢ position → place_at new k ≡ place_at old k

-- ---- taking back

abbrev pub without_vote : Option ℕ → List Voted → List Voted
without_vote None votes = votes
without_vote (Some at) votes = remove votes at

-- a place before this was put there
abbrev pub lowered : ℕ → Put → PlaceView → PlaceView
lowered service put place = record { tops = set place.tops service put.before; votes = without_vote put.vote place.votes }

-- the places before this was put there
abbrev pub taken_back : ℕ → Put → List (ℕ × PlaceView) → List (ℕ × PlaceView)
taken_back service put places =
    if put.begun then remove_entry (is_at (nat_cmp put.position)) places
    else set_value (is_at (nat_cmp put.position)) places (lowered service put (place_at places put.position))

abbrev pub maybe_taken_back : ℕ → Option Put → List (ℕ × PlaceView) → List (ℕ × PlaceView)
maybe_taken_back service None places = places
maybe_taken_back service (Some put) places = taken_back service put places

-- the places before all these were put there, the last first
abbrev pub all_taken_back : ℕ → List (Option Put) → List (ℕ × PlaceView) → List (ℕ × PlaceView)
all_taken_back service [] places = places
all_taken_back service (put ∷ puts) places = maybe_taken_back service put (all_taken_back service puts places)

-- where a vote was put in, if one was
abbrev pub position_where : ℕ → Option ℕ → Option ℕ
position_where k None = None
position_where k (Some at) = Some k

abbrev pub voted_of : Option Put → Option ℕ
voted_of None = None
voted_of (Some put) = position_where put.position put.vote
