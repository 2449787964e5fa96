-- Offers: what the lists show to a bidder, and which entry may be offered under a ballot.
use Rattle.std.specs.Prelude.{◌≡◌, ℕ, ◌<◌, ◌≤◌, ◌+◌, Bool, true, List, ◌++◌, length, Option, Some, None, ◌⊎◌, slice_get}
use Rattle.ms_record.specs.declared.ballot.Ballot.{Ballot}
use Rattle.ms_record.specs.declared.ballot.Vote.{Vote}
use Rattle.ms_record.specs.declared.entry.Entry.{Entry}
use Rattle.ms_record.specs.declared.record.Record.{Record}
use Rattle.ms_record.specs.declared.record.Record.TheVariants.{Accept}
use Rattle.ms_record.specs.Chains.{Origin, IsLinked, voters_behind}
use Rattle.ms_record.specs.Ballots.{IsBelow, IsAtMost}
use Rattle.ms_record.specs.Votes.{IsPromised, IsTaken, IsBest, IsMajority}

-- the first place with a promised Prepare of this ballot
pub record IsFirstPromised (records : List Record) (place position : ℕ) (ballot : Ballot) : Type 0 where
  pub promised : IsPromised records place position ballot
  pub first : (i : ℕ) → i < place → IsPromised records i position ballot → ⊥

-- a list shows this Best to the bidder of the ballot: before the first promised Prepare, and below the ballot
pub record Shows (records : List Record) (position : ℕ) (ballot : Ballot) (best : Option Vote) : Type 0 where
  pub place : ℕ
  pub first : IsFirstPromised records place position ballot
  pub best_is : IsBest records position place best
  pub below : (vote : Vote) → best ≡ Some vote → IsBelow vote.ballot ballot

-- the entry of the greatest Best among the members, at the least service of several
pub record IsOfGreatest (part : ℕ → Bool) (bests : ℕ → Option Vote) (entry : Entry) : Type 0 where
  pub service : ℕ
  pub vote : Vote
  pub member : part service ≡ true
  pub has : bests service ≡ Some vote
  pub greatest : (s : ℕ) (v : Vote) → part s ≡ true → bests s ≡ Some v → IsAtMost v.ballot vote.ballot
  pub least : (s : ℕ) (v : Vote) → part s ≡ true → bests s ≡ Some v → v.ballot ≡ vote.ballot → service ≤ s
  pub entry_is : entry ≡ vote.entry

-- the bidder's own entry, where no member has a Best
pub record IsOwn (part : ℕ → Bool) (bests : ℕ → Option Vote) (ballot : Ballot) (entry : Entry) : Type 0 where
  pub none : (s : ℕ) → part s ≡ true → bests s ≡ None
  pub client_is : entry.client ≡ ballot.client

-- the offer of this entry under this ballot follows the rule at a majority of the voters
pub record JustifiedBy (votes : ℕ → List Record) (voters : List ℕ) (position : ℕ) (ballot : Ballot) (entry : Entry) : Type 0 where
  pub part : ℕ → Bool
  pub bests : ℕ → Option Vote
  pub majority : IsMajority part voters
  pub shown : (s : ℕ) → part s ≡ true → Shows (votes s) position ballot (bests s)
  pub entry_is : IsOfGreatest part bests entry ⊎ IsOwn part bests ballot entry

-- this entry was offered under this ballot: the offers of a client stand in its own list
abbrev pub IsOffered : (ℕ → List Record) → ℕ → Ballot → Entry → Type 0
IsOffered offers position ballot entry =
    (place : ℕ) × (slice_get (offers ballot.client.0) place ≡ Some (Accept position ballot entry))

-- at this position, of these voters: each ballot has one offer at most, what was taken was offered, and each offer is justified
pub record IsSoundAt (votes offers : ℕ → List Record) (voters : List ℕ) (position : ℕ) : Type 0 where
  pub one_offer : (b : Ballot) (e f : Entry) → IsOffered offers position b e → IsOffered offers position b f → e ≡ f
  pub taken_offered : (s place : ℕ) (b : Ballot) (e : Entry) → IsTaken (votes s) place position b e → IsOffered offers position b e
  pub justified : (b : Ballot) (e : Entry) → IsOffered offers position b e → JustifiedBy votes voters position b e

-- the offer follows the rule at a majority of the voters behind a linked list of the members before it
pub record IsJustified (votes : ℕ → List Record) (origin : Origin) (position : ℕ) (ballot : Ballot) (entry : Entry) : Type 0 where
  pub members : List Entry
  pub linked : IsLinked votes origin members
  pub at : position ≡ length members + 1
  pub justified : JustifiedBy votes (voters_behind origin members) position ballot entry

-- each ballot has one offer at most at a position, what was taken was offered, and each offer is justified
pub record IsSound (votes offers : ℕ → List Record) (origin : Origin) : Type 0 where
  pub one_offer : (k : ℕ) (b : Ballot) (e f : Entry) → IsOffered offers k b e → IsOffered offers k b f → e ≡ f
  pub taken_offered : (s place k : ℕ) (b : Ballot) (e : Entry) → IsTaken (votes s) place k b e → IsOffered offers k b e
  pub justified : (k : ℕ) (b : Ballot) (e : Entry) → IsOffered offers k b e → IsJustified votes origin k b e

-- each list goes on from the old one
abbrev pub GrowsTo : (ℕ → List Record) → (ℕ → List Record) → Type 0
GrowsTo old new = (s : ℕ) → (more : List Record) × (old s ++ more ≡ new s)
