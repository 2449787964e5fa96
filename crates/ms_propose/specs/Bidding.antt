-- A bid under way, and the deeds that it did.
use Rattle.std.specs.Prelude.{◌≡◌, ℕ, ◌+◌, ◌<◌, ◌≤◌, false, List, [], ◌∷◌, ◌++◌, Option, Some, None, length, take, All}
use mathlib.Core.List.{IsPrefix}
use Rattle.ms_base.specs.declared.names.ServiceId.{ServiceId}
use Rattle.ms_bid.specs.declared.act.Outcome.{Outcome}
use Rattle.ms_bid.specs.declared.act.Outcome.TheVariants.{KeepFault, Outbid}
use Rattle.ms_bid.specs.declared.bid.Bid.{Bid}
use Rattle.ms_bid.specs.declared.act.Act.TheVariants.{End}
use Rattle.ms_bid.specs.Bids.{IsBid, acts_left}
use Rattle.ms_record.specs.declared.ballot.Ballot.{Ballot}
use Rattle.ms_record.specs.declared.entry.Entry.{Entry}
use Rattle.ms_record.specs.declared.record.Record.{Record}
use Rattle.ms_record.specs.declared.record.Record.TheVariants.{Accept}
use Rattle.ms_local.specs.declared.deed.Deed.{Deed}
use Rattle.ms_local.specs.declared.deed.Deed.TheVariants.{Kept as KeptDeed}
use Rattle.ms_local.specs.Rules.{Bidding, Did, Intent}
use Rattle.ms_propose.specs.declared.acts.Aim.{Aim}

-- a bid for this entry, or a settling one, at the position where these vote
abbrev pub intent_of : Option Entry → List ℕ → ℕ → Intent
intent_of want voters position = record { want = want; voters = voters; position = position }

-- the offer of a bid, once it is declared
abbrev pub offer_record : ℕ → Ballot → Option Entry → Option Record
offer_record position ballot None = None
offer_record position ballot (Some entry) = Some (Accept position ballot entry)

-- what the deeds leave in the middle of this bid over n services
abbrev pub bidding_of : ℕ → Bid → ℕ → Bidding
bidding_of n b top = record {
  top = top;
  kept = Some b.ballot.round;
  intent = record { want = b.want; voters = b.voters; position = b.position };
  declared = offer_record b.position b.ballot b.offer;
  failed = take n b.failed;
  sent = take n b.sent;
  looks = take n b.first_looks;
  votes = take n b.second_looks;
}

pub record Mirrors (who n : ℕ) (t : Bidding) (b : Bid) (round : ℕ) : Type 0 where
  pub client_is : b.ballot.client.0 ≡ who
  pub is : t ≡ bidding_of n b round

-- the bid is this one, and its round is kept
pub record IsBidOf (intent : Intent) (aim : Aim) (b : Bid) : Type 0 where
  pub position_is : b.position ≡ aim.position
  pub ballot_is : b.ballot ≡ aim.ballot
  pub want_is : b.want ≡ intent.want
  pub voters_are : b.voters ≡ intent.voters
  pub placed : intent.position ≡ aim.position
  pub begun : acts_left b < 67

-- a bid goes on, and what was done since `old` keeps the rules, whatever the command did before it
abbrev pub BidRuns : ℕ → ℕ → Intent → List Deed → List Deed → ℕ → ℕ → Bid → Type 0
BidRuns who n intent old now before round b =
    (s : Bidding) → s.top ≡ before → length s.failed ≡ n → (t : Bidding) × Did who old now s (intent ∷ []) t × Mirrors who n t b round

-- how a bid ended, as its deeds show it
pub record EndsAs (who n : ℕ) (ballot : Ballot) (intent : Intent) (t : Bidding) (round : ℕ) (outcome : Outcome) : Type 0 where
  pub bid : Bid
  pub position_is : bid.position ≡ intent.position
  pub ballot_is : bid.ballot ≡ ballot
  pub want_is : bid.want ≡ intent.want
  pub voters_are : bid.voters ≡ intent.voters
  pub mirrors : Mirrors who n t bid round
  pub whole : IsBid bid
  pub act : bid.act ≡ End outcome

-- where the round was not kept, that is all that the bid did
abbrev pub Ends : ℕ → ℕ → Ballot → Intent → List Deed → List Deed → Bidding → ℕ → Outcome → Type 0
Ends who n ballot intent old new t round KeepFault = new ≡ old ++ KeptDeed ballot.round false ∷ []
Ends who n ballot intent old new t round outcome = EndsAs who n ballot intent t round outcome

-- one bid was made
pub record BidMade (who n : ℕ) (ballot : Ballot) (intent : Intent) (old new : List Deed) (s : Bidding) (round : ℕ) (outcome : Outcome) : Type 0 where
  pub after : Bidding
  pub did : Did who old new s (intent ∷ []) after
  pub top_is : after.top ≡ round
  pub services_is : length after.failed ≡ n
  pub ends : Ends who n ballot intent old new after round outcome

-- bids were made, the last perhaps in part
pub record BidBroken (who n : ℕ) (intent : Intent) (old new : List Deed) (s : Bidding) (round : ℕ) : Type 0 where
  pub own : List Intent
  pub after : Bidding
  pub did : Did who old new s own after
  pub own_is : All (λ i. i ≡ intent) own
  pub top_is : after.top ≡ round
  pub services_is : length after.failed ≡ n

-- at most one bid was made, perhaps in part
pub record BidHalted (who n : ℕ) (intent : Intent) (old new : List Deed) (s : Bidding) (round : ℕ) : Type 0 where
  pub broken : BidBroken who n intent old new s round
  pub few : length broken.own ≤ 1

-- in the bid of this number of a call, counted from 0, whose deeds are among these, a service showed this greater ballot
pub record WasOutbid (who n : ℕ) (intent : Intent) (old now : List Deed) (s : Bidding) (number : ℕ) (service : ServiceId) (top : Ballot) : Type 0 where
  pub mid : List Deed
  pub among : IsPrefix mid now
  pub own : List Intent
  pub after : Bidding
  pub did : Did who old mid s own after
  pub nth : length own ≡ number + 1
  pub own_is : All (λ i. i ≡ intent) own
  pub ballot : Ballot
  pub round : ℕ
  pub ends : EndsAs who n ballot intent after round (Outbid service top)
