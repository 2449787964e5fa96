-- The rules that the deeds of a command keep.
use Rattle.std.specs.Prelude.{◌≡◌, ◌⊎◌, ℕ, zero, suc, ◌+◌, ◌<◌, ◌==◌, ◌&&◌, Bool, true, false, List, [], ◌∷◌, ◌++◌, Option, Some, None, length, max, replicate, slice_set, slice_index_or, Contains}
use Rattle.std.specs.List.{list_any}
use Rattle.ms_base.specs.declared.names.ServiceId.{ServiceId}
use Rattle.ms_record.specs.declared.ballot.Ballot.{Ballot}
use Rattle.ms_record.specs.declared.ballot.Vote.{Vote}
use Rattle.ms_record.specs.declared.entry.Entry.{Entry}
use Rattle.ms_record.specs.declared.record.Record.{Record}
use Rattle.ms_record.specs.declared.record.Record.TheVariants.{Prepare, Accept}
use Rattle.ms_record.specs.Offers.{IsOfGreatest}
use Rattle.ms_record.specs.Votes.{IsMajority}
use Rattle.ms_record.specs.declared.sight.Sight.{Sight}
use Rattle.ms_local.specs.declared.deed.Message.{Message}
use Rattle.ms_local.specs.declared.deed.Message.TheVariants.{Vote as VoteText, Ref}
use Rattle.ms_local.specs.declared.deed.Deed.{Deed}
use Rattle.ms_local.specs.declared.deed.Deed.TheVariants as deeds

-- what a bid is for: its own entry, where it has one, its position and the voters there
pub record Intent : Type 0 where
  pub want : Option Entry
  pub voters : List ℕ
  pub position : ℕ

-- what the deeds so far leave for the next. `top` is the greatest of the round that the command read, those that it kept and those
-- that its sights showed; the rest is of the bid that goes on, from its Kept on: its round where that was kept with ok; the services
-- whose call failed, those that took its present message, the Prepare or behind the declaration the Accept, and by service what the
-- looks before the declaration and those after it showed
pub record Bidding : Type 0 where
  pub top : ℕ
  pub kept : Option ℕ
  pub intent : Intent
  pub declared : Option Record
  pub failed : List Bool
  pub sent : List Bool
  pub looks : List (Option Sight)
  pub votes : List (Option Sight)

-- a command over n services that read this round
abbrev pub begun_at : ℕ → ℕ → Bidding
begun_at n round = record {
  top = round;
  kept = None;
  intent = record { want = None; voters = []; position = 0 };
  declared = None;
  failed = replicate n false;
  sent = replicate n false;
  looks = replicate n None;
  votes = replicate n None;
}

-- ---- what sights show

abbrev pub sight_at : List (Option Sight) → ℕ → Option Sight
sight_at sights service = slice_index_or sights service None

abbrev pub promises : Option Sight → Bool
promises None = false
promises (Some sight) = sight.promised

abbrev pub takes : Option Sight → Bool
takes None = false
takes (Some sight) = sight.taken

abbrev pub best_in : Option Sight → Option Vote
best_in None = None
best_in (Some sight) = sight.best

abbrev pub is_voter : List ℕ → ℕ → Bool
is_voter voters service = list_any (λ v. v == service) voters

-- the voters whose sight has the promise, and those whose sight has the offer as taken
abbrev pub promised_by : List ℕ → List (Option Sight) → ℕ → Bool
promised_by voters looks service = is_voter voters service && promises (sight_at looks service)

abbrev pub taken_by : List ℕ → List (Option Sight) → ℕ → Bool
taken_by voters votes service = is_voter voters service && takes (sight_at votes service)

-- no Best was shown, and this is the bid's own entry
pub record IsWanted (part : ℕ → Bool) (bests : ℕ → Option Vote) (want : Option Entry) (entry : Entry) : Type 0 where
  pub none : (s : ℕ) → part s ≡ true → bests s ≡ None
  pub own : want ≡ Some entry

-- what may be offered: a majority of the voters promised, and it is the entry of the greatest Best that they showed, or the bid's own
pub record IsOfferOf (intent : Intent) (looks : List (Option Sight)) (entry : Entry) : Type 0 where
  pub majority : IsMajority (promised_by intent.voters looks) intent.voters
  pub entry_is : IsOfGreatest (promised_by intent.voters looks) (λ s. best_in (sight_at looks s)) entry ⊎ IsWanted (promised_by intent.voters looks) (λ s. best_in (sight_at looks s)) intent.want entry

-- the bid is decided: a majority of the voters has taken what it declared
pub record IsDecided (s : Bidding) (position : ℕ) (entry : Entry) : Type 0 where
  pub ballot : Ballot
  pub offered : s.declared ≡ Some (Accept position ballot entry)
  pub majority : IsMajority (taken_by s.intent.voters s.votes) s.intent.voters

-- ---- what may be done next

-- the service may be asked in this bid: it votes there, and no call to it failed
pub record IsAsked (s : Bidding) (service : ℕ) : Type 0 where
  pub within : service < length s.failed
  pub votes : Contains s.intent.voters service
  pub answers : slice_index_or s.failed service false ≡ false

-- a Prepare has the ballot of the bid's round, which was kept, and the bid's position; an Accept is its offer
abbrev pub MayVote : ℕ → Bidding → Message → Type 0
MayVote who s (VoteText (Prepare k b)) = (s.kept ≡ Some b.round) × (b.client.0 ≡ who) × (k ≡ s.intent.position)
MayVote who s (VoteText (Accept k b e)) = s.declared ≡ Some (Accept k b e)
MayVote who s (Ref text) = ⊥

-- list 0 has the votes; a message of the bid is sent to no service twice
abbrev pub MayAppend : ℕ → Bidding → ℕ → ℕ → Message → Type 0
MayAppend who s service zero message = IsAsked s service × (slice_index_or s.sent service false ≡ false) × MayVote who s message
MayAppend who s service (suc client) message = Unit {0}

abbrev pub MayDeclare : ℕ → Bidding → Record → Type 0
MayDeclare who s (Accept k b e) = (s.kept ≡ Some b.round) × (b.client.0 ≡ who) × (k ≡ s.intent.position) × IsOfferOf s.intent s.looks e × (s.declared ≡ None)
MayDeclare who s (Prepare k b) = ⊥

-- what may be done next, but for what begins a bid or a line. Rules of placing, of reading and of the folder have their place here
abbrev pub May : ℕ → Bidding → Deed → Type 0
May who s (deeds.Appended service list message ok) = MayAppend who s service.0 list.0 message
May who s (deeds.Declared offer) = MayDeclare who s offer
May who s (deeds.Looked service sight ok) = IsAsked s service.0
May who s (deeds.Kept round ok) = ⊥
May who s (deeds.Begun line) = ⊥
May who s deed = Unit {0}

-- ---- what a deed leaves

abbrev pub top_after : ℕ → ℕ → Bool → ℕ
top_after top round true = max top round
top_after top round false = top

-- nothing is sent of a bid whose round was not kept
abbrev pub kept_after : ℕ → Bool → Option ℕ
kept_after round true = Some round
kept_after round false = None

-- a bid begins with the keeping of its round; a round that was not kept does not count
abbrev pub bid_begun : Bidding → Intent → ℕ → Bool → Bidding
bid_begun s intent round ok = record {
  top = top_after s.top round ok;
  kept = kept_after round ok;
  intent = intent;
  declared = None;
  failed = replicate (length s.failed) false;
  sent = replicate (length s.failed) false;
  looks = replicate (length s.failed) None;
  votes = replicate (length s.failed) None;
}

abbrev pub shown_round : Option Ballot → ℕ
shown_round None = 0
shown_round (Some ballot) = ballot.round

abbrev pub failed_after : List Bool → ℕ → Bool → List Bool
failed_after failed service true = failed
failed_after failed service false = slice_set failed service true

abbrev pub sent_after : List Bool → ℕ → Bool → List Bool
sent_after sent service true = slice_set sent service true
sent_after sent service false = sent

abbrev pub with_append : Bidding → ℕ → ℕ → Message → Bool → Bidding
with_append s service zero message ok = record s { failed = failed_after s.failed service ok; sent = sent_after s.sent service ok }
with_append s service (suc client) message ok = s

-- a sight before the declaration is a look, one behind it a vote
abbrev pub with_sight : Bidding → Option Record → ℕ → Sight → Bool → Bidding
with_sight s None service sight true = record s { looks = slice_set s.looks service (Some sight); top = max s.top (shown_round sight.top) }
with_sight s (Some offer) service sight true = record s { votes = slice_set s.votes service (Some sight); top = max s.top (shown_round sight.top) }
with_sight s declared service sight false = record s { failed = slice_set s.failed service true }

abbrev pub done : Bidding → Deed → Bidding
done s (deeds.Appended service list message ok) = with_append s service.0 list.0 message ok
done s (deeds.Declared offer) = record s { declared = Some offer; sent = replicate (length s.failed) false }
done s (deeds.Looked service sight ok) = with_sight s s.declared service.0 sight ok
done s deed = s

-- ---- runs

-- among the deeds is a look with ok at the service, whose sight shows it
abbrev pub ShowsIn : List Deed → ℕ → (Sight → Bool) → Type 0
ShowsIn done service shows = (id : ServiceId) × (sight : Sight) × (id.0 ≡ service) × (shows sight ≡ true) × Contains done (deeds.Looked id sight true)

-- one deed, from one state to the next. A Kept has a round one above the greatest so far, and takes the next of the bids' intents
abbrev pub Step : ℕ → Bidding → List Intent → Deed → Bidding → List Intent → Type 0
Step who s own (deeds.Kept round ok) mid rest = (intent : Intent) × (own ≡ intent ∷ rest) × (round ≡ s.top + 1) × (mid ≡ bid_begun s intent round ok)
Step who s own deed mid rest = (own ≡ rest) × May who s deed × (mid ≡ done s deed)

-- these deeds of the client `who` keep the rules, with one intent for each bid
abbrev pub Run : ℕ → Bidding → List Intent → List Deed → Bidding → Type 0
Run who s own [] t = (own ≡ []) × (t ≡ s)
Run who s own (deed ∷ deeds) t = (mid : Bidding) × (rest : List Intent) × Step who s own deed mid rest × Run who mid rest deeds t

abbrev pub HasRun : ℕ → Bidding → List Deed → Type 0
HasRun who s deeds = (own : List Intent) × (t : Bidding) × Run who s own deeds t

-- the deeds of a command of the client `who` over n services that read this round keep the rules
abbrev pub IsClientRun : ℕ → ℕ → ℕ → List Intent → List Deed → Type 0
IsClientRun n who round own deeds = (t : Bidding) × Run who (begun_at n round) own deeds t

-- between two moments the command did deeds that keep the rules
pub record Did (who : ℕ) (old new : List Deed) (s : Bidding) (own : List Intent) (t : Bidding) : Type 0 where
  pub deeds : List Deed
  pub grows : new ≡ old ++ deeds
  pub run : Run who s own deeds t
