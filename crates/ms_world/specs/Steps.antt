-- What each event does to a world, and which of its conditions fails first.
use Rattle.std.specs.Prelude.{◌≡◌, ℕ, ◌^◌, ◌<◌, ◌≤◌, ◌⊎◌, Bool, true, false, List, [], ◌∷◌, ◌++◌, Option, Some, None, length, slice_get, slice_set, slice_index_or, replicate, Contains}
use Rattle.sha2.specs.Sha256.{sha256}
use Rattle.ms_base.specs.declared.limits.TheConstants.{LAST_NUMBER}
use Rattle.ms_base.specs.declared.names.Name.{Name}
use Rattle.ms_world.specs.declared.event.Event.{Event}
use Rattle.ms_world.specs.declared.event.Event.TheVariants as events
use Rattle.ms_world.specs.declared.event.Push.{Push}
use Rattle.ms_world.specs.PutTexts.{IsPlacedInLogs}
use Rattle.ms_world.specs.Worlds.{ClientView, RequestView, WorldView, log_of, votes_of_world, known_votes, to_all, changed, logged, ballot_of_round, next_of, last_of, plan_of_client, voters_of_client, start_world}
use Rattle.ms_world.specs.declared.client.Bidding.{Bidding}
use Rattle.ms_record.specs.declared.ballot.Ballot.{Ballot}
use Rattle.ms_record.specs.declared.ballot.Vote.{Vote}
use Rattle.ms_record.specs.declared.entry.Entry.{Entry}
use Rattle.ms_record.specs.declared.log.ListId.{ListId}
use Rattle.ms_record.specs.declared.log.LogEvent.{LogEvent}
use Rattle.ms_record.specs.declared.log.LogEvent.TheVariants.{Rec, Put, Drop}
use Rattle.ms_record.specs.declared.record.Record.{Record}
use Rattle.ms_record.specs.declared.record.Record.TheVariants.{Prepare, Accept}
use Rattle.ms_record.specs.declared.setting.Setting.{Setting}
use Rattle.ms_record.specs.Chains.{LinksBehind, IsChain, GoesOn, generation_in}
use Rattle.ms_record.specs.Logs.{NoDropAbove}
use Rattle.ms_record.specs.Offers.{IsFirstPromised, IsOfGreatest}
use Rattle.ms_record.specs.Plans.{PlanView, IsPlan}
use Rattle.ms_record.specs.Records.{record_text}
use Rattle.ms_record.specs.Settings.{genesis_plan, origin_of}
use Rattle.ms_record.specs.Votes.{IsPromised, IsBest, IsMajority, ChosenBy}

-- the client with this number, and that it is on
pub record IsUp (w : WorldView) (client : ℕ) (c : ClientView) : Type 0 where
  pub is : slice_get w.clients client ≡ Some c
  pub on : c.on ≡ true

-- a version is placed under a plan by the first text that was put under each name
abbrev pub IsPlacedByPuts : WorldView → PlanView → Name → Type 0
IsPlacedByPuts w plan version = IsPlacedInLogs w.logs plan version

-- placed under the plan in force behind a client's chain
abbrev pub IsPlacedNow : Setting → WorldView → ClientView → Name → Type 0
IsPlacedNow setting w c version = IsPlacedByPuts w (plan_of_client setting c) version

-- a push is of a version that is placed; a settling bid wants nothing
abbrev pub WantIsPlaced : Setting → WorldView → ClientView → Option Push → Type 0
WantIsPlaced setting w c None = Unit {0}
WantIsPlaced setting w c (Some push) = IsPlacedNow setting w c push.version

-- the entry of a push behind a client's chain
abbrev pub pushed : Setting → ClientView → ℕ → Option Push → Option Entry
pushed setting c client None = None
pushed setting c client (Some push) =
    Some (record { before = record { 0 = last_of setting c }; client = record { 0 = client }; number = push.number; version = push.version; plan = None })

-- the version of the last member of a chain, and of the genesis where there is none
abbrev pub last_version : Name → List Entry → Name
last_version version [] = version
last_version version (e ∷ es) = last_version e.version es

abbrev pub version_of : Setting → ClientView → Name
version_of setting c = last_version setting.genesis.version c.chain

-- a plan whose objects are written in this format
abbrev pub in_format : ℕ → PlanView → PlanView
in_format format plan = record plan { format = format }

-- the plan entry of a version behind a client's chain
abbrev pub planned : Setting → ClientView → ℕ → ℕ → Name → PlanView → Entry
planned setting c client number version plan =
    record { before = record { 0 = last_of setting c }; client = record { 0 = client }; number = number; version = version; plan = Some plan }

-- a turn takes its plan with the format in force, and keeps the version
abbrev pub turn_plan : Setting → ClientView → PlanView → PlanView
turn_plan setting c plan = in_format (plan_of_client setting c).format plan

abbrev pub turned : Setting → ClientView → ℕ → ℕ → PlanView → Entry
turned setting c client number plan = planned setting c client number (version_of setting c) (turn_plan setting c plan)

-- a migration keeps the plan in force, with format 2
abbrev pub migrated_plan : Setting → ClientView → PlanView
migrated_plan setting c = in_format 2 (plan_of_client setting c)

abbrev pub migrated : Setting → ClientView → ℕ → ℕ → Name → Entry
migrated setting c client number version = planned setting c client number version (migrated_plan setting c)

-- a new bid, and what it leaves of the client
abbrev pub bidding : ClientView → ℕ → Option Entry → Bidding
bidding c round want = record { position = next_of c; round = round; want = want; offered = false }

abbrev pub with_bid : ClientView → ℕ → Option Entry → ClientView
with_bid c round want = record c { kept = round; bid = Some (bidding c round want) }

-- a bid is made: its round is kept, and each voter is asked to promise
abbrev pub bid_made : Setting → WorldView → ℕ → ClientView → ℕ → Option Entry → WorldView
bid_made setting w client c round want =
    changed w client (with_bid c round want) (to_all (voters_of_client setting c) (Prepare (next_of c) (ballot_of_round client round)))

abbrev pub IsNextPosition : ClientView → Type 0
IsNextPosition c = next_of c ≤ LAST_NUMBER

-- a round above the kept one
abbrev pub IsNextRound : ClientView → ℕ → Type 0
IsNextRound c round = (c.kept < round) × (round ≤ LAST_NUMBER)

-- what a client on may begin to bid with
pub record CanBid (w : WorldView) (client round : ℕ) (c : ClientView) : Type 0 where
  pub up : IsUp w client c
  pub position : IsNextPosition c
  pub above : IsNextRound c round

-- a plan names only services of the setting, and its generation and format are not below those in force behind a client's chain
abbrev pub FitsNow : Setting → ClientView → PlanView → Type 0
FitsNow setting c plan = GoesOn (plan_of_client setting c).generation (plan_of_client setting c).format setting.services plan

-- objects are written in the first format behind a client's chain
abbrev pub IsUnmigrated : Setting → ClientView → Type 0
IsUnmigrated setting c = (plan_of_client setting c).format ≡ 1

-- a client has a bid that it has not offered for yet
pub record HasBid (w : WorldView) (client : ℕ) (c : ClientView) (bid : Bidding) : Type 0 where
  pub up : IsUp w client c
  pub has : c.bid ≡ Some bid
  pub fresh : bid.offered ≡ false

-- the services that show a promised Prepare of the bid's ballot, each with its Best, are a majority of the voters
pub record HasPromises (known : ℕ → List Record) (voters : List ℕ) (position : ℕ) (ballot : Ballot) : Type 0 where
  pub part : ℕ → Bool
  pub bests : ℕ → Option Vote
  pub majority : IsMajority part voters
  pub shown : (s : ℕ) → part s ≡ true → (place : ℕ) × IsFirstPromised (known s) place position ballot × IsBest (known s) position place (bests s)
  pub others : (s place : ℕ) → Contains voters s → part s ≡ false → IsPromised (known s) place position ballot → ⊥

abbrev pub PromisesTo : Setting → WorldView → ℕ → ClientView → Bidding → Type 0
PromisesTo setting w client c bid = HasPromises (known_votes w c) (voters_of_client setting c) bid.position (ballot_of_round client bid.round)

-- the entry to offer: that of the greatest Best, or the wanted one where there is no Best
abbrev pub Offers : {known : ℕ → List Record} {voters : List ℕ} {position : ℕ} {ballot : Ballot} → HasPromises known voters position ballot → Option Entry → Entry → Type 0
Offers promises want entry =
    IsOfGreatest promises.part promises.bests entry ⊎ ((want ≡ Some entry) × ((s : ℕ) → promises.part s ≡ true → promises.bests s ≡ None))

-- an offer is declared, and each voter is asked to accept it
abbrev pub offer_made : Setting → WorldView → ℕ → ClientView → Bidding → Entry → WorldView
offer_made setting w client c bid entry =
    changed w client
    (record c { offers = c.offers ++ Accept bid.position (ballot_of_round client bid.round) entry ∷ []; bid = Some (record bid { offered = true }) })
    (to_all (voters_of_client setting c) (Accept bid.position (ballot_of_round client bid.round) entry))

-- by what a client knows of its voters, the entry is chosen behind its chain and links on to it
pub record CanLearn (setting : Setting) (w : WorldView) (c : ClientView) (entry : Entry) : Type 0 where
  pub chosen : ChosenBy (known_votes w c) (voters_of_client setting c) (next_of c) entry
  pub links : LinksBehind (origin_of setting) c.chain entry

-- a generation that a service takes puts in
pub record IsOpen (log : List LogEvent) (generation : ℕ) : Type 0 where
  pub some : 1 ≤ generation
  pub last : generation ≤ LAST_NUMBER
  pub above : NoDropAbove log generation

-- the chain of the logs has a plan of at least that generation, or nothing is dropped
abbrev pub IsTurned : Setting → WorldView → ℕ → Type 0
IsTurned setting w floor =
    (floor ≤ 1) ⊎ ((chain : List Entry) × IsChain (votes_of_world w) (origin_of setting) chain × (floor ≤ generation_in (genesis_plan setting) chain))

abbrev pub vote_list : ListId
vote_list = record { 0 = 0 }

pub record StartStep (setting : Setting) (old : WorldView) (client : ℕ) (new : WorldView) : Type 0 where
  pub c : ClientView
  pub is : slice_get old.clients client ≡ Some c
  pub off : c.on ≡ false
  pub becomes : new ≡ changed old client (record { on = true; kept = c.kept; offers = c.offers; known = replicate setting.services 0; chain = []; bid = None }) []

pub record StopStep (old : WorldView) (client : ℕ) (new : WorldView) : Type 0 where
  pub c : ClientView
  pub up : IsUp old client c
  pub becomes : new ≡ changed old client (record c { on = false }) []

pub record BidStep (setting : Setting) (old : WorldView) (client round : ℕ) (want : Option Push) (new : WorldView) : Type 0 where
  pub c : ClientView
  pub can : CanBid old client round c
  pub placed : WantIsPlaced setting old c want
  pub becomes : new ≡ bid_made setting old client c round (pushed setting c client want)

pub record TurnStep (setting : Setting) (old : WorldView) (client round number : ℕ) (plan : PlanView) (new : WorldView) : Type 0 where
  pub c : ClientView
  pub can : CanBid old client round c
  pub fits : FitsNow setting c (turn_plan setting c plan)
  pub placed : IsPlacedByPuts old (turn_plan setting c plan) (version_of setting c)
  pub becomes : new ≡ bid_made setting old client c round (Some (turned setting c client number plan))

pub record MigrateStep (setting : Setting) (old : WorldView) (client round number : ℕ) (version : Name) (new : WorldView) : Type 0 where
  pub c : ClientView
  pub can : CanBid old client round c
  pub first : IsUnmigrated setting c
  pub placed : IsPlacedByPuts old (migrated_plan setting c) version
  pub becomes : new ≡ bid_made setting old client c round (Some (migrated setting c client number version))

pub record DeliverStep (old : WorldView) (request : ℕ) (new : WorldView) : Type 0 where
  pub r : RequestView
  pub is : slice_get old.requests request ≡ Some r
  pub becomes : new ≡ logged old r.service (Rec vote_list (record_text r.message))

pub record ReadStep (setting : Setting) (old : WorldView) (client service upto : ℕ) (new : WorldView) : Type 0 where
  pub c : ClientView
  pub up : IsUp old client c
  pub service_is : service < setting.services
  pub longer : slice_index_or c.known service 0 ≤ upto
  pub within : upto ≤ length (log_of old service)
  pub becomes : new ≡ changed old client (record c { known = slice_set c.known service upto }) []

pub record OfferStep (setting : Setting) (old : WorldView) (client : ℕ) (new : WorldView) : Type 0 where
  pub c : ClientView
  pub bid : Bidding
  pub has : HasBid old client c bid
  pub promises : PromisesTo setting old client c bid
  pub entry : Entry
  pub offers : Offers promises bid.want entry
  pub becomes : new ≡ offer_made setting old client c bid entry

pub record LearnStep (setting : Setting) (old : WorldView) (client : ℕ) (new : WorldView) : Type 0 where
  pub c : ClientView
  pub up : IsUp old client c
  pub entry : Entry
  pub can : CanLearn setting old c entry
  pub becomes : new ≡ changed old client (record c { chain = c.chain ++ entry ∷ []; bid = None }) []

pub record PlaceStep (setting : Setting) (old : WorldView) (service generation : ℕ) (text : List ℕ) (new : WorldView) : Type 0 where
  pub service_is : service < setting.services
  pub generation_is : IsOpen (log_of old service) generation
  pub becomes : new ≡ logged old service (Put generation (record { 0 = sha256 text }) text)

pub record DropStep (setting : Setting) (old : WorldView) (service floor : ℕ) (new : WorldView) : Type 0 where
  pub service_is : service < setting.services
  pub turned_is : IsTurned setting old floor
  pub becomes : new ≡ logged old service (Drop floor)

-- one event
abbrev pub Step : Setting → WorldView → Event → WorldView → Type 0
Step setting old (events.Start client) new = StartStep setting old client.0 new
Step setting old (events.Stop client) new = StopStep old client.0 new
Step setting old (events.Bid client round want) new = BidStep setting old client.0 round want new
Step setting old (events.Turn client round number plan) new = TurnStep setting old client.0 round number plan new
Step setting old (events.Migrate client round number version) new = MigrateStep setting old client.0 round number version new
Step setting old (events.Deliver request) new = DeliverStep old request new
Step setting old (events.Read client service upto) new = ReadStep setting old client.0 service.0 upto new
Step setting old (events.Offer client) new = OfferStep setting old client.0 new
Step setting old (events.Learn client) new = LearnStep setting old client.0 new
Step setting old (events.Place service generation text) new = PlaceStep setting old service.0 generation text new
Step setting old (events.DropBelow service floor) new = DropStep setting old service.0 floor new

-- events in turn
abbrev pub Steps : Setting → WorldView → List Event → WorldView → Type 0
Steps setting old [] new = new ≡ old
Steps setting old (event ∷ events) new = (next : WorldView) × Step setting old event next × Steps setting next events new

-- a run from the start
abbrev pub IsRun : Setting → List Event → WorldView → Type 0
IsRun setting events w = Steps setting (start_world setting) events w

-- the numbers and names of an event are in the ranges of their types
abbrev pub IsEvent : Event → Type 0
IsEvent (events.Bid client round (Some push)) = (push.number < 2 ^ 32) × (length push.version.0 ≡ 32)
IsEvent (events.Turn client round number plan) = (number < 2 ^ 32) × IsPlan plan
IsEvent (events.Migrate client round number version) = (number < 2 ^ 32) × (length version.0 ≡ 32)
IsEvent _ = Unit {0}
