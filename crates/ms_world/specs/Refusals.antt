-- Which condition of an event is the first that fails.
use Rattle.std.specs.Prelude.{◌≡◌, ℕ, ◌<◌, ◌≤◌, false, Option, Some, None, length, slice_index_or}
use Rattle.ms_base.specs.declared.names.Name.{Name}
use Rattle.ms_world.specs.declared.event.Event.{Event}
use Rattle.ms_world.specs.declared.event.Event.TheVariants as events
use Rattle.ms_world.specs.declared.event.Push.{Push}
use Rattle.ms_world.specs.Steps.{IsUp, IsPlacedByPuts, WantIsPlaced, IsNextPosition, IsNextRound, FitsNow, IsUnmigrated, HasBid, PromisesTo, Offers, CanLearn, IsOpen, IsTurned, version_of, turn_plan, migrated_plan, Step}
use Rattle.ms_world.specs.Worlds.{ClientView, WorldView, log_of}
use Rattle.ms_world.specs.declared.client.Bidding.{Bidding}
use Rattle.ms_record.specs.declared.entry.Entry.{Entry}
use Rattle.ms_record.specs.declared.refusal.Why.{Why}
use Rattle.ms_record.specs.declared.refusal.Why.TheVariants as whys
use Rattle.ms_record.specs.declared.setting.Setting.{Setting}
use Rattle.ms_record.specs.Plans.{PlanView}
use Rattle.std.specs.Prelude.{slice_get}

-- there is such a client, and it is off
abbrev pub IsOff : WorldView → ℕ → Type 0
IsOff w client = (c : ClientView) × (slice_get w.clients client ≡ Some c) × (c.on ≡ false)

-- there is no such client, or it is off
abbrev pub IsDown : WorldView → ℕ → Why → Type 0
IsDown w client whys.Client = length w.clients ≤ client
IsDown w client whys.Off = IsOff w client
IsDown w client _ = ⊥

-- there is no such client, or it is off, before what the event asks besides
abbrev pub NeedsClient : WorldView → ℕ → Why → (ClientView → Type 0) → Type 0
NeedsClient w client whys.Client Fails = IsDown w client whys.Client
NeedsClient w client whys.Off Fails = IsDown w client whys.Off
NeedsClient w client why Fails = (c : ClientView) × IsUp w client c × Fails c

-- what a bid asks, before what is asked of its entry
abbrev pub BidFails : ℕ → Why → Type 0 → ClientView → Type 0
BidFails round whys.Position Fails c = ¬ IsNextPosition c
BidFails round whys.Round Fails c = IsNextPosition c × (¬ IsNextRound c round)
BidFails round why Fails c = IsNextPosition c × IsNextRound c round × Fails

abbrev pub WantFails : Setting → WorldView → Option Push → Why → ClientView → Type 0
WantFails setting w want whys.Placed c = ¬ WantIsPlaced setting w c want
WantFails setting w want _ c = ⊥

abbrev pub TurnFails : Setting → WorldView → PlanView → Why → ClientView → Type 0
TurnFails setting w plan whys.Plan c = ¬ FitsNow setting c (turn_plan setting c plan)
TurnFails setting w plan whys.Placed c = FitsNow setting c (turn_plan setting c plan) × (¬ IsPlacedByPuts w (turn_plan setting c plan) (version_of setting c))
TurnFails setting w plan _ c = ⊥

abbrev pub MigrateFails : Setting → WorldView → Name → Why → ClientView → Type 0
MigrateFails setting w version whys.Plan c = ¬ IsUnmigrated setting c
MigrateFails setting w version whys.Placed c = IsUnmigrated setting c × (¬ IsPlacedByPuts w (migrated_plan setting c) version)
MigrateFails setting w version _ c = ⊥

abbrev pub ReadFails : Setting → WorldView → ℕ → ℕ → Why → ClientView → Type 0
ReadFails setting w service upto whys.Service c = setting.services ≤ service
ReadFails setting w service upto whys.Prefix c = (service < setting.services) × (¬ ((slice_index_or c.known service 0 ≤ upto) × (upto ≤ length (log_of w service))))
ReadFails setting w service upto _ c = ⊥

-- there is no bid that was not offered for; else no majority of promises; else neither a Best nor an entry of its own
abbrev pub OfferFails : Setting → WorldView → ℕ → Why → ClientView → Type 0
OfferFails setting w client whys.Bid c = (bid : Bidding) → ¬ HasBid w client c bid
OfferFails setting w client whys.Promises c = (bid : Bidding) × HasBid w client c bid × (¬ PromisesTo setting w client c bid)
OfferFails setting w client whys.Nothing c = (bid : Bidding) × HasBid w client c bid × ((promises : PromisesTo setting w client c bid) × ((entry : Entry) → ¬ Offers promises bid.want entry))
OfferFails setting w client _ c = ⊥

abbrev pub LearnFails : Setting → WorldView → Why → ClientView → Type 0
LearnFails setting w whys.Chosen c = (entry : Entry) → ¬ CanLearn setting w c entry
LearnFails setting w _ c = ⊥

-- the first condition of the event that fails
abbrev pub IsRefused : Setting → WorldView → Event → Why → Type 0
IsRefused setting w (events.Start client) whys.Client = length w.clients ≤ client.0
IsRefused setting w (events.Start client) whys.On = (c : ClientView) × IsUp w client.0 c
IsRefused setting w (events.Start client) _ = ⊥
IsRefused setting w (events.Stop client) why = NeedsClient w client.0 why (λ c. ⊥)
IsRefused setting w (events.Bid client round want) why = NeedsClient w client.0 why (λ c. BidFails round why (WantFails setting w want why c) c)
IsRefused setting w (events.Turn client round number plan) why = NeedsClient w client.0 why (λ c. BidFails round why (TurnFails setting w plan why c) c)
IsRefused setting w (events.Migrate client round number version) why = NeedsClient w client.0 why (λ c. BidFails round why (MigrateFails setting w version why c) c)
IsRefused setting w (events.Deliver request) whys.Request = length w.requests ≤ request
IsRefused setting w (events.Deliver request) _ = ⊥
IsRefused setting w (events.Read client service upto) why = NeedsClient w client.0 why (λ c. ReadFails setting w service.0 upto why c)
IsRefused setting w (events.Offer client) why = NeedsClient w client.0 why (λ c. OfferFails setting w client.0 why c)
IsRefused setting w (events.Learn client) why = NeedsClient w client.0 why (λ c. LearnFails setting w why c)
IsRefused setting w (events.Place service generation text) whys.Service = setting.services ≤ service.0
IsRefused setting w (events.Place service generation text) whys.Generation = (service.0 < setting.services) × (¬ IsOpen (log_of w service.0) generation)
IsRefused setting w (events.Place service generation text) _ = ⊥
IsRefused setting w (events.DropBelow service floor) whys.Service = setting.services ≤ service.0
IsRefused setting w (events.DropBelow service floor) whys.Turned = (service.0 < setting.services) × (¬ IsTurned setting w floor)
IsRefused setting w (events.DropBelow service floor) _ = ⊥

-- the event is carried out; or its first condition that fails is named, and nothing changes
abbrev pub Tries : Setting → WorldView → Event → WorldView → Option Why → Type 0
Tries setting old event new None = Step setting old event new
Tries setting old event new (Some why) = IsRefused setting old event why × (new ≡ old)

-- stopping and reading take no memory
abbrev pub TakesMemory : Event → Type 0
TakesMemory (events.Stop client) = ⊥
TakesMemory (events.Read client service upto) = ⊥
TakesMemory _ = Unit {0}

-- the conditions that are looked at with memory
abbrev pub IsLate : Why → Type 0
IsLate whys.Placed = Unit {0}
IsLate whys.Promises = Unit {0}
IsLate whys.Nothing = Unit {0}
IsLate whys.Chosen = Unit {0}
IsLate whys.Turned = Unit {0}
IsLate _ = ⊥

-- the event takes memory, and none of its conditions fails that is looked at before
pub record MayLackMemory (setting : Setting) (w : WorldView) (event : Event) : Type 0 where
  pub takes : TakesMemory event
  pub late : (why : Why) → IsRefused setting w event why → IsLate why
