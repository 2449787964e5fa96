-- What the deeds of a command say of the services, of the keeper and of the client's own list.
use Rattle.std.specs.Prelude.{◌≡◌, ℕ, ◌+◌, ◌<◌, ◌≤◌, true, false, List, [], ◌∷◌, ◌++◌, Option, Some, None, Contains}
use mathlib.Core.List.{IsPrefix}
use Rattle.ms_base.specs.Counts.{Rose}
use Rattle.ms_core.specs.Views.{View, log_in, owner_of_client, votes_told}
use Rattle.ms_ken.specs.Lists.{list_at}
use Rattle.ms_record.specs.declared.ballot.Ballot.{Ballot}
use Rattle.ms_record.specs.declared.item.Item.{Item}
use Rattle.ms_record.specs.declared.item.Item.TheVariants.{Offer}
use Rattle.ms_record.specs.declared.record.Record.{Record}
use Rattle.ms_record.specs.declared.record.Record.TheVariants.{Prepare}
use Rattle.ms_record.specs.declared.sight.Sight.{Sight}
use Rattle.ms_base.specs.declared.names.Name.{Name}
use Rattle.ms_record.specs.declared.log.LogEvent.TheVariants.{Drop}
use Rattle.ms_record.specs.Logs.{HasPut, texts_in}
use Rattle.ms_record.specs.Sights.{IsSight}
use Rattle.ms_local.specs.declared.deed.Deed.{Deed}
use Rattle.ms_local.specs.declared.deed.Deed.TheVariants as deeds
use Rattle.ms_local.specs.declared.deed.Deed.TheVariants.{Kept as KeptDeed, Appended, Declared, Looked}
use Rattle.ms_local.specs.declared.deed.Message.TheVariants.{Vote}
use Rattle.ms_local.specs.declared.kept.Kept.{Kept}
use Rattle.ms_local.specs.Calls.{message_text}
use Rattle.ms_local.specs.Desks.{DeskView, HasFault, OnTold}
use Rattle.ms_local.specs.Keeping.{state_in}
use Rattle.ms_local.specs.Outside.{WhereTold}

-- ---- the state

-- the state is as the keeper has it, but for its round, which is at least the keeper's; less than that by the slack at most, 1 where
-- a keeping failed or found no memory, else 0
abbrev pub IsStateAt : ℕ → DeskView → Kept → Type 0
IsStateAt slack desk kept = WhereTold desk.keep.told ((had : Kept) × (state_in desk.keep.texts ≡ Some had) × (kept ≡ record had { round = kept.round }) × (had.round ≤ kept.round + slack))

-- the last round that these deeds kept with ok, or else this one
abbrev pub last_kept : ℕ → List Deed → ℕ
last_kept round [] = round
last_kept round (KeptDeed next true ∷ deeds) = last_kept next deeds
last_kept round (deed ∷ deeds) = last_kept round deeds

-- ---- the own list

-- the offers that these deeds declared, in order
abbrev pub offers_of : List Deed → List Item
offers_of [] = []
offers_of (Declared offer ∷ deeds) = Offer offer ∷ offers_of deeds
offers_of (deed ∷ deeds) = offers_of deeds

-- the list of the desk's client is the one before, followed by the offers that the deeds since then declared
pub record OwnHistory (old new : DeskView) : Type 0 where
  pub deeds : List Deed
  pub grows : new.deeds ≡ old.deeds ++ deeds
  pub own : list_at new.pass.lists (owner_of_client old.client) ≡ list_at old.pass.lists (owner_of_client old.client) ++ offers_of deeds

-- ---- deeds that are true

-- what a look shows that failed
abbrev pub no_sight : Sight
no_sight = record { promised = false; best = None; taken = false; top = None }

-- the service dropped what lies below a floor above the generation, or without a floor its link failed
abbrev pub IsMissed : DeskView → DeskView → ℕ → ℕ → Option ℕ → Type 0
IsMissed old new service generation (Some floor) = (generation < floor) × OnTold old (Contains (log_in new.pass.lists service) (Drop floor))
IsMissed old new service generation None = HasFault old new service

-- a text of the name was put on the service in the generation, where a setting is told
abbrev pub Stores : DeskView → DeskView → ℕ → ℕ → Name → Type 0
Stores old new service generation name = OnTold old (HasPut (log_in new.pass.lists service) generation name)

-- What was appended with ok stands in its list, where a setting is told, and what was put or is present was put; a call without ok
-- failed: its count of faults rose, and it brought nothing; or it shows a floor. What a keeping leaves is told by the last kept
-- round, a declaration by the own list, a look with ok by `TrueLooks`, and of calls on the folder only that one without ok has its fault
abbrev pub IsTrueDeed : DeskView → DeskView → Deed → Type 0
IsTrueDeed old new (deeds.Begun line) = Unit {0}
IsTrueDeed old new deeds.KeepFailed = Rose old.keep.faults new.keep.faults
IsTrueDeed old new (deeds.Kept round true) = Unit {0}
IsTrueDeed old new (deeds.Kept round false) = Rose old.keep.faults new.keep.faults
IsTrueDeed old new (deeds.StateKept true) = Unit {0}
IsTrueDeed old new (deeds.StateKept false) = Rose old.keep.faults new.keep.faults
IsTrueDeed old new (deeds.Appended service list message true) = OnTold old (Contains (texts_in list.0 (log_in new.pass.lists service.0)) (message_text message))
IsTrueDeed old new (deeds.Appended service list message false) = HasFault old new service.0
IsTrueDeed old new (deeds.Declared offer) = Unit {0}
IsTrueDeed old new (deeds.Looked service sight true) = Unit {0}
IsTrueDeed old new (deeds.Looked service sight false) = (sight ≡ no_sight) × HasFault old new service.0
IsTrueDeed old new (deeds.Listed service list from count true) = Unit {0}
IsTrueDeed old new (deeds.Listed service list from count false) = (count ≡ 0) × HasFault old new service.0
IsTrueDeed old new (deeds.Asked service generation name true true None) = Stores old new service.0 generation name
IsTrueDeed old new (deeds.Asked service generation name false true None) = Unit {0}
IsTrueDeed old new (deeds.Asked service generation name false false floor) = IsMissed old new service.0 generation floor
IsTrueDeed old new (deeds.Asked service generation name present ok floor) = ⊥
IsTrueDeed old new (deeds.Put service generation name true None) = Stores old new service.0 generation name
IsTrueDeed old new (deeds.Put service generation name false floor) = IsMissed old new service.0 generation floor
IsTrueDeed old new (deeds.Put service generation name ok floor) = ⊥
IsTrueDeed old new (deeds.Got service generation name found true None) = Unit {0}
IsTrueDeed old new (deeds.Got service generation name None false floor) = IsMissed old new service.0 generation floor
IsTrueDeed old new (deeds.Got service generation name found ok floor) = ⊥
IsTrueDeed old new (deeds.Dropped service generation true) = OnTold old (Contains (log_in new.pass.lists service.0) (Drop generation))
IsTrueDeed old new (deeds.Dropped service generation false) = HasFault old new service.0
IsTrueDeed old new (deeds.Scanned true) = Unit {0}
IsTrueDeed old new (deeds.Scanned false) = Rose old.work.faults new.work.faults
IsTrueDeed old new (deeds.Wrote path true) = Unit {0}
IsTrueDeed old new (deeds.Wrote path false) = Rose old.work.faults new.work.faults
IsTrueDeed old new (deeds.Removed path true) = Unit {0}
IsTrueDeed old new (deeds.Removed path false) = Rose old.work.faults new.work.faults

-- the sight is what a list shows of the bid of the ballot at the position: no shorter than the low view has it, no longer than the
-- high one
pub record IsTrueSight (low high : View) (position : ℕ) (ballot : Ballot) (service : ℕ) (sight : Sight) : Type 0 where
  pub list : List Record
  pub low_begins : IsPrefix (votes_told low service) list
  pub begins : IsPrefix list (votes_told high service)
  pub seen : IsSight list position ballot sight

abbrev pub ballot_at : ℕ → ℕ → Ballot
ballot_at who round = record { round = round; client = record { 0 = who } }

-- Of the deeds of a bid of this round at this position, and of the bids after it: each Prepare is for the position, and where a
-- setting is told each look with ok is what a list shows of the bid. A bid begins with the keeping of its round, and has a
-- position of its own. Where this is so of each position and round, no Prepare and no look comes before the first keeping.
abbrev pub TrueLooks : DeskView → DeskView → ℕ → ℕ → List Deed → Type 0
TrueLooks old new position round [] = Unit {0}
TrueLooks old new position round (KeptDeed next ok ∷ deeds) = (own : ℕ) × TrueLooks old new own next deeds
TrueLooks old new position round (Appended service list (Vote (Prepare k b)) ok ∷ deeds) = (k ≡ position) × TrueLooks old new position round deeds
TrueLooks old new position round (Looked service sight true ∷ deeds) =
    OnTold old (IsTrueSight old.pass.lists new.pass.lists position (ballot_at old.client round) service.0 sight) × TrueLooks old new position round deeds
TrueLooks old new position round (deed ∷ deeds) = TrueLooks old new position round deeds

-- the deeds since then are true
pub record TrueDeeds (old new : DeskView) : Type 0 where
  pub deeds : List Deed
  pub grows : new.deeds ≡ old.deeds ++ deeds
  pub each : (deed : Deed) → Contains deeds deed → IsTrueDeed old new deed
  pub looks : (position round : ℕ) → TrueLooks old new position round deeds
