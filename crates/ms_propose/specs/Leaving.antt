-- What bids leave, whatever is answered.
use Rattle.std.specs.Prelude.{◌≡◌, ℕ, ◌<◌, List, Some, Result, Ok, Err, Contains}
use Rattle.ms_base.specs.Counts.{Rose}
use Rattle.ms_base.specs.declared.bytes.NoMemory.{NoMemory}
use Rattle.ms_bid.specs.declared.act.Outcome.{Outcome}
use Rattle.ms_bid.specs.declared.act.Outcome.TheVariants.{Decided, Nothing, Unlisted, KeepFault}
use Rattle.ms_core.specs.Views.{votes_told}
use Rattle.ms_record.specs.declared.entry.Entry.{Entry}
use Rattle.ms_record.specs.declared.setting.Setting.{Setting}
use Rattle.ms_record.specs.Settings.{IsSetting}
use Rattle.ms_record.specs.Votes.{ChosenBy}
use Rattle.ms_local.specs.declared.kept.Kept.{Kept}
use Rattle.ms_local.specs.declared.deed.Deed.{Deed}
use Rattle.ms_local.specs.declared.deed.Deed.TheVariants.{Kept as KeptDeed, Appended, Declared, Looked}
use Rattle.ms_record.specs.declared.key.Key.TheVariants.{State}
use Rattle.ms_local.specs.Desks.{DeskView, HasKeptRound, OnTold, OnTold', round_of}
use Rattle.ms_local.specs.Keeping.{HasRanges}
use Rattle.ms_propose.specs.Acts.{with_round}
use Rattle.ms_propose.specs.Going.{DeskBids}
use Rattle.ms_local.specs.Outside.{WhereTold}
use Rattle.ms_local.specs.Truths.{IsStateAt, OwnHistory, TrueDeeds, last_kept}

-- the setting is in its ranges, has the desk's services and its client, and is the one that is told, if one is
pub record IsSettingOf (setting : Setting) (desk : DeskView) : Type 0 where
  pub ranges : IsSetting setting
  pub services : setting.services ≡ desk.services
  pub client : desk.client < setting.clients
  pub told : OnTold' desk (λ other. other ≡ setting)

-- the deeds of bids: keepings of rounds, messages to the vote lists, declarations and looks
abbrev pub IsBidDeed : Deed → Type 0
IsBidDeed (KeptDeed round ok) = Unit {0}
IsBidDeed (Appended service list message ok) = list.0 ≡ 0
IsBidDeed (Declared offer) = Unit {0}
IsBidDeed (Looked service sight ok) = Unit {0}
IsBidDeed deed = ⊥

-- the desk goes on by deeds of bids, its own list by their offers, and each deed is true; of the state the round alone changes, and the
-- keeper has it but for its round: that is the state's at most, or above it by the slack at most; no less than the last that was
-- kept, and than the keeper's before
pub record Bids (slack : ℕ) (old new : DeskView) (before after : Kept) : Type 0 where
  pub effect : DeskBids old new
  pub history : OwnHistory old new
  pub truths : TrueDeeds old new
  pub kinds : (deed : Deed) → Contains truths.deeds deed → IsBidDeed deed
  pub kept_there : HasKeptRound new (last_kept 0 truths.deeds)
  pub stays_kept : WhereTold old.keep.told ((r : ℕ) → round_of (old.keep.texts State) ≡ Some r → HasKeptRound new r)
  pub state : IsStateAt slack new after
  pub ranges : HasRanges after
  pub round : after ≡ with_round before after.round

abbrev pub slack_of : Result Outcome NoMemory → ℕ
slack_of (Ok KeepFault) = 1
slack_of (Ok outcome) = 0
slack_of (Err error) = 1

-- what an outcome says of the services: what was decided is chosen, where there is nothing to settle nothing was chosen before the
-- bid, and none is unlisted; the fault of a keeping is one of the keeper
abbrev pub Shows : DeskView → DeskView → List ℕ → ℕ → Outcome → Type 0
Shows old new voters position (Decided entry) = OnTold old (ChosenBy (votes_told new.pass.lists) voters position entry)
Shows old new voters position Nothing = OnTold old ((entry : Entry) → ChosenBy (votes_told old.pass.lists) voters position entry → ⊥)
Shows old new voters position (Unlisted service) = OnTold old ⊥
Shows old new voters position KeepFault = Rose old.keep.faults new.keep.faults
Shows old new voters position outcome = Unit {0}
