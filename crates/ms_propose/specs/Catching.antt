-- What catching up leaves, and what it answers.
use Rattle.std.specs.Prelude.{◌≡◌, ◌⊎◌, ℕ, ◌+◌, ◌≤◌, Bool, true, false, List, [], ◌∷◌, ◌++◌, Some, None, Result, Ok, Err, All, Contains, length}
use mathlib.Core.List.{IsPrefix}
use Rattle.ms_core.specs.Views.{votes_told}
use Rattle.ms_record.specs.declared.entry.Entry.{Entry}
use Rattle.ms_record.specs.declared.refusal.Refusal.{Refusal}
use Rattle.ms_record.specs.declared.refusal.Refusal.TheVariants as refusals
use Rattle.ms_record.specs.Chains.{IsChosen, LinksBehind, voters_behind}
use Rattle.ms_record.specs.Settings.{origin_of}
use Rattle.ms_record.specs.Votes.{ChosenBy}
use Rattle.ms_local.specs.declared.deed.Deed.{Deed}
use Rattle.ms_local.specs.declared.kept.Kept.{Kept}
use Rattle.ms_record.specs.declared.key.Key.TheVariants.{State}
use Rattle.ms_local.specs.Desks.{DeskView, HasKeptRound, OnTold, OnTold', round_of}
use Rattle.ms_local.specs.Keeping.{HasRanges}
use Rattle.ms_local.specs.Learning.{ChainView, IsListing, Learns, texts_read}
use Rattle.ms_local.specs.Outside.{WhereTold}
use Rattle.ms_local.specs.Rules.{Bidding, Did, Intent}
use Rattle.ms_local.specs.Truths.{IsStateAt, OwnHistory, TrueDeeds, last_kept}
use Rattle.ms_propose.specs.Acts.{with_round}
use Rattle.ms_propose.specs.Bidding.{intent_of}
use Rattle.ms_propose.specs.Going.{DeskBids}
use Rattle.ms_propose.specs.Leaving.{IsBidDeed}
use Rattle.ms_propose.specs.Proposing.{Proposed}

-- the deeds of catching up: readings of vote lists, and bids between them
abbrev pub IsCatchingDeed : Deed → Type 0
IsCatchingDeed deed = IsListing deed ⊎ IsBidDeed deed

-- these deeds keep the rules, by bids that settle, and the greatest round behind them is the kept one
pub record Settled (who n : ℕ) (old new : List Deed) (s : Bidding) (round : ℕ) : Type 0 where
  pub own : List Intent
  pub after : Bidding
  pub did : Did who old new s own after
  pub settle : All (λ (i : Intent). i.want ≡ None) own
  pub top_is : after.top ≡ round
  pub services_is : length after.failed ≡ n

-- the desk goes on by readings of vote lists and by bids that settle, its own list by their offers, and each deed is true; of the
-- state the round alone changes, and the keeper has it but for its round: that is the state's at most, or above it by the slack at
-- most; no less than the last that was kept, and than the keeper's before
pub record Catches (slack : ℕ) (old new : DeskView) (before after : Kept) : Type 0 where
  pub effect : DeskBids old new
  pub history : OwnHistory old new
  pub truths : TrueDeeds old new
  pub kinds : (deed : Deed) → Contains truths.deeds deed → IsCatchingDeed deed
  pub kept_there : HasKeptRound new (last_kept 0 truths.deeds)
  pub stays_kept : WhereTold old.keep.told ((r : ℕ) → round_of (old.keep.texts State) ≡ Some r → HasKeptRound new r)
  pub state : IsStateAt slack new after
  pub ranges : HasRanges after
  pub round : after ≡ with_round before after.round
  pub runs : (s : Bidding) → s.top ≡ before.round → length s.failed ≡ old.services → Settled old.client old.services old.deeds new.deeds s after.round

-- the chain and what it has read go on
pub record ChainGoesOn (old new : ChainView) : Type 0 where
  pub setting : new.setting ≡ old.setting
  pub members : IsPrefix old.members new.members
  pub lists : (service : ℕ) → IsPrefix (texts_read old service) (texts_read new service)

-- where a setting is told, each position with an entry that was chosen by what was known at entry is in the chain
abbrev pub IsUpToDate : DeskView → ℕ → Type 0
IsUpToDate old end = OnTold' old (λ setting. (k : ℕ) (e : Entry) → IsChosen (votes_told old.pass.lists) (origin_of setting) k e → k ≤ end)

-- the position behind the end was not settled, for this refusal
abbrev pub IsUnsettled : DeskView → DeskView → Kept → ℕ → ChainView → Refusal → Type 0
IsUnsettled old new before round chain refusal = (s : Bidding) → s.top ≡ before.round → length s.failed ≡ old.services
    → Proposed (intent_of None (voters_behind (origin_of chain.setting) chain.members) (length chain.members + 1)) old new s round (Err refusal)

-- the last step of catching up gave no answer: the chain could not be learnt, or the position behind its end not be settled
pub record IsRefused (old new : DeskView) (before : Kept) (first last : ChainView) (round : ℕ) (refusal : Refusal) : Type 0 where
  pub desk : DeskView
  pub kept : Kept
  pub chain : ChainView
  pub goes : Catches 0 old desk before kept
  pub grows : ChainGoesOn first chain
  pub why : Learns chain last desk new (Err refusal) ⊎ ((last ≡ chain) × IsUnsettled desk new kept round chain refusal)

-- what catching up answers: the end of the chain, where it has what was chosen at entry; or why it stopped
abbrev pub CatchesUp : DeskView → DeskView → Kept → ℕ → ChainView → ChainView → Result ℕ Refusal → Type 0
CatchesUp old new before round first last (Ok end) = (end ≡ length last.members) × IsUpToDate old end
CatchesUp old new before round first last (Err refusal) = (refusal ≡ refusals.NoMemory) ⊎ IsRefused old new before first last round refusal

-- what settling the position behind the end answers: whether the chain gained what was decided there; else, where a setting is told,
-- nothing was chosen there at entry
abbrev pub Settles : DeskView → DeskView → Kept → ℕ → ChainView → ChainView → Result Bool Refusal → Type 0
Settles old new before round first last (Ok true) =
    (e : Entry) × LinksBehind (origin_of first.setting) first.members e × (last ≡ record first { members = first.members ++ e ∷ [] })
Settles old new before round first last (Ok false) =
    (last ≡ first) × OnTold old ((e : Entry) → ChosenBy (votes_told old.pass.lists) (voters_behind (origin_of first.setting) first.members) (length first.members + 1) e → ⊥)
Settles old new before round first last (Err refusal) = (last ≡ first) × ((refusal ≡ refusals.NoMemory) ⊎ IsUnsettled old new before round first refusal)
