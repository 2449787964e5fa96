-- What a proposal answers, as its deeds show it.
use Rattle.std.specs.Prelude.{◌≡◌, ◌↔◌, ℕ, ◌+◌, ◌<◌, ◌≤◌, Bool, true, false, List, [], ◌∷◌, ◌++◌, Option, Some, None, Result, Ok, Err, Contains, IsTrue, length, slice_get}
use mathlib.Core.List.{IsPrefix}
use Rattle.ms_base.specs.Counts.{Rose}
use Rattle.ms_base.specs.declared.limits.TheConstants.{LAST_NUMBER, GREATEST_NUMBER}
use Rattle.ms_base.specs.declared.names.Quantity.TheVariants.{Position, Round}
use Rattle.ms_bid.specs.declared.act.Outcome.{Outcome}
use Rattle.ms_bid.specs.declared.act.Outcome.TheVariants as ends
use Rattle.ms_bid.specs.Ends.{flag_at}
use Rattle.ms_core.specs.Views.{votes_told}
use Rattle.ms_record.specs.declared.ballot.Ballot.{Ballot}
use Rattle.ms_record.specs.declared.entry.Entry.{Entry}
use Rattle.ms_record.specs.declared.refusal.Place.TheVariants.{Keep}
use Rattle.ms_record.specs.declared.refusal.Refusal.{Refusal}
use Rattle.ms_record.specs.declared.refusal.Refusal.TheVariants as refusals
use Rattle.ms_record.specs.declared.refusal.Rival.{Rival}
use Rattle.ms_record.specs.Votes.{ChosenBy}
use Rattle.ms_local.specs.declared.deed.Deed.{Deed}
use Rattle.ms_local.specs.declared.deed.Deed.TheVariants.{Kept as KeptDeed}
use Rattle.ms_local.specs.Desks.{DeskView, OnTold}
use Rattle.ms_local.specs.Rules.{Bidding, Intent, IsDecided}
use Rattle.ms_propose.specs.declared.proposal.Decided.{Decided}
use Rattle.ms_propose.specs.Bidding.{BidBroken, EndsAs, WasOutbid}

-- these services, by flags
abbrev pub AreFlagged : List ℕ → List Bool → Type 0
AreFlagged services flags = (s : ℕ) → Contains services s ↔ (flag_at flags s ≡ true)

-- the bid of each rival's number was outbid by it
abbrev pub AreOutbid : ℕ → ℕ → Intent → List Deed → List Deed → Bidding → List Rival → Type 0
AreOutbid who n intent old now s rivals = (number : ℕ) (r : Rival) → slice_get rivals number ≡ Some r → WasOutbid who n intent old now s number r.service r.top

-- bids were made, each of which a greater ballot stopped
pub record BidsMade (who n : ℕ) (intent : Intent) (old now : List Deed) (s : Bidding) (round : ℕ) (rivals : List Rival) : Type 0 where
  pub bids : BidBroken who n intent old now s round
  pub each : length bids.own ≡ length rivals
  pub outbid : AreOutbid who n intent old now s rivals

-- the last deed since then is the keeping of a round that failed
pub record EndsUnkept (old new : List Deed) : Type 0 where
  pub earlier : List Deed
  pub begins : IsPrefix old earlier
  pub round : ℕ
  pub last : new ≡ earlier ++ KeptDeed round false ∷ []

-- what the answer says of the deeds: how the last bid ended, or that 16 bids were outbid, or that a number had no successor
abbrev pub IsAnswer : Intent → DeskView → DeskView → Bidding → List Intent → Bidding → ℕ → Result (Option Decided) Refusal → Type 0
IsAnswer intent old new s own after round (Ok (Some decided)) =
    (ballot : Ballot) × EndsAs old.client old.services ballot intent after round (ends.Decided decided.entry) × IsDecided after intent.position decided.entry
IsAnswer intent old new s own after round (Ok None) = (ballot : Ballot) × EndsAs old.client old.services ballot intent after round ends.Nothing × (intent.want ≡ None)
IsAnswer intent old new s own after round (Err (refusals.Limit Position value)) = (value ≡ GREATEST_NUMBER) × (LAST_NUMBER < intent.position) × (own ≡ [])
IsAnswer intent old new s own after round (Err (refusals.Limit Round value)) = (value ≡ GREATEST_NUMBER) × (round ≡ LAST_NUMBER) × (length own < 16)
IsAnswer intent old new s own after round (Err (refusals.NoMajority failed)) =
    (ballot : Ballot) × (flags : List Bool) × EndsAs old.client old.services ballot intent after round (ends.NoMajority flags) × AreFlagged failed flags
IsAnswer intent old new s own after round (Err (refusals.Unlisted service ballot)) = EndsAs old.client old.services ballot intent after round (ends.Unlisted service)
IsAnswer intent old new s own after round (Err (refusals.Contended rivals)) =
    (length own ≡ 16) × (length rivals ≡ 16) × AreOutbid old.client old.services intent old.deeds new.deeds s rivals
IsAnswer intent old new s own after round (Err (refusals.OutsideFault Keep)) = Rose old.keep.faults new.keep.faults × EndsUnkept old.deeds new.deeds
IsAnswer intent old new s own after round (Err refusals.NoMemory) = Unit {0}
IsAnswer intent old new s own after round answer = ⊥

-- the deeds of a proposal are those of 16 bids at most, each of which but for the last was outbid, and its answer is what they show
pub record Proposed (intent : Intent) (old new : DeskView) (s : Bidding) (round : ℕ) (result : Result (Option Decided) Refusal) : Type 0 where
  pub bids : BidBroken old.client old.services intent old.deeds new.deeds s round
  pub few : length bids.own ≤ 16
  pub rivals : List Rival
  pub outbid : AreOutbid old.client old.services intent old.deeds new.deeds s rivals
  pub but_last : length bids.own ≤ length rivals + 1
  pub answer : IsAnswer intent old new s bids.own bids.after round result

-- what the answer says of the services, where a setting is told: what was decided is chosen, where there is nothing to settle nothing
-- was chosen at entry, and none is unlisted
abbrev pub Says : DeskView → DeskView → List ℕ → ℕ → Result (Option Decided) Refusal → Type 0
Says old new voters position (Ok (Some decided)) = OnTold old (ChosenBy (votes_told new.pass.lists) voters position decided.entry)
Says old new voters position (Ok None) = OnTold old ((entry : Entry) → ChosenBy (votes_told old.pass.lists) voters position entry → ⊥)
Says old new voters position (Err (refusals.Unlisted service ballot)) = OnTold old ⊥
Says old new voters position answer = Unit {0}

-- the keeper may lack the round of the last bid, or have it where it is not known
abbrev pub slack_after : Refusal → ℕ
slack_after (refusals.OutsideFault place) = 1
slack_after refusals.NoMemory = 1
slack_after refusal = 0

abbrev pub slack_at : {T : Type 0} → Result T Refusal → ℕ
slack_at (Ok answer) = 0
slack_at (Err refusal) = slack_after refusal

-- the answer to the end of a bid that was not outbid
abbrev pub IsAnswerTo : Outcome → Ballot → Option Entry → Result (Option Decided) Refusal → Type 0
IsAnswerTo (ends.Decided entry) ballot want answer = (mine : Bool) × (answer ≡ Ok (Some (record { entry = entry; mine = mine }))) × (IsTrue mine ↔ (want ≡ Some entry))
IsAnswerTo ends.Nothing ballot want answer = answer ≡ Ok None
IsAnswerTo (ends.NoMajority flags) ballot want answer = (failed : List ℕ) × (answer ≡ Err (refusals.NoMajority failed)) × AreFlagged failed flags
IsAnswerTo (ends.Unlisted service) ballot want answer = answer ≡ Err (refusals.Unlisted service ballot)
IsAnswerTo ends.KeepFault ballot want answer = answer ≡ Err (refusals.OutsideFault Keep)
IsAnswerTo (ends.Outbid service top) ballot want answer = ⊥
