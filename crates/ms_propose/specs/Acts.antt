-- The acts of a bid at a desk: what may be done, its deed, and what it leaves.
use Rattle.std.specs.Prelude.{◌≡◌, ℕ, ◌<◌, ◌≤◌, true, false, [], ◌∷◌, ◌++◌, Result, Ok, Err, max, Contains}
use Rattle.ms_base.specs.Counts.{Rose}
use Rattle.ms_base.specs.declared.bytes.NoMemory.{NoMemory}
use Rattle.ms_base.specs.declared.limits.TheConstants.{LAST_NUMBER}
use Rattle.ms_bid.specs.declared.act.Act.{Act}
use Rattle.ms_bid.specs.declared.act.Act.TheVariants.{Keep, Send, Look, Declare}
use Rattle.ms_bid.specs.declared.act.Answer.{Answer}
use Rattle.ms_bid.specs.declared.act.Answer.TheVariants.{Kept as KeptAnswer, Sent, Seen, Declared, Failed}
use Rattle.ms_bid.specs.Bids.{fits}
use Rattle.ms_core.specs.Views.{log_in, offers_told, SupportsOffer, SupportsVote}
use Rattle.ms_ken.specs.Lists.{with_told}
use Rattle.ms_link.specs.Links.{Learns as PassLearns}
use Rattle.ms_record.specs.declared.item.Item.TheVariants.{Offer}
use Rattle.ms_record.specs.declared.log.ListId.{ListId}
use Rattle.ms_record.specs.declared.record.Record.TheVariants.{Accept}
use Rattle.ms_record.specs.Records.{IsRecord, record_text}
use Rattle.ms_record.specs.Logs.{vote_texts}
use Rattle.ms_local.specs.declared.deed.Deed.{Deed}
use Rattle.ms_local.specs.declared.deed.Deed.TheVariants.{KeepFailed, Kept as KeptDeed, Appended, Declared as DeclaredDeed, Looked}
use Rattle.ms_local.specs.declared.deed.Message.TheVariants.{Vote as VoteText}
use Rattle.ms_local.specs.declared.kept.Kept.{Kept}
use Rattle.ms_local.specs.Desks.{DeskView, HasKeptRound, MayKeepRound}
use Rattle.ms_local.specs.Desks.{OnTold, OnTold', faults_at}
use Rattle.ms_replay.specs.Looks.{IsInRange}
use Rattle.ms_local.specs.Keeping.{HasState, MayHaveState}
use Rattle.ms_local.specs.Outside.{WhereTold}
use Rattle.ms_local.specs.Rules.{shown_round}
use Rattle.ms_local.specs.Truths.{IsTrueSight, no_sight}
use Rattle.ms_propose.specs.declared.acts.Aim.{Aim}
use Rattle.ms_propose.specs.Going.{DeskBids}

abbrev pub vote_list : ListId
vote_list = record { 0 = 0 }

-- the deed of an act that was done and answered
abbrev pub deed_of : Act → Answer → Deed
deed_of (Keep round) KeptAnswer = KeptDeed round true
deed_of (Keep round) Failed = KeptDeed round false
deed_of (Send service message) Sent = Appended service vote_list (VoteText message) true
deed_of (Send service message) Failed = Appended service vote_list (VoteText message) false
deed_of (Look service) (Seen sight) = Looked service sight true
deed_of (Look service) Failed = Looked service no_sight false
deed_of (Declare offer) Declared = DeclaredDeed offer
deed_of act answer = KeepFailed

-- the kept round after an answer: a sight's is at least that of the ballot that it shows
abbrev pub kept_round : ℕ → Act → Answer → ℕ
kept_round old (Keep round) KeptAnswer = round
kept_round old (Look service) (Seen sight) = max old (shown_round sight.top)
kept_round old act answer = old

-- what may be done
abbrev pub MayDo : DeskView → Act → Type 0
MayDo desk (Keep round) = (round ≤ LAST_NUMBER) × MayKeepRound desk round
MayDo desk (Send service message) = (service.0 < desk.services) × IsRecord message × OnTold desk (SupportsVote (offers_told desk.pass.lists) (record_text message))
MayDo desk (Look service) = service.0 < desk.services
MayDo desk (Declare (Accept k b e)) =
    HasKeptRound desk b.round × OnTold' desk (λ setting. (desk.client < setting.clients) × SupportsOffer setting (log_in desk.pass.lists) desk.client (offers_told desk.pass.lists desk.client) k b e)
MayDo desk act = ⊥

-- with this round
abbrev pub with_round : Kept → ℕ → Kept
with_round kept round = record kept { round = round }

-- the call failed, or found no memory: the keeper of a round may have its state, and is else as before
abbrev pub MayHaveKept : Act → DeskView → DeskView → Kept → Type 0
MayHaveKept (Keep round) old new kept = WhereTold old.keep.told (MayHaveState (with_round kept round) old.keep.texts new.keep.texts)
MayHaveKept act old new kept = new.keep ≡ old.keep

-- what the act leaves beside its deed, by the answer; `kept` is the state after it
abbrev pub Leaves : Aim → Act → Answer → DeskView → DeskView → Kept → Type 0
Leaves aim (Keep round) KeptAnswer old new kept = (new.pass ≡ old.pass) × WhereTold old.keep.told (HasState kept old.keep.texts new.keep.texts)
Leaves aim (Keep round) Failed old new kept = (new.pass ≡ old.pass) × Rose old.keep.faults new.keep.faults × MayHaveKept (Keep round) old new kept
Leaves aim (Send service message) Sent old new kept =
    PassLearns old.pass new.pass × (new.keep ≡ old.keep) × OnTold old (Contains (vote_texts (log_in new.pass.lists service.0)) (record_text message))
Leaves aim (Send service message) Failed old new kept = PassLearns old.pass new.pass × (new.keep ≡ old.keep) × Rose (faults_at old service.0) (faults_at new service.0)
Leaves aim (Look service) (Seen sight) old new kept =
    PassLearns old.pass new.pass × (new.keep ≡ old.keep) × IsInRange sight × OnTold old (IsTrueSight old.pass.lists new.pass.lists aim.position aim.ballot service.0 sight)
Leaves aim (Look service) Failed old new kept = PassLearns old.pass new.pass × (new.keep ≡ old.keep) × Rose (faults_at old service.0) (faults_at new service.0)
Leaves aim (Declare offer) Declared old new kept = (new.pass ≡ record old.pass { lists = with_told old.pass.lists old.pass.word (Offer offer) }) × (new.keep ≡ old.keep)
Leaves aim act answer old new kept = ⊥

-- the act was done: the answer is one to it, its deed is the last, and the kept round is the greatest that is known
pub record DoesAct (aim : Aim) (act : Act) (answer : Answer) (old new : DeskView) (before after : Kept) : Type 0 where
  pub fits_it : fits act answer ≡ true
  pub deed : new.deeds ≡ old.deeds ++ deed_of act answer ∷ []
  pub round : after ≡ with_round before (kept_round before.round act answer)
  pub goes : DeskBids old new
  pub leaves : Leaves aim act answer old new after

-- memory ran out: no deed was noted, and the own list is as it was
pub record Halts (act : Act) (old new : DeskView) (before after : Kept) : Type 0 where
  pub deed : new.deeds ≡ old.deeds
  pub round : after ≡ before
  pub goes : DeskBids old new
  pub pass : PassLearns old.pass new.pass
  pub keep : MayHaveKept act old new before

-- what an act leaves, whatever is answered
abbrev pub Acts : Aim → Act → DeskView → DeskView → Kept → Kept → Result Answer NoMemory → Type 0
Acts aim act old new before after (Ok answer) = DoesAct aim act answer old new before after
Acts aim act old new before after (Err error) = Halts act old new before after
