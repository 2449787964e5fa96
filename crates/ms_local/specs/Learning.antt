-- Chains that are learnt at a desk.
use Rattle.std.specs.Prelude.{◌≡◌, ◌⊎◌, ◌↔◌, ℕ, ◌+◌, ◌*◌, ◌<◌, ◌≤◌, ◌==◌, Bool, true, false, List, [], ◌∷◌, ◌++◌, Some, Result, Ok, Err, Contains, count_by, length, slice_get, slice_index_or, take}
use Rattle.std.specs.List.{list_any}
use mathlib.Core.List.{IsPrefix}
use Rattle.ms_base.specs.declared.bytes.NoMemory.{NoMemory}
use Rattle.ms_core.specs.Views.{log_in, votes_told}
use Rattle.ms_link.specs.Links.{Learns as PassLearns}
use Rattle.ms_record.specs.declared.ballot.Ballot.{Ballot}
use Rattle.ms_record.specs.declared.entry.Entry.{Entry}
use Rattle.ms_record.specs.declared.record.Record.{Record}
use Rattle.ms_record.specs.declared.refusal.Refusal.{Refusal}
use Rattle.ms_record.specs.declared.refusal.Refusal.TheVariants as refusals
use Rattle.ms_record.specs.declared.setting.Setting.{Setting}
use Rattle.ms_record.specs.Chains.{IsLinked, LinksBehind, voters_behind}
use Rattle.ms_record.specs.Entries.{name_of}
use Rattle.ms_record.specs.Logs.{vote_texts}
use Rattle.ms_record.specs.Reading.{votes_of}
use Rattle.ms_record.specs.Settings.{origin_of}
use Rattle.ms_record.specs.Votes.{ChosenBy, IsTaken}
use Rattle.ms_local.specs.declared.deed.Deed.{Deed}
use Rattle.ms_local.specs.declared.deed.Deed.TheVariants.{Listed}
use Rattle.ms_local.specs.declared.learner.Learnt.{Learnt}
use Rattle.ms_local.specs.Desks.{DeskView, HasFault, KnowsTold, LanesStay, OnTold}

-- a chain: the setting that it begins with, its members behind the genesis, and the texts that it has read of each vote list
pub record ChainView : Type 0 where
  pub setting : Setting
  pub members : List Entry
  pub lists : List (List (List ℕ))

abbrev pub texts_read : ChainView → ℕ → List (List ℕ)
texts_read chain service = slice_index_or chain.lists service []

abbrev pub votes_read : ChainView → ℕ → List Record
votes_read chain service = votes_of (texts_read chain service)

-- where a setting is told it is the chain's, whose members are linked there, and what it has read is there
pub record IsKnown (chain : ChainView) (desk : DeskView) (setting : Setting) : Type 0 where
  pub setting_is : setting ≡ chain.setting
  pub linked : IsLinked (votes_told desk.pass.lists) (origin_of chain.setting) chain.members
  pub read : (service : ℕ) → IsPrefix (texts_read chain service) (vote_texts (log_in desk.pass.lists service))

-- the chain may be learnt at this desk
pub record IsOfDesk (chain : ChainView) (desk : DeskView) : Type 0 where
  pub services : chain.setting.services ≡ desk.services
  pub client : desk.client < chain.setting.clients
  pub known : (setting : Setting) → KnowsTold desk setting → IsKnown chain desk setting

-- this entry alone is chosen behind the members, by what the chain has read, and it links on to them
pub record IsNextRead (chain : ChainView) (members : List Entry) (e : Entry) : Type 0 where
  pub chosen : ChosenBy (votes_read chain) (voters_behind (origin_of chain.setting) members) (length members + 1) e
  pub only : (f : Entry) → ChosenBy (votes_read chain) (voters_behind (origin_of chain.setting) members) (length members + 1) f → f ≡ e
  pub links : LinksBehind (origin_of chain.setting) members e

-- the chain and what it has read go on, and each member that it gained is chosen by what it has read and links on
pub record ChainGrows (old new : ChainView) : Type 0 where
  pub setting : new.setting ≡ old.setting
  pub members : IsPrefix old.members new.members
  pub lists : (service : ℕ) → IsPrefix (texts_read old service) (texts_read new service)
  pub gained : (k : ℕ) (e : Entry) → length old.members ≤ k → slice_get new.members k ≡ Some e → IsNextRead new (take k new.members) e

-- nothing more is to be gained by what it has read
abbrev pub IsWhole : ChainView → Type 0
IsWhole chain = (e : Entry) → IsNextRead chain chain.members e → ⊥

-- the greatest position with a taken Accept in what the chain has read, 0 without one
pub record IsSeen (chain : ChainView) (seen : ℕ) : Type 0 where
  pub none_above : (service place position : ℕ) (b : Ballot) (e : Entry) → IsTaken (votes_read chain service) place position b e → position ≤ seen
  pub stands : (seen ≡ 0) ⊎ ((service place : ℕ) × (b : Ballot) × (e : Entry) × IsTaken (votes_read chain service) place seen b e)

-- half of the voters or more are among these services
abbrev pub HasHalf : List ℕ → List ℕ → Type 0
HasHalf failed voters = length voters ≤ 2 * count_by (λ v. list_any (λ s. s == v) failed) voters

-- the reading of a vote list
abbrev pub IsListing : Deed → Type 0
IsListing (Listed service list from count ok) = list.0 ≡ 0
IsListing deed = ⊥

-- it failed
abbrev pub IsFailed : Deed → Type 0
IsFailed (Listed service list from count ok) = ok ≡ false
IsFailed deed = ⊥

-- where a setting is told, what was known at entry of the service's vote list was read
abbrev pub IsFresh : ChainView → DeskView → ℕ → Type 0
IsFresh new before s = OnTold before (IsPrefix (vote_texts (log_in before.pass.lists s)) (texts_read new s))

-- so many texts more came of the service's list, all that was known of it among those that were read; or the link failed, and
-- none came
abbrev pub Brings : ChainView → ChainView → DeskView → DeskView → ℕ → ℕ → Bool → Type 0
Brings old new before after s count true = (length (texts_read new s) ≡ length (texts_read old s) + count) × IsFresh new before s
Brings old new before after s count false = (count ≡ 0) × (texts_read new s ≡ texts_read old s) × HasFault before after s

-- the reading of the service's vote list from where the chain left off, and what it brought
abbrev pub ReadsOn : ChainView → ChainView → DeskView → DeskView → ℕ → Deed → Type 0
ReadsOn old new before after s (Listed service list from count ok) =
    (service.0 ≡ s) × (list.0 ≡ 0) × (from ≡ length (texts_read old s)) × Brings old new before after s count ok
ReadsOn old new before after s deed = ⊥

-- each service's list was read once, in the order of the services, and `failed` are those whose reading failed
pub record ReadsAll (old new : ChainView) (before after : DeskView) (failed : List ℕ) : Type 0 where
  pub more : List Deed
  pub deeds : after.deeds ≡ before.deeds ++ more
  pub all : length more ≡ before.services
  pub each : (s : ℕ) (deed : Deed) → slice_get more s ≡ Some deed → ReadsOn old new before after s deed
  pub no_others : (s : ℕ) → before.services ≤ s → texts_read new s ≡ texts_read old s
  pub failed_are : (s : ℕ) → Contains failed s ↔ ((deed : Deed) × (slice_get more s ≡ Some deed) × IsFailed deed)

-- so many texts of the service's list came, of which not all may have been taken; or the link failed, and none came
abbrev pub Begins : ChainView → ChainView → DeskView → DeskView → ℕ → ℕ → Bool → Type 0
Begins old new before after s count true = length (texts_read new s) ≤ length (texts_read old s) + count
Begins old new before after s count false = (count ≡ 0) × (texts_read new s ≡ texts_read old s) × HasFault before after s

-- the reading of the service's vote list from where the chain left off
abbrev pub StartsOn : ChainView → ChainView → DeskView → DeskView → ℕ → Deed → Type 0
StartsOn old new before after s (Listed service list from count ok) =
    (service.0 ≡ s) × (list.0 ≡ 0) × (from ≡ length (texts_read old s)) × Begins old new before after s count ok
StartsOn old new before after s deed = ⊥

-- whatever is answered, the lists of the first services were read once each, in the order of the services
pub record ReadsSome (old new : ChainView) (before after : DeskView) : Type 0 where
  pub more : List Deed
  pub deeds : after.deeds ≡ before.deeds ++ more
  pub few : length more ≤ before.services
  pub each : (s : ℕ) (deed : Deed) → slice_get more s ≡ Some deed → StartsOn old new before after s deed
  pub no_others : (s : ℕ) → length more ≤ s → texts_read new s ≡ texts_read old s

-- the deeds of a learning are readings of vote lists alone; the pass learns, and all else but counts of faults stays
pub record DeskLearns (old new : DeskView) : Type 0 where
  pub same : new ≡ record old { pass = new.pass; lanes = new.lanes; deeds = new.deeds }
  pub pass : PassLearns old.pass new.pass
  pub lanes : LanesStay old.lanes new.lanes
  pub deeds : (more : List Deed) × (new.deeds ≡ old.deeds ++ more) × ((deed : Deed) → Contains more deed → IsListing deed)

-- at a position up to the one behind the end, half of its voters or more are among these services
pub record LacksMajority (chain : ChainView) (failed : List ℕ) : Type 0 where
  pub members : ℕ
  pub within : members ≤ length chain.members
  pub half : HasHalf failed (voters_behind (origin_of chain.setting) (take members chain.members))

-- each list was read, but for those of fewer than half of the voters of each position up to the one behind the end
pub record ReadsEnough (old new : ChainView) (before after : DeskView) : Type 0 where
  pub failed : List ℕ
  pub reads : ReadsAll old new before after failed
  pub enough : LacksMajority new failed → ⊥

-- two entries that differ are chosen at one position, by what the chain has read
pub record IsSplit (chain : ChainView) (position : ℕ) (first second : List ℕ) : Type 0 where
  pub members : ℕ
  pub within : members ≤ length chain.members
  pub at : position ≡ members + 1
  pub one : Entry
  pub other : Entry
  pub one_chosen : ChosenBy (votes_read chain) (voters_behind (origin_of chain.setting) (take members chain.members)) position one
  pub other_chosen : ChosenBy (votes_read chain) (voters_behind (origin_of chain.setting) (take members chain.members)) position other
  pub differ : one ≡ other → ⊥
  pub one_named : first ≡ name_of one
  pub other_named : second ≡ name_of other

-- what was learnt: enough was read, no position is split by it, and nothing more is to be gained
pub record IsLearnt (old new : ChainView) (before after : DeskView) (learnt : Learnt) : Type 0 where
  pub reads : ReadsEnough old new before after
  pub one : (position : ℕ) (first second : List ℕ) → IsSplit new position first second → ⊥
  pub whole : IsWhole new
  pub end : learnt.end ≡ length new.members
  pub seen : IsSeen new learnt.seen

-- what a learning answers, and no other refusal; a split is judged where enough was read, and never comes where a setting is told
abbrev pub Learns : ChainView → ChainView → DeskView → DeskView → Result Learnt Refusal → Type 0
Learns old new before after (Ok learnt) = IsLearnt old new before after learnt
Learns old new before after (Err (refusals.NoMajority failed)) =
    ReadsAll old new before after failed × LacksMajority new failed × IsWhole new
Learns old new before after (Err (refusals.Split position first second)) =
    ReadsEnough old new before after × IsSplit new position first.0 second.0 × OnTold before ⊥
Learns old new before after (Err refusals.NoMemory) = Unit {0}
Learns old new before after (Err refusal) = ⊥

-- what adding a decided entry answers
abbrev pub Adds : ChainView → ChainView → Entry → Result Bool NoMemory → Type 0
Adds old new e (Ok true) = LinksBehind (origin_of old.setting) old.members e × (new ≡ record old { members = old.members ++ e ∷ [] })
Adds old new e (Ok false) = (LinksBehind (origin_of old.setting) old.members e → ⊥) × (new ≡ old)
Adds old new e (Err error) = new ≡ old
