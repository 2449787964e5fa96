-- Desks: what contracts see of one, and what is true of each.
use Rattle.std.specs.Prelude.{◌≡◌, ◌≢◌, ℕ, ◌<◌, ◌≤◌, true, List, [], ◌∷◌, ◌++◌, Option, Some, None, IfSome, length, map, slice_get, slice_index_or, Contains}
use Rattle.std.specs.Arc.{arc_value}
use Rattle.std.specs.Option.{option_map, option_map_or}
use Rattle.ms_base.specs.Counts.{Rose}
use Rattle.ms_core.specs.Views.{configuration, offers_told, owner_of_client}
use Rattle.ms_ken.specs.Known.{TableId, Known}
use Rattle.ms_ken.specs.Lists.{list_at}
use Rattle.ms_link.specs.Links.{LinkView, AllLead, Stays}
use Rattle.ms_record.specs.declared.item.Item.{Item}
use Rattle.ms_record.specs.declared.item.Item.TheVariants.{Told}
use Rattle.ms_record.specs.declared.record.Record.{Record}
use Rattle.ms_record.specs.declared.setting.Setting.{Setting}
use Rattle.ms_record.specs.Votes.{ballot_of}
use Rattle.ms_local.specs.declared.deed.Deed.{Deed}
use Rattle.ms_local.specs.declared.desk.Desk.{Desk}
use Rattle.ms_local.specs.declared.desk.Lane.{Lane}
use Rattle.ms_record.specs.declared.key.Key.TheVariants.{State}
use Rattle.ms_local.specs.Outside.{KeeperView, WorkView, WhereTold}
use Rattle.ms_local.specs.States.{kept_at}

pub record DeskView : Type 0 where
  pub client : ℕ
  pub board : TableId
  pub pass : Known Item
  pub work : WorkView
  pub keep : KeeperView
  pub lanes : List (List LinkView)
  pub services : ℕ
  pub deeds : List Deed

-- the desk by the meanings of its parts
abbrev pub desk_view : {W K L : Type 0} → (W → WorkView) → (K → KeeperView) → (L → LinkView) → Desk W K L → DeskView
desk_view {W} {K} {L} works keeps links desk = record {
  client = desk.client.0;
  board = arc_value desk.board;
  pass = desk.pass;
  work = works desk.work;
  keep = keeps desk.keep;
  lanes = map (λ (lane : Lane L). map links lane.links.items) desk.lanes.items;
  services = desk.services;
  deeds = desk.deeds;
}

-- one deed more
abbrev pub with_deed : DeskView → Deed → DeskView
with_deed desk deed = record desk { deeds = desk.deeds ++ deed ∷ [] }

-- one link for each service, of the board, at the place of the service's number
pub record IsLane (board : TableId) (services : ℕ) (links : List LinkView) : Type 0 where
  pub all : length links ≡ services
  pub lead : AllLead board links

-- the round that the kept text says: 0 where there is none, and none where it is outside the grammar
abbrev pub round_of : Option (List ℕ) → Option ℕ
round_of None = Some 0
round_of (Some text) = option_map (λ kept. kept.round) (kept_at text)

-- no offer has a round above this one
abbrev pub AreWithin : List Record → ℕ → Type 0
AreWithin offers round = (offer : Record) → Contains offers offer → (ballot_of offer).round ≤ round

-- each link tells its lists
abbrev pub TellLists : List LinkView → Type 0
TellLists links = (place : ℕ) (link : LinkView) → slice_get links place ≡ Some link → link.lists ≡ true

-- what is true where this setting is told: it has the desk's services, and its client; the links tell their lists and the keeper
-- its texts, and no offer of the client has a round above the kept one
pub record IsTelling (desk : DeskView) (setting : Setting) : Type 0 where
  pub services : desk.services ≡ setting.services
  pub client : desk.client < setting.clients
  pub lists : (place : ℕ) (links : List LinkView) → slice_get desk.lanes place ≡ Some links → TellLists links
  pub texts : desk.keep.told ≡ true
  pub rounds : IfSome (round_of (desk.keep.texts State)) (AreWithin (offers_told desk.pass.lists desk.client))

-- the pass knows that this setting is told
abbrev pub KnowsTold : DeskView → Setting → Type 0
KnowsTold desk setting = list_at desk.pass.lists configuration ≡ Told setting ∷ []

-- a fact where a setting is told, and one of the setting that is told
abbrev pub OnTold : DeskView → Type 0 → Type 0
OnTold desk P = (setting : Setting) → KnowsTold desk setting → P

abbrev pub OnTold' : DeskView → (Setting → Type 0) → Type 0
OnTold' desk P = (setting : Setting) → KnowsTold desk setting → P setting

-- the link of the first lane to the service, and its count of faults
abbrev pub first_link : DeskView → ℕ → Option LinkView
first_link desk s = slice_get (slice_index_or desk.lanes 0 []) s

abbrev pub faults_at : DeskView → ℕ → ℕ
faults_at desk s = option_map_or (λ (link : LinkView). link.faults) (first_link desk s) 0

-- that count rose
abbrev pub HasFault : DeskView → DeskView → ℕ → Type 0
HasFault before after s = Rose (faults_at before s) (faults_at after s)

-- the pass owns its client's word and knows the item of the configuration; the links of each lane are of the desk's board
pub record IsDesk (desk : DeskView) : Type 0 where
  pub client : desk.client < 16
  pub some_services : 1 ≤ desk.services
  pub few_services : desk.services ≤ 16
  pub owners : desk.board.words ≡ 33
  pub board : desk.pass.board ≡ desk.board
  pub word : desk.pass.word ≡ Some (owner_of_client desk.client)
  pub knows : list_at desk.pass.lists configuration ≢ []
  pub some_lanes : 1 ≤ length desk.lanes
  pub lanes : (place : ℕ) (links : List LinkView) → slice_get desk.lanes place ≡ Some links → IsLane desk.board desk.services links
  pub telling : (setting : Setting) → KnowsTold desk setting → IsTelling desk setting

-- each link of the one list stays what it was in the other
pub record LinksStay (old new : List LinkView) : Type 0 where
  pub all : length new ≡ length old
  pub each : (place : ℕ) (link : LinkView) → slice_get new place ≡ Some link → (before : LinkView) × (slice_get old place ≡ Some before) × Stays before link

pub record LanesStay (old new : List (List LinkView)) : Type 0 where
  pub all : length new ≡ length old
  pub each : (place : ℕ) (links : List LinkView) → slice_get new place ≡ Some links → (before : List LinkView) × (slice_get old place ≡ Some before) × LinksStay before links

-- where the keeper tells its texts, the kept state is of the grammar or absent, and its round is at most this one
abbrev pub MayKeepRound : DeskView → ℕ → Type 0
MayKeepRound desk round = WhereTold desk.keep.told ((before : ℕ) × (round_of (desk.keep.texts State) ≡ Some before) × (before ≤ round))

-- where the keeper tells its texts, the kept state is of the grammar or absent, and its round is at least this one
abbrev pub HasKeptRound : DeskView → ℕ → Type 0
HasKeptRound desk round = WhereTold desk.keep.told ((kept : ℕ) × (round_of (desk.keep.texts State) ≡ Some kept) × (round ≤ kept))
