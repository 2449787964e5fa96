-- The first bids in a view that tells a setting, step by step: a version, the promise, the offer, the vote; and a drop.
use Rattle.std.specs.Prelude.{◌≡◌, ℕ, List, [], ◌∷◌, Some, length}
use Rattle.sha2.specs.Sha256.{sha256}
use Rattle.ms_base.specs.declared.names.Name.{Name}
use Rattle.ms_core.specs.Valid.{IsLive}
use Rattle.ms_core.specs.Views.{View, configuration, owner_of_client, log_in, votes_told, IsClosed}
use Rattle.ms_ken.specs.Lists.{list_at, with_item, MayFollow}
use Rattle.ms_record.specs.declared.ballot.Ballot.{Ballot}
use Rattle.ms_record.specs.declared.entry.Entry.{Entry}
use Rattle.ms_record.specs.declared.item.Item.{Item}
use Rattle.ms_record.specs.declared.item.Item.TheVariants.{Log, Offer, Told}
use Rattle.ms_record.specs.declared.log.LogEvent.TheVariants.{Rec, Put, Drop}
use Rattle.ms_record.specs.declared.record.Record.TheVariants.{Prepare, Accept}
use Rattle.ms_record.specs.declared.setting.Setting.{Setting}
use Rattle.ms_record.specs.Chains.{IsChain, IsChosen}
use Rattle.ms_record.specs.Logs.{HasPut, Stands}
use Rattle.ms_record.specs.Settings.{origin_of}
use Rattle.ms_record.specs.Reading.{record_at}

-- a text of the vote list
abbrev pub vote : List ℕ → Item
vote text = Log (Rec (record { 0 = 0 }) text)

-- service 0 keeps one text more in a generation; it has one text more in its vote list; client 0 has one offer more
abbrev pub with_put : View → ℕ → List ℕ → View
with_put view generation text = with_item view 0 (Log (Put generation (record { 0 = sha256 text }) text))

abbrev pub with_vote : View → List ℕ → View
with_vote view text = with_item view 0 (vote text)

abbrev pub with_offer : View → ℕ → Ballot → Entry → View
with_offer view position ballot entry = with_item view (owner_of_client 0) (Offer (Accept position ballot entry))

-- service 0 dropped what lies below a generation
abbrev pub with_drop : View → ℕ → View
with_drop view floor = with_item view 0 (Log (Drop floor))

-- The Prepare may follow in the view, and the offer has support only behind it. The Accept has support only behind the offer: it
-- may follow there, and by it the entry is chosen.
pub record IsBid (setting : Setting) (view : View) (position : ℕ) (ballot : Ballot) (entry : Entry) (prepare accept : List ℕ) : Type 0 where
  pub wide : length view ≡ 33
  pub told : list_at view configuration ≡ Told setting ∷ []
  pub closed : IsClosed view
  pub prepares : record_at prepare ≡ Some (Prepare position ballot)
  pub accepts : record_at accept ≡ Some (Accept position ballot entry)
  pub promise : MayFollow IsClosed 33 view 0 (vote prepare)
  pub hasty : IsClosed (with_offer view position ballot entry) → ⊥
  pub offer : IsClosed (with_offer (with_vote view prepare) position ballot entry)
  pub early : IsClosed (with_vote (with_vote view prepare) accept) → ⊥
  pub takes : MayFollow IsClosed 33 (with_offer (with_vote view prepare) position ballot entry) 0 (vote accept)
  pub chosen : IsChosen (votes_told (with_vote (with_offer (with_vote view prepare) position ballot entry) accept)) (origin_of setting) position entry

-- the view is closed behind the promise, and the offer has no support there
abbrev pub MayNotOffer : View → ℕ → Ballot → Entry → List ℕ → Type 0
MayNotOffer view position ballot entry prepare = IsClosed (with_vote view prepare) × (IsClosed (with_offer (with_vote view prepare) position ballot entry) → ⊥)

-- where a drop may follow, and where it has no support
abbrev pub MayDrop : View → ℕ → Type 0
MayDrop view floor = MayFollow IsClosed 33 view 0 (Log (Drop floor))

abbrev pub MayNotDrop : View → ℕ → Type 0
MayNotDrop view floor = IsClosed (with_drop view floor) → ⊥

-- the entry is live at position 2 of the chain; something was put in generation 1, and no put of it stands
pub record IsCollected (setting : Setting) (view : View) (entry : Entry) : Type 0 where
  pub chain : List Entry
  pub is : IsChain (votes_told view) (origin_of setting) chain
  pub live : IsLive setting chain 1 entry
  pub name : Name
  pub was_put : HasPut (log_in view 0) 1 name
  pub gone : (service : ℕ) (name : Name) → Stands (log_in view service) 1 name → ⊥
