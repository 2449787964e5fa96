-- Views of the board that services and clients share: what supports an item, and when a view is closed.
use Rattle.std.specs.Prelude.{◌≡◌, ◌≢◌, ℕ, ◌+◌, ◌<◌, ◌⊎◌, List, [], ◌∷◌, ◌++◌, Some, Contains}
use Rattle.sha2.specs.Sha256.{sha256}
use Rattle.ms_base.specs.declared.limits.TheConstants.{CLIENTS, SERVICES}
use Rattle.ms_base.specs.declared.names.ClientId.{ClientId}
use Rattle.ms_base.specs.declared.names.Name.{Name}
use Rattle.ms_core.specs.Placing.{PlacedBy}
use Rattle.ms_core.specs.Valid.{IsValid, IsBacked, judging_plan, votes_of_logs}
use Rattle.ms_ken.specs.Lists.{list_at}
use Rattle.ms_object.specs.declared.format.Format.{Format}
use Rattle.ms_object.specs.declared.object.Object.{Object}
use Rattle.ms_object.specs.Objects.{Spells, format_of, version_object}
use Rattle.ms_object.specs.Trees.{Texts, FileText, IsTree}
use Rattle.ms_record.specs.declared.ballot.Ballot.{Ballot}
use Rattle.ms_record.specs.declared.entry.Entry.{Entry}
use Rattle.ms_record.specs.declared.item.Item.{Item}
use Rattle.ms_record.specs.declared.item.Item.TheVariants.{Log, Offer, Told, Untold}
use Rattle.ms_record.specs.declared.log.LogEvent.{LogEvent}
use Rattle.ms_record.specs.declared.log.LogEvent.TheVariants.{Rec, Put, Drop}
use Rattle.ms_record.specs.declared.record.Record.{Record}
use Rattle.ms_record.specs.declared.record.Record.TheVariants.{Prepare, Accept}
use Rattle.ms_record.specs.declared.setting.Setting.{Setting}
use Rattle.ms_record.specs.Chains.{LinksBehind}
use Rattle.ms_record.specs.Items.{events_of, offers_of_items}
use Rattle.ms_record.specs.Logs.{HasPut, Stands}
use Rattle.ms_record.specs.Offers.{IsOffered, IsJustified}
use Rattle.ms_record.specs.Plans.{PlanView}
use Rattle.ms_record.specs.Reading.{record_at}
use Rattle.ms_record.specs.Settings.{IsSetting, origin_of}

-- for each owner a list of items
abbrev pub View : Type 0
View = List (List Item)

-- the owners: the services 0 to 15, then the clients 0 to 15, then the configuration
abbrev pub owner_of_client : ℕ → ℕ
owner_of_client client = SERVICES + client

abbrev pub configuration : ℕ
configuration = SERVICES + CLIENTS

-- the log of each service, and the offers of each client
abbrev pub log_in : View → ℕ → List LogEvent
log_in view service = events_of (list_at view service)

abbrev pub offers_told : View → ℕ → List Record
offers_told view client = offers_of_items (list_at view (owner_of_client client))

-- the vote list of each service
abbrev pub votes_told : View → ℕ → List Record
votes_told view = votes_of_logs (log_in view)

-- the store has a version of this name, and these are the files of the tree below its root, which is of its format
pub record AreFilesOf (store : Texts) (version : Name) (files : List FileText) : Type 0 where
  pub text : List ℕ
  pub is : store version.0 ≡ Some text
  pub format : Format
  pub client : ClientId
  pub number : ℕ
  pub parents : List Name
  pub root : Name
  pub spells : Spells text (version_object format client number parents root)
  pub rooted : (below : List ℕ) (object : Object) → store root.0 ≡ Some below → Spells below object → format_of object ≡ format
  pub tree : IsTree store root files

-- placed, and by texts whose files are something, where `has` says what a service has
pub record WholeBy (has : ℕ → Name → Type 0) (plan : PlanView) (version : Name) : Type 0 where
  pub placed : PlacedBy has plan version
  pub files : List FileText
  pub are : AreFilesOf placed.store version files

-- whole by puts in the plan's generation, whether they stand or not
abbrev pub IsWhole : (ℕ → List LogEvent) → PlanView → Name → Type 0
IsWhole logs plan version = WholeBy (λ s name. HasPut (logs s) plan.generation name) plan version

-- whole by puts that stand
abbrev pub StaysWhole : (ℕ → List LogEvent) → PlanView → Name → Type 0
StaysWhole logs plan version = WholeBy (λ s name. Stands (logs s) plan.generation name) plan version

-- a valid entry whose version is whole under the plan in force behind it
pub record IsWholeMaster (setting : Setting) (logs : ℕ → List LogEvent) (position : ℕ) (e : Entry) : Type 0 where
  pub valid : IsValid setting logs position e
  pub whole : IsWhole logs (judging_plan setting valid.next.members e) e.version

-- the entry links on to the members, and its version is whole under the plan in force behind them and it
pub record IsNextMaster (setting : Setting) (logs : ℕ → List LogEvent) (members : List Entry) (e : Entry) : Type 0 where
  pub links : LinksBehind (origin_of setting) members e
  pub whole : IsWhole logs (judging_plan setting members e) e.version

-- an Accept that a text of a vote list spells was offered
abbrev pub SupportsVote : (ℕ → List Record) → List ℕ → Type 0
SupportsVote offers text = (position : ℕ) (ballot : Ballot) (entry : Entry) → record_at text ≡ Some (Accept position ballot entry) → IsOffered offers position ballot entry

-- what supports an event of a service's log, where these are all logs and the offers of the clients: a text of a list that has
-- no votes needs nothing
abbrev pub SupportsEvent : Setting → (ℕ → List LogEvent) → (ℕ → List Record) → LogEvent → Type 0
SupportsEvent setting logs offers (Rec list text) = list.0 ≡ 0 → SupportsVote offers text
SupportsEvent setting logs offers (Put generation name text) = name.0 ≡ sha256 text
SupportsEvent setting logs offers (Drop floor) = IsBacked setting logs floor

abbrev pub SupportsLog : Setting → View → Item → Type 0
SupportsLog setting view (Log event) = SupportsEvent setting (log_in view) (offers_told view) event
SupportsLog setting view (Offer offer) = ⊥
SupportsLog setting view (Told other) = ⊥
SupportsLog setting view Untold = ⊥

-- an offer that a client may declare behind its earlier ones: it is the client's own, of a greater round than each of those,
-- follows the rule at a majority of the voters, and its entry links on to a linked list with a version that is placed
pub record IsDeclared (setting : Setting) (logs : ℕ → List LogEvent) (client : ℕ) (before : List Record) (position : ℕ) (ballot : Ballot) (entry : Entry) : Type 0 where
  pub own : ballot.client.0 ≡ client
  pub later : (k : ℕ) (b : Ballot) (e : Entry) → Contains before (Accept k b e) → b.round < ballot.round
  pub justified : IsJustified (votes_of_logs logs) (origin_of setting) position ballot entry
  pub valid : IsValid setting logs position entry

abbrev pub MayDeclare : Setting → (ℕ → List LogEvent) → ℕ → List Record → Record → Type 0
MayDeclare setting logs client before (Accept k b e) = IsDeclared setting logs client before k b e
MayDeclare setting logs client before (Prepare k b) = ⊥

-- what supports an offer: it may be declared, and its version is whole
pub record SupportsOffer (setting : Setting) (logs : ℕ → List LogEvent) (client : ℕ) (before : List Record) (position : ℕ) (ballot : Ballot) (entry : Entry) : Type 0 where
  pub declared : IsDeclared setting logs client before position ballot entry
  pub whole : IsWhole logs (judging_plan setting declared.valid.next.members entry) entry.version

abbrev pub SupportsOwn : Setting → View → ℕ → List Item → Item → Type 0
SupportsOwn setting view client before (Offer (Accept k b e)) = SupportsOffer setting (log_in view) client (offers_of_items before) k b e
SupportsOwn setting view client before (Offer (Prepare k b)) = ⊥
SupportsOwn setting view client before (Log event) = ⊥
SupportsOwn setting view client before (Told other) = ⊥
SupportsOwn setting view client before Untold = ⊥

-- an item behind those before it is supported where its owner is a service or a client of the setting; no other owner has items
abbrev pub IsSupported : Setting → View → ℕ → List Item → Item → Type 0
IsSupported setting view owner before item =
    ((owner < setting.services) × SupportsLog setting view item)
    ⊎ ((client : ℕ) × (owner ≡ owner_of_client client) × (client < setting.clients) × SupportsOwn setting view client before item)

-- the configuration tells this setting alone, and every item of the other owners is supported
pub record TellsSetting (view : View) (setting : Setting) : Type 0 where
  pub alone : list_at view configuration ≡ Told setting ∷ []
  pub ranges : IsSetting setting
  pub supported : (owner : ℕ) (before : List Item) (item : Item) (after : List Item) → owner ≢ configuration → before ++ item ∷ after ≡ list_at view owner
      → IsSupported setting view owner before item

-- nothing is told; or it is told that nothing is claimed; or a setting is told, and each item is supported
abbrev pub IsClosed : View → Type 0
IsClosed view = ((owner : ℕ) → list_at view owner ≡ []) ⊎ ((list_at view configuration ≡ Untold ∷ []) ⊎ ((setting : Setting) × TellsSetting view setting))

-- the view is closed, and a setting is told
pub record Tells (view : View) (setting : Setting) : Type 0 where
  pub closed : IsClosed view
  pub told : list_at view configuration ≡ Told setting ∷ []
