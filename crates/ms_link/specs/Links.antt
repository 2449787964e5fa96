-- What contracts see of a link, and what each of its calls leaves, by the answer.
use Rattle.std.specs.Prelude.{◌≡◌, ℕ, ◌<◌, ◌≤◌, Bool, true, false, List, length, drop, Option, Some, None, Result, Ok, Err, IfSome, slice_get, Contains}
use Rattle.ms_base.specs.Counts.{Rose}
use Rattle.ms_base.specs.declared.names.Name.{Name}
use Rattle.ms_ken.specs.Known.{TableId, Known}
use Rattle.ms_ken.specs.Lists.{list_at, Begins, MayFollow}
use Rattle.ms_link.specs.declared.fault.LinkError.{LinkError}
use Rattle.ms_link.specs.declared.fault.LinkError.TheVariants as errors
use Rattle.ms_record.specs.declared.item.Item.{Item}
use Rattle.ms_record.specs.declared.item.Item.TheVariants.{Log}
use Rattle.ms_record.specs.declared.log.LogEvent.{LogEvent}
use Rattle.ms_record.specs.declared.log.LogEvent.TheVariants.{Put, Drop}
use Rattle.ms_record.specs.Items.{events_of}
use Rattle.ms_record.specs.Logs.{texts_in, HasPut, Stands, NoDropAbove}

-- a link: the board that it tells on, the service's number there, its count of faults; whether its events are items of the
-- board, and whether `has` and `get` answer by them
pub record LinkView : Type 0 where
  pub board : TableId
  pub service : ℕ
  pub faults : ℕ
  pub lists : Bool
  pub objects : Bool

-- a fact where the link tells its lists, and one where it tells its objects too
abbrev pub WhereListed : LinkView → Type 0 → Type 0
WhereListed link P = link.lists ≡ true → P

abbrev pub WhereKept : LinkView → Type 0 → Type 0
WhereKept link P = link.lists ≡ true → link.objects ≡ true → P

-- the board of a call and its pass are of the link's board
pub record IsOnBoard (link : LinkView) (board : TableId) (known : Known Item) : Type 0 where
  pub call : board ≡ link.board
  pub pass : known.board ≡ link.board

-- whoever knows this may have the event added: whatever else is known by then, it may stand at the end of the service's list
abbrev pub MayAdd : (List (List Item) → Type 0) → LinkView → Known Item → LogEvent → Type 0
MayAdd closed link pass event = MayFollow closed link.board.words pass.lists link.service (Log event)

-- all but the count of faults stays, and the count does not fall
pub record Stays (old new : LinkView) : Type 0 where
  pub same : new ≡ record old { faults = new.faults }
  pub later : old.faults ≤ new.faults

-- the pass keeps its board, its word and the list of that word, and knows of every owner what it knew or more
pub record Learns (old new : Known Item) : Type 0 where
  pub board : new.board ≡ old.board
  pub word : new.word ≡ old.word
  pub own : IfSome old.word (λ k. list_at new.lists k ≡ list_at old.lists k)
  pub more : Begins old.lists new.lists

-- the log of the link's service, as far as the pass knows it
abbrev pub log_known : LinkView → Known Item → List LogEvent
log_known link pass = events_of (list_at pass.lists link.service)

-- the event stands in the service's list, behind what was known of it
pub record IsAdded (link : LinkView) (old new : Known Item) (event : LogEvent) : Type 0 where
  pub place : ℕ
  pub behind : length (list_at old.lists link.service) ≤ place
  pub stands : slice_get (list_at new.lists link.service) place ≡ Some (Log event)

-- the greatest floor that was dropped is above the generation
pub record IsStale (link : LinkView) (pass : Known Item) (generation floor : ℕ) : Type 0 where
  pub below : generation < floor
  pub dropped : WhereListed link (Contains (log_known link pass) (Drop floor))
  pub greatest : WhereListed link (NoDropAbove (log_known link pass) floor)

-- no drop is above the generation, and no text was put under the name in it
pub record IsAbsent (log : List LogEvent) (generation : ℕ) (name : Name) : Type 0 where
  pub above : NoDropAbove log generation
  pub none : HasPut log generation name → ⊥

-- no drop is above the generation, and this text was put under the name in it
pub record IsKept (log : List LogEvent) (generation : ℕ) (name : Name) (text : List ℕ) : Type 0 where
  pub above : NoDropAbove log generation
  pub put : Contains log (Put generation name text)

-- an append or a drop
abbrev pub Tells : LinkView → LinkView → Known Item → Known Item → LogEvent → Result Unit LinkError → Type 0
Tells link after old new event (Ok _) = WhereListed link (IsAdded link old new event)
Tells link after old new event (Err errors.Failed) = Rose link.faults after.faults
Tells link after old new event (Err (errors.Stale floor)) = ⊥
Tells link after old new event (Err errors.NoMemory) = Unit {0}

-- a put in this generation
abbrev pub Puts : LinkView → LinkView → Known Item → Known Item → ℕ → LogEvent → Result Unit LinkError → Type 0
Puts link after old new generation event (Ok _) = WhereListed link (IsAdded link old new event) × WhereKept link (NoDropAbove (log_known link new) generation)
Puts link after old new generation event (Err errors.Failed) = Rose link.faults after.faults
Puts link after old new generation event (Err (errors.Stale floor)) = IsStale link new generation floor
Puts link after old new generation event (Err errors.NoMemory) = Unit {0}

-- the texts of a list, from a place on
abbrev pub Lists : LinkView → LinkView → Known Item → ℕ → ℕ → Result (List (List ℕ)) LinkError → Type 0
Lists link after new list from (Ok texts) = WhereListed link (texts ≡ drop from (texts_in list (log_known link new)))
Lists link after new list from (Err errors.Failed) = Rose link.faults after.faults
Lists link after new list from (Err (errors.Stale floor)) = ⊥
Lists link after new list from (Err errors.NoMemory) = Unit {0}

-- whether a put of the name in the generation stands
abbrev pub Has : LinkView → LinkView → Known Item → ℕ → Name → Result Bool LinkError → Type 0
Has link after new generation name (Ok true) = WhereListed link (Stands (log_known link new) generation name)
Has link after new generation name (Ok false) = WhereKept link (IsAbsent (log_known link new) generation name)
Has link after new generation name (Err errors.Failed) = Rose link.faults after.faults
Has link after new generation name (Err (errors.Stale floor)) = IsStale link new generation floor
Has link after new generation name (Err errors.NoMemory) = Unit {0}

-- the text of a put of the name in the generation that stands
abbrev pub Gets : LinkView → LinkView → Known Item → ℕ → Name → Result (Option (List ℕ)) LinkError → Type 0
Gets link after new generation name (Ok None) = WhereKept link (IsAbsent (log_known link new) generation name)
Gets link after new generation name (Ok (Some text)) = WhereKept link (IsKept (log_known link new) generation name text)
Gets link after new generation name (Err errors.Failed) = Rose link.faults after.faults
Gets link after new generation name (Err (errors.Stale floor)) = IsStale link new generation floor
Gets link after new generation name (Err errors.NoMemory) = Unit {0}

-- the answer `Failed` comes only where the count rose
abbrev pub CountsFailed : {A : Type 0} → LinkView → LinkView → Result A LinkError → Type 0
CountsFailed link after result = result ≡ Err errors.Failed → Rose link.faults after.faults

-- what one link tells serves as what the other tells: both lead to one service, and the other tells no more
pub record PassesOut (inner outer : LinkView) : Type 0 where
  pub service : outer.service ≡ inner.service
  pub lists : outer.lists ≡ true → inner.lists ≡ true
  pub objects : outer.objects ≡ true → inner.objects ≡ true

-- the link is of the board, and leads to this service
pub record Leads (board : TableId) (service : ℕ) (link : LinkView) : Type 0 where
  pub on_board : link.board ≡ board
  pub to_service : link.service ≡ service

-- a desk's links are of its board, each to the service of its place
abbrev pub AllLead : TableId → List LinkView → Type 0
AllLead board links = (place : ℕ) (link : LinkView) → slice_get links place ≡ Some link → Leads board place link

-- each of the links tells its lists and its objects
abbrev pub AllTell : List LinkView → Type 0
AllTell links = (place : ℕ) (link : LinkView) → slice_get links place ≡ Some link → (link.lists ≡ true) × (link.objects ≡ true)
