-- What contracts see of a service behind a lock, and what a change of it leaves.
use Rattle.std.specs.Prelude.{◌≡◌, ℕ, ◌<◌, List, [], ◌∷◌, ◌++◌, length, Some, Result, Ok, Err}
use mathlib.Core.List.{IsPrefix}
use Rattle.ms_record.specs.Floors.{IsFloor}
use Rattle.ms_core.specs.Views.{configuration, log_in}
use Rattle.ms_ken.specs.Known.{TableId, Known}
use Rattle.ms_ken.specs.Lists.{list_at}
use Rattle.ms_link.specs.declared.fault.LinkError.{LinkError}
use Rattle.ms_link.specs.declared.fault.LinkError.TheVariants as errors
use Rattle.ms_memory.specs.Shelves.{Holds}
use Rattle.ms_memory.specs.declared.shelf.Shelf.{Shelf}
use Rattle.ms_record.specs.declared.item.Item.{Item}
use Rattle.ms_record.specs.declared.item.Item.TheVariants.{Log}
use Rattle.ms_record.specs.declared.log.LogEvent.{LogEvent}
use Rattle.ms_record.specs.declared.log.LogEvent.TheVariants.{Rec, Put, Drop}
use Rattle.ms_record.specs.Items.{events_of}
use Rattle.ms_record.specs.Logs.{NoDropAbove}

-- its number on the board, and its log
pub record Served : Type 0 where
  pub service : ℕ
  pub log : List LogEvent

abbrev pub served : ℕ → List LogEvent → Served
served service log = record { service = service; log = log }

-- The service's own pass is of the board, owns the service's word and knows what the configuration told; and what is kept is
-- what the log in that pass leaves
pub record Agrees (board : TableId) (service : ℕ) (shelf : Shelf) (known : Known Item) : Type 0 where
  pub on_board : known.board ≡ board
  pub owns : known.word ≡ Some service
  pub told : 0 < length (list_at known.lists configuration)
  pub holds : Holds shelf (log_in known.lists service)

-- the pass knows the whole log of the service
abbrev pub KnowsLog : Served → Known Item → Type 0
KnowsLog state known = log_in known.lists state.service ≡ state.log

-- the event stands behind the whole log, which the pass knows, and which goes on from what the pass knew before
pub record LearnsEvent (state : Served) (old new : Known Item) (event : LogEvent) : Type 0 where
  pub before : List Item
  pub log : events_of before ≡ state.log
  pub knew : IsPrefix (list_at old.lists state.service) before
  pub stands : list_at new.lists state.service ≡ before ++ Log event ∷ []

-- the log takes the event: it is no put below the greatest floor that was dropped
abbrev pub IsTakenBy : List LogEvent → LogEvent → Type 0
IsTakenBy log (Rec list text) = Unit {0}
IsTakenBy log (Put generation name text) = NoDropAbove log generation
IsTakenBy log (Drop floor) = Unit {0}

-- it is a put below the greatest floor that was dropped, which is this one
abbrev pub IsBelow : List LogEvent → LogEvent → ℕ → Type 0
IsBelow log (Rec list text) floor = ⊥
IsBelow log (Put generation name text) floor = (generation < floor) × IsFloor log floor
IsBelow log (Drop below) floor = ⊥

-- one event more, or none and the reason
abbrev pub Adds : Served → Served → Known Item → Known Item → LogEvent → Result Unit LinkError → Type 0
Adds state after old new event (Ok _) = IsTakenBy state.log event × (after ≡ served state.service (state.log ++ event ∷ [])) × LearnsEvent state old new event
Adds state after old new event (Err errors.Failed) = ⊥
Adds state after old new event (Err (errors.Stale floor)) = IsBelow state.log event floor × (after ≡ state) × KnowsLog state new
Adds state after old new event (Err errors.NoMemory) = after ≡ state

-- what `Adds` says of some log of the service
pub record Changes (service : ℕ) (old new : Known Item) (event : LogEvent) (answer : Result Unit LinkError) : Type 0 where
  pub state : Served
  pub after : Served
  pub number : state.service ≡ service
  pub adds : Adds state after old new event answer
