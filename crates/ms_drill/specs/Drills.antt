-- The text of a drill: the setting of its head, and its events.
use Rattle.std.specs.Prelude.{◌≡◌, ◌≢◌, ◌⊎◌, ℕ, ◌+◌, ◌≤◌, nat_lt, List, [], ◌∷◌, ◌++◌, length, slice_get, IsSome, Option, Some, None, Result, Ok, Err, if◌then◌else◌}
use Rattle.std.specs.Option.{option_map}
use Rattle.sha2.specs.Sha256.{sha256}
use Rattle.ms_base.specs.declared.names.Name.{Name}
use Rattle.ms_base.specs.declared.names.Quantity.{Quantity}
use Rattle.ms_base.specs.declared.names.Quantity.TheVariants as quantities
use Rattle.ms_world.specs.declared.event.Event.{Event}
use Rattle.ms_drill.specs.declared.head.Head.{Head}
use Rattle.ms_drill.specs.declared.drill.Drill.{Drill}
use Rattle.ms_drill.specs.Lines.{event_at, head_at}
use Rattle.ms_object.specs.Objects.{empty_version}
use Rattle.ms_record.specs.declared.refusal.Place.TheVariants as places
use Rattle.ms_record.specs.declared.refusal.Refusal.{Refusal}
use Rattle.ms_record.specs.declared.refusal.Refusal.TheVariants as refusals
use Rattle.ms_record.specs.declared.setting.Setting.{Setting}
use Rattle.ms_record.specs.Settings.{even_plan, first_setting}
use Rattle.ms_text.specs.Lines.{lines_of, read_lines}

-- the name of a text
abbrev pub named : List ℕ → Name
named text = record { 0 = sha256 text }

-- the setting, before whose genesis the SHA-256 of the head's line stands
abbrev pub setting_of : List ℕ → Head → Setting
setting_of line head = first_setting head.services head.clients (named line) empty_version (even_plan head.services head.replicas)

-- an event more
abbrev pub event_line : List Event → List ℕ → Option (List Event)
event_line events line = option_map (λ event. events ++ event ∷ []) (event_at line)

abbrev pub whole : List Event → Option (List Event)
whole events = Some events

-- the events of lines, of which the first is the second of the text
abbrev pub events_at : List (List ℕ) → Result (List Event) ℕ
events_at lines = read_lines event_line whole 2 [] lines

-- a wrong line, or the drill
abbrev pub with_events : Setting → Result (List Event) ℕ → Result Drill Refusal
with_events setting (Err line) = Err (refusals.BadInput places.Input line)
with_events setting (Ok events) = Ok (record { setting = setting; events = events })

abbrev pub most_events : ℕ
most_events = 10000

-- the number of events is judged before the events
abbrev pub with_head : List ℕ → List (List ℕ) → Option Head → Result Drill Refusal
with_head line lines None = Err (refusals.BadInput places.Input 1)
with_head line lines (Some head) =
    if nat_lt most_events (length lines) then Err (refusals.Limit quantities.Events (length lines)) else with_events (setting_of line head) (events_at lines)

abbrev pub drill_of : List (List ℕ) → Result Drill Refusal
drill_of [] = Err (refusals.BadInput places.Input 1)
drill_of (line ∷ lines) = with_head line lines (head_at line)

-- the drill that the text spells, or why it is none
abbrev pub drill_at : List ℕ → Result Drill Refusal
drill_at text = drill_of (lines_of text)

-- that answer comes; or no memory, which hides neither a wrong head nor too many events
abbrev pub ReadsDrill : Result Drill Refusal → Result Drill Refusal → Type 0
ReadsDrill given (Err refusals.NoMemory) = (given ≢ Err (refusals.BadInput places.Input 1)) × ((what : Quantity) (value : ℕ) → given ≢ Err (refusals.Limit what value))
ReadsDrill given result = given ≡ result

-- the events, or the first wrong line; or no memory
abbrev pub ReadsEvents : Result (List Event) ℕ → Result (List Event) Refusal → Type 0
ReadsEvents given (Ok events) = given ≡ Ok events
ReadsEvents given (Err (refusals.BadInput places.Input line)) = given ≡ Err line
ReadsEvents given (Err refusals.NoMemory) = Unit {0}
ReadsEvents given (Err _) = ⊥

-- 1 to 16 services and clients, and at most as many replicas as services
pub record IsHead (head : Head) : Type 0 where
  pub some_services : 1 ≤ head.services
  pub few_services : head.services ≤ 16
  pub some_clients : 1 ≤ head.clients
  pub few_clients : head.clients ≤ 16
  pub some_replicas : 1 ≤ head.replicas
  pub few_replicas : head.replicas ≤ head.services

-- the lines before it are events, and this one is none; the first line behind the head is line 2
pub record IsFirstWrongEvent (lines : List (List ℕ)) (line : ℕ) : Type 0 where
  pub front : List (List ℕ)
  pub text : List ℕ
  pub rest : List (List ℕ)
  pub all : lines ≡ front ++ text ∷ rest
  pub events : (i : ℕ) (before : List ℕ) → slice_get front i ≡ Some before → IsSome (event_at before)
  pub wrong : event_at text ≡ None
  pub line_is : line ≡ 2 + length front

-- the first wrong line: there is no head, or the head is right and the line is the first that is no event
abbrev pub IsWrongLine : List (List ℕ) → ℕ → Type 0
IsWrongLine [] line = line ≡ 1
IsWrongLine (first ∷ lines) line = ((line ≡ 1) × (head_at first ≡ None)) ⊎ (IsSome (head_at first) × IsFirstWrongEvent lines line)
