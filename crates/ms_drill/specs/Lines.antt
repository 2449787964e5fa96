-- The lines of a drill: its head, and the events.
use Rattle.std.specs.Prelude.{ℕ, ◌&&◌, ◌==◌, nat_le, bytes_eq, codes, List, [], ◌∷◌, ◌++◌, Option, Some, None, if◌then◌else◌}
use Rattle.std.specs.Option.{option_map, option_or}
use Rattle.std.specs.List.{slice_split}
use Rattle.ms_base.specs.Options.{◌>>=◌}
use Rattle.ms_base.specs.declared.names.ClientId.{ClientId}
use Rattle.ms_base.specs.declared.names.ServiceId.{ServiceId}
use Rattle.ms_world.specs.declared.event.Event.{Event}
use Rattle.ms_world.specs.declared.event.Event.TheVariants as events
use Rattle.ms_world.specs.declared.event.Push.{Push}
use Rattle.ms_drill.specs.declared.head.Head.{Head}
use Rattle.ms_record.specs.declared.plan.PlanRow.{PlanRow}
use Rattle.ms_record.specs.Plans.{PlanView, plan_of}
use Rattle.ms_record.specs.PlanTests.{plan_if}
use Rattle.ms_record.specs.Settings.{even_row}
use Rattle.ms_text.specs.Words.{two_words, number_at, hex_at, name_at}

-- a number of 32 or 64 bits
abbrev pub u32_at : List ℕ → Option ℕ
u32_at word = number_at 4294967295 word

abbrev pub u64_at : List ℕ → Option ℕ
u64_at word = number_at 18446744073709551615 word

-- a number of 32 bits, and what stands behind a space
unfoldable pub u32_then : List ℕ → Option (ℕ × List ℕ)
u32_then text = do
  words ← two_words text
  number ← u32_at words.0
  Some (number, words.1)

abbrev pub client_of : ℕ → ClientId
client_of n = record { 0 = n }

abbrev pub service_of : ℕ → ServiceId
service_of n = record { 0 = n }

-- `C`
abbrev pub start_at : List ℕ → Option Event
start_at text = option_map (λ c. events.Start (client_of c)) (u32_at text)

abbrev pub stop_at : List ℕ → Option Event
stop_at text = option_map (λ c. events.Stop (client_of c)) (u32_at text)

abbrev pub offer_at : List ℕ → Option Event
offer_at text = option_map (λ c. events.Offer (client_of c)) (u32_at text)

abbrev pub learn_at : List ℕ → Option Event
learn_at text = option_map (λ c. events.Learn (client_of c)) (u32_at text)

-- `I`
abbrev pub deliver_at : List ℕ → Option Event
deliver_at text = option_map (λ i. events.Deliver i) (u64_at text)

-- `NUMBER HEX64`
unfoldable pub push_at : List ℕ → Option (Option Push)
push_at text = do
  number ← u32_then text
  version ← name_at number.1
  Some (Some (record { number = number.0; version = record { 0 = version } }))

-- the same, or `-` for no push
unfoldable pub want_at : List ℕ → Option (Option Push)
want_at text = if bytes_eq text (codes "-") then Some None else push_at text

-- `C ROUND NUMBER HEX64` or `C ROUND -`
unfoldable pub bid_at : List ℕ → Option Event
bid_at text = do
  client ← u32_then text
  round ← u32_then client.1
  want ← want_at round.1
  Some (events.Bid (client_of client.0) round.0 want)

-- these rows, and one for each word
abbrev pub rows_on : List PlanRow → List (List ℕ) → Option (List PlanRow)
rows_on rows [] = Some rows
rows_on rows (word ∷ words) = u32_at word >>= λ s. rows_on (rows ++ even_row s ∷ []) words

-- services joined by commas
abbrev pub rows_at : List ℕ → Option (List PlanRow)
rows_at text = rows_on [] (slice_split (λ b. b == 44) text)

-- `GENERATION R S,S`: a plan of unit 1 that keeps the plan rules
unfoldable pub plan_at : List ℕ → Option PlanView
plan_at text = do
  generation ← u32_then text
  replicas ← u32_then generation.1
  rows ← rows_at replicas.1
  plan_if (plan_of generation.0 1 replicas.0 1 rows)

-- `C ROUND NUMBER GENERATION R S,S`
unfoldable pub turn_at : List ℕ → Option Event
turn_at text = do
  client ← u32_then text
  round ← u32_then client.1
  number ← u32_then round.1
  plan ← plan_at number.1
  Some (events.Turn (client_of client.0) round.0 number.0 plan)

-- `C ROUND NUMBER HEX64`
unfoldable pub migrate_at : List ℕ → Option Event
migrate_at text = do
  client ← u32_then text
  round ← u32_then client.1
  number ← u32_then round.1
  version ← name_at number.1
  Some (events.Migrate (client_of client.0) round.0 number.0 (record { 0 = version }))

-- `C S UPTO`
unfoldable pub read_at : List ℕ → Option Event
read_at text = do
  client ← u32_then text
  service ← u32_then client.1
  upto ← u64_at service.1
  Some (events.Read (client_of client.0) (service_of service.0) upto)

-- `S GENERATION HEX`
unfoldable pub place_at : List ℕ → Option Event
place_at text = do
  service ← u32_then text
  generation ← u32_then service.1
  object ← hex_at generation.1
  Some (events.Place (service_of service.0) generation.0 object)

-- `S FLOOR`
unfoldable pub drop_at : List ℕ → Option Event
drop_at text = do
  service ← u32_then text
  floor ← u32_at service.1
  Some (events.DropBelow (service_of service.0) floor)

-- what a client does, by the first word
unfoldable pub client_event : List ℕ → List ℕ → Option Event
client_event word text =
    if bytes_eq word (codes "start") then start_at text
    else if bytes_eq word (codes "stop") then stop_at text
    else if bytes_eq word (codes "bid") then bid_at text
    else if bytes_eq word (codes "turn") then turn_at text
    else if bytes_eq word (codes "offer") then offer_at text
    else None

unfoldable pub other_event : List ℕ → List ℕ → Option Event
other_event word text =
    if bytes_eq word (codes "learn") then learn_at text
    else if bytes_eq word (codes "migrate") then migrate_at text
    else if bytes_eq word (codes "read") then read_at text
    else if bytes_eq word (codes "deliver") then deliver_at text
    else if bytes_eq word (codes "place") then place_at text
    else if bytes_eq word (codes "drop") then drop_at text
    else None

-- the event of a line
unfoldable pub event_at : List ℕ → Option Event
event_at line = do
  words ← two_words line
  option_or (client_event words.0 words.1) (other_event words.0 words.1)

abbrev pub head_if : ℕ → ℕ → ℕ → Option Head
head_if services clients replicas =
    if nat_le 1 services && nat_le 1 clients && nat_le 1 replicas && nat_le replicas services
    then Some (record { services = services; clients = clients; replicas = replicas }) else None

-- `N C R`: 1 to 16 each, and R at most N
unfoldable pub numbers_at : List ℕ → Option Head
numbers_at text = do
  a ← two_words text
  b ← two_words a.1
  services ← number_at 16 a.0
  clients ← number_at 16 b.0
  replicas ← number_at 16 b.1
  head_if services clients replicas

-- `metasync-drill 1 N C R`
unfoldable pub head_at : List ℕ → Option Head
head_at line = do
  a ← two_words line
  b ← two_words a.1
  if bytes_eq a.0 (codes "metasync-drill") && bytes_eq b.0 (codes "1") then numbers_at b.1 else None
