-- How an event is spelled, in words with one space between each two: `docs/FORMATS.md`, drill.
use Rattle.std.specs.Prelude.{◌≡◌, ℕ, ◌≤◌, ◌==◌, codes, map, List, [], ◌∷◌, ◌++◌, Option, Some, None, All}
use Rattle.std.specs.Fmt.{decimal}
use Rattle.std.specs.List.{slice_split}
use Rattle.ms_base.specs.declared.names.Name.{Name}
use Rattle.ms_world.specs.declared.event.Event.{Event}
use Rattle.ms_world.specs.declared.event.Event.TheVariants as events
use Rattle.ms_world.specs.declared.event.Push.{Push}
use Rattle.ms_record.specs.Plans.{IsPlan, PlanView, plan_of}
use Rattle.ms_record.specs.Settings.{even_row}
use Rattle.ms_text.specs.Words.{hex_at, name_at, spaced}

-- numbers of 32 and of 64 bits
abbrev pub IsU32 : ℕ → Type 0
IsU32 n = n ≤ 4294967295

abbrev pub IsU64 : ℕ → Type 0
IsU64 n = n ≤ 18446744073709551615

-- these words, and 64 digits that are the name
pub record EndsWithName (line : List ℕ) (front : List (List ℕ)) (name : Name) : Type 0 where
  pub digits : List ℕ
  pub name_is : name_at digits ≡ Some name.0
  pub words : line ≡ spaced (front ++ digits ∷ [])

-- these words, and the text in hexadecimal
pub record EndsWithBytes (line : List ℕ) (front : List (List ℕ)) (text : List ℕ) : Type 0 where
  pub digits : List ℕ
  pub text_is : hex_at digits ≡ Some text
  pub words : line ≡ spaced (front ++ digits ∷ [])

-- these words, and a plan of unit 1 that keeps the plan rules: its generation, its replicas, and its services with a comma (44) between each two
pub record EndsWithPlan (line : List ℕ) (front : List (List ℕ)) (plan : PlanView) : Type 0 where
  pub services : List ℕ
  pub last : List ℕ
  pub parts : slice_split (λ b. b == 44) last ≡ map decimal services
  pub rows : plan ≡ plan_of plan.generation 1 plan.replicas 1 (map even_row services)
  pub rules : IsPlan plan
  pub words : line ≡ spaced (front ++ decimal plan.generation ∷ decimal plan.replicas ∷ last ∷ [])

-- the words of a bid behind its round
abbrev pub SpellsWant : List ℕ → List (List ℕ) → Option Push → Type 0
SpellsWant line front None = line ≡ spaced (front ++ codes "-" ∷ [])
SpellsWant line front (Some push) = IsU32 push.number × EndsWithName line (front ++ decimal push.number ∷ []) push.version

-- the line spells the event
abbrev pub SpellsEvent : List ℕ → Event → Type 0
SpellsEvent line (events.Start client) = IsU32 client.0 × (line ≡ spaced (codes "start" ∷ decimal client.0 ∷ []))
SpellsEvent line (events.Stop client) = IsU32 client.0 × (line ≡ spaced (codes "stop" ∷ decimal client.0 ∷ []))
SpellsEvent line (events.Bid client round want) = IsU32 client.0 × IsU32 round × SpellsWant line (codes "bid" ∷ decimal client.0 ∷ decimal round ∷ []) want
SpellsEvent line (events.Turn client round number plan) =
    IsU32 client.0 × IsU32 round × IsU32 number × EndsWithPlan line (codes "turn" ∷ decimal client.0 ∷ decimal round ∷ decimal number ∷ []) plan
SpellsEvent line (events.Migrate client round number version) =
    IsU32 client.0 × IsU32 round × IsU32 number × EndsWithName line (codes "migrate" ∷ decimal client.0 ∷ decimal round ∷ decimal number ∷ []) version
SpellsEvent line (events.Deliver request) = IsU64 request × (line ≡ spaced (codes "deliver" ∷ decimal request ∷ []))
SpellsEvent line (events.Read client service upto) =
    IsU32 client.0 × IsU32 service.0 × IsU64 upto × (line ≡ spaced (codes "read" ∷ decimal client.0 ∷ decimal service.0 ∷ decimal upto ∷ []))
SpellsEvent line (events.Offer client) = IsU32 client.0 × (line ≡ spaced (codes "offer" ∷ decimal client.0 ∷ []))
SpellsEvent line (events.Learn client) = IsU32 client.0 × (line ≡ spaced (codes "learn" ∷ decimal client.0 ∷ []))
SpellsEvent line (events.Place service generation text) = IsU32 service.0 × IsU32 generation × EndsWithBytes line (codes "place" ∷ decimal service.0 ∷ decimal generation ∷ []) text
SpellsEvent line (events.DropBelow service floor) = IsU32 service.0 × IsU32 floor × (line ≡ spaced (codes "drop" ∷ decimal service.0 ∷ decimal floor ∷ []))
