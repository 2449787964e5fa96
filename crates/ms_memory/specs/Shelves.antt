-- What a service keeps in memory, and the log for which it stands.
use Rattle.std.specs.Prelude.{◌≡◌, ℕ, ◌<◌, ◌≤◌, List, [], ◌∷◌, ◌++◌, Option, Some, None, IsSome, IsSomeAnd, vec_len, vec_capacity}
use Rattle.std.specs.BTreeMap.{get}
use Rattle.std.specs.Cmp.Lexicographic.{slice_cmp}
use Rattle.std.specs.Option.{option_and_then, option_map_or}
use Rattle.std.specs.Ordering.{nat_cmp, ordering_then}
use Rattle.std.specs.declared.cmp.Ordering.{Ordering}
use Rattle.ms_base.specs.declared.names.Name.{Name}
use Rattle.ms_record.specs.Floors.{IsFloor}
use Rattle.ms_memory.specs.declared.lists.Lists.{Lists}
use Rattle.ms_memory.specs.declared.shelf.Shelf.{Shelf}
use Rattle.ms_memory.specs.declared.store.Spot.{Spot}
use Rattle.ms_memory.specs.declared.store.Store.{Store}
use Rattle.ms_record.specs.declared.log.LogEvent.{LogEvent}
use Rattle.ms_record.specs.declared.log.LogEvent.TheVariants.{Rec, Put, Drop}
use Rattle.ms_record.specs.Logs.{texts_in, HasPut}

-- the texts of the list with this number
abbrev pub texts_at : Lists → ℕ → List (List ℕ)
texts_at lists number = option_map_or (λ texts. texts.items) (get nat_cmp lists.texts number) []

-- one text more fits in the list's memory
abbrev pub HasRoom : Lists → ℕ → Type 0
HasRoom lists number = IsSomeAnd (get nat_cmp lists.texts number) (λ texts. vec_len texts < vec_capacity texts)

-- by generation, then by the bytes of the name
abbrev pub spot_cmp : Spot → Spot → Ordering
spot_cmp a b = ordering_then (nat_cmp a.generation b.generation) (slice_cmp nat_cmp a.name.0 b.name.0)

abbrev pub spot : ℕ → Name → Spot
spot generation name = record { generation = generation; name = name }

-- the text that is kept under the name in the generation
abbrev pub text_at : Store → ℕ → Name → Option (List ℕ)
text_at store generation name = option_and_then (λ place. place) (get spot_cmp store.texts (spot generation name))

-- a text under the name in the generation takes no memory of the store's
abbrev pub HasPlace : Store → ℕ → Name → Type 0
HasPlace store generation name = IsSome (get spot_cmp store.texts (spot generation name))

-- the first text that the log put under the name in the generation, or none where none was put
abbrev pub IsFirstPut : List LogEvent → ℕ → Name → Option (List ℕ) → Type 0
IsFirstPut log generation name None = HasPut log generation name → ⊥
IsFirstPut log generation name (Some text) = (before : List LogEvent) × (after : List LogEvent) × (before ++ Put generation name text ∷ after ≡ log) × (HasPut before generation name → ⊥)

-- Lists, texts and floor are those of the log. Of the generations below the floor nothing is kept
pub record Holds (shelf : Shelf) (log : List LogEvent) : Type 0 where
  pub lists : (number : ℕ) → texts_at shelf.lists number ≡ texts_in number log
  pub kept : (generation : ℕ) (name : Name) → shelf.floor ≤ generation → IsFirstPut log generation name (text_at shelf.store generation name)
  pub gone : (generation : ℕ) (name : Name) → generation < shelf.floor → text_at shelf.store generation name ≡ None
  pub floor : IsFloor log shelf.floor

-- the event's text takes no memory but its own
abbrev pub Fits : Shelf → LogEvent → Type 0
Fits shelf (Rec list text) = HasRoom shelf.lists list.0
Fits shelf (Put generation name text) = HasPlace shelf.store generation name
Fits shelf (Drop floor) = Unit {0}

-- a put lies in no generation below the floor
abbrev pub IsOpenTo : ℕ → LogEvent → Type 0
IsOpenTo floor (Rec list text) = Unit {0}
IsOpenTo floor (Put generation name text) = floor ≤ generation
IsOpenTo floor (Drop below) = Unit {0}
