-- How a dump is spelled: `docs/FORMATS.md`, dump.
use Rattle.std.specs.Prelude.{◌≡◌, ℕ, ◌==◌, ◌<◌, ◌≤◌, codes, List, [], ◌∷◌, Some, length, slice_index_or, if◌then◌else◌}
use Rattle.std.specs.Fmt.{decimal}
use Rattle.ms_text.specs.Lines.{lines_of}
use Rattle.ms_text.specs.Words.{bytes_at, name_at, spaced}
use Rattle.ms_replay.specs.declared.dump.Dump.{Dump}

-- `metasync-dump 1 N HEX64`: 1 to 16 services, and 64 digits that are the name of the genesis
pub record SpellsHead (line : List ℕ) (services : ℕ) (genesis : List ℕ) : Type 0 where
  pub some : 1 ≤ services
  pub few : services ≤ 16
  pub digits : List ℕ
  pub name : name_at digits ≡ Some genesis
  pub words : line ≡ spaced (codes "metasync-dump" ∷ codes "1" ∷ decimal services ∷ digits ∷ [])

-- `S HEX` or `S -`: S below the number of services, and a text
pub record SpellsRow (services : ℕ) (line : List ℕ) (service : ℕ) (text : List ℕ) : Type 0 where
  pub known : service < services
  pub digits : List ℕ
  pub bytes : bytes_at digits ≡ Some text
  pub words : line ≡ spaced (decimal service ∷ digits ∷ [])

-- each line spells the row at its place: a service and a text
abbrev pub SpellRows : ℕ → List (List ℕ) → List (ℕ × List ℕ) → Type 0
SpellRows services [] [] = Unit {0}
SpellRows services (line ∷ lines) (row ∷ rows) = SpellsRow services line row.0 row.1 × SpellRows services lines rows
SpellRows services [] (row ∷ rows) = ⊥
SpellRows services (line ∷ lines) [] = ⊥

-- the texts of the rows of this service, in their order
abbrev pub texts_of : List (ℕ × List ℕ) → ℕ → List (List ℕ)
texts_of [] s = []
texts_of (row ∷ rows) s = if row.0 == s then row.1 ∷ texts_of rows s else texts_of rows s

-- the first line spells the head, each further one a row, and each list has the texts of its service
pub record SpellsDump (text : List ℕ) (dump : Dump) : Type 0 where
  pub head : List ℕ
  pub lines : List (List ℕ)
  pub rows : List (ℕ × List ℕ)
  pub cut : lines_of text ≡ head ∷ lines
  pub head_is : SpellsHead head dump.services dump.genesis.0
  pub rows_are : SpellRows dump.services lines rows
  pub count : length dump.lists ≡ dump.services
  pub lists : (s : ℕ) → s < dump.services → slice_index_or dump.lists s [] ≡ texts_of rows s
