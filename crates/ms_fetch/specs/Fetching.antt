-- Fetching an object: services are asked in an order, until one gives the bytes of its name.
use Rattle.std.specs.Prelude.{◌≡◌, ℕ, ◌<◌, true, List, [], ◌∷◌, ◌++◌, Option, Some, None, Result, Ok, Err, Contains, length, map, slice_get, take}
use Rattle.ms_base.specs.declared.bytes.NoMemory.{NoMemory as Want}
use Rattle.ms_base.specs.declared.names.Name.{Name}
use Rattle.ms_base.specs.declared.names.ServiceId.{ServiceId}
use Rattle.ms_object.specs.Objects.{name_of as sha_name}
use Rattle.ms_record.specs.declared.refusal.ReasonRow.{ReasonRow}
use Rattle.ms_record.specs.declared.refusal.Refusal.{Refusal}
use Rattle.ms_record.specs.declared.refusal.Refusal.TheVariants.{Collected, LostObject, NoMemory}
use Rattle.ms_local.specs.declared.deed.Deed.{Deed}
use Rattle.ms_local.specs.declared.deed.Deed.TheVariants.{Got}
use Rattle.ms_local.specs.Desks.{DeskView}
use Rattle.ms_local.specs.Reading.{AreMadeGood}
use Rattle.ms_fetch.specs.declared.ask.Lack.{Lack}
use Rattle.ms_fetch.specs.declared.asked.Asked.{Asked}
use Rattle.ms_fetch.specs.Lacks.{HaveReasons, IsGreatestFloor, Lacking, TrueLack, lack_deed, lacks_deeds}
use Rattle.ms_local.specs.Laying.{Lays}

-- the services of the order are numbered below this
abbrev pub AreBelow : List ServiceId → ℕ → Type 0
AreBelow order n = (s : ServiceId) → Contains order s → s.0 < n

-- no service stands twice in the order
abbrev pub Differ : List ServiceId → Type 0
Differ order = (i j : ℕ) (s : ServiceId) → slice_get order i ≡ Some s → slice_get order j ≡ Some s → i ≡ j

abbrev pub found_deed : ℕ → Name → ServiceId → Deed
found_deed generation name service = Got service generation name (Some name) true None

-- what the question at one service leaves, by its answer
abbrev pub AsksOne : DeskView → DeskView → ℕ → Name → ServiceId → Result (Result (List ℕ) Lack) Want → Type 0
AsksOne old new generation name service (Ok (Ok text)) = (name.0 ≡ sha_name text) × Lays old new (found_deed generation name service ∷ [])
AsksOne old new generation name service (Ok (Err lack)) = TrueLack old new generation name service lack × Lays old new (lack_deed generation name service lack ∷ [])
AsksOne old new generation name service (Err error) = Lays old new []

-- The services that gave no bytes of the name are the first of the order, and each had its cause; behind their deeds come these.
pub record Asks (generation : ℕ) (order : List ServiceId) (name : Name) (old new : DeskView) (lacks : List Lacking) (last : List Deed) : Type 0 where
  pub first : map (λ (l : Lacking). l.service) lacks ≡ take (length lacks) order
  pub true_lacks : (l : Lacking) → Contains lacks l → TrueLack old new generation name l.service l.lack
  pub lays : Lays old new (lacks_deeds generation name lacks ++ last)

-- the next service of the order gave the bytes, and all that others gave is made good
pub record Finds (generation : ℕ) (order : List ServiceId) (name : Name) (old new : DeskView) (text : List ℕ) : Type 0 where
  pub lacks : List Lacking
  pub service : ServiceId
  pub next : slice_get order (length lacks) ≡ Some service
  pub asks : Asks generation order name old new lacks (found_deed generation name service ∷ [])
  pub named : name.0 ≡ sha_name text
  pub made_good : AreMadeGood (lacks_deeds generation name lacks ++ found_deed generation name service ∷ [])

-- all services of the order were asked, and none gave the bytes
pub record FindsNone (generation : ℕ) (order : List ServiceId) (name : Name) (old new : DeskView) (Because : List Lacking → Type 0) : Type 0 where
  pub lacks : List Lacking
  pub all : length lacks ≡ length order
  pub asks : Asks generation order name old new lacks []
  pub because : Because lacks

-- the bytes of the name; else the greatest floor where a service showed one, else one reason for each service of the order
abbrev pub Fetches : ℕ → List ServiceId → Name → DeskView → DeskView → Result (List ℕ) Refusal → Type 0
Fetches generation order name old new (Ok text) = Finds generation order name old new text
Fetches generation order name old new (Err (Collected floor)) = (generation < floor) × FindsNone generation order name old new (λ lacks. IsGreatestFloor lacks floor)
Fetches generation order name old new (Err (LostObject lost rows)) = (lost ≡ name) × FindsNone generation order name old new (λ lacks. HaveReasons lacks rows)
Fetches generation order name old new (Err NoMemory) = (lacks : List Lacking) × Asks generation order name old new lacks []
Fetches generation order name old new (Err refusal) = ⊥

-- what is noted of services that gave no bytes of the name: the greatest floor, and while there is none the reasons
abbrev pub IsAsked : List Lacking → Option ℕ → List ReasonRow → Type 0
IsAsked lacks None rows = HaveReasons lacks rows
IsAsked lacks (Some floor) rows = IsGreatestFloor lacks floor

-- the refusal that tells of these services
abbrev pub Tells : Name → List Lacking → Refusal → Type 0
Tells name lacks (Collected floor) = IsGreatestFloor lacks floor
Tells name lacks (LostObject lost rows) = (lost ≡ name) × HaveReasons lacks rows
Tells name lacks refusal = ⊥

-- so many services of the order were asked, and none gave the bytes
pub record AskedTo (generation : ℕ) (order : List ServiceId) (name : Name) (old new : DeskView) (place : ℕ) (asked : Asked) : Type 0 where
  pub lacks : List Lacking
  pub many : length lacks ≡ place
  pub noted : IsAsked lacks asked.floor asked.reasons
  pub asks : Asks generation order name old new lacks []
