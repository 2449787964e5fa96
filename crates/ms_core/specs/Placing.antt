-- When a version is placed: all that it reaches is put on enough services of a plan.
use Rattle.std.specs.Prelude.{◌≡◌, ℕ, ◌≤◌, Bool, true, List, [], ◌∷◌, map, All, Some, count_by}
use Rattle.sha2.specs.Sha256.{sha256}
use Rattle.ms_base.specs.declared.names.Name.{Name}
use Rattle.ms_core.specs.declared.want.Want.{Want}
use Rattle.ms_core.specs.declared.want.Wanted.{Wanted}
use Rattle.ms_core.specs.declared.want.Wanted.TheVariants.{Blob, File, Directory, Version}
use Rattle.ms_object.specs.declared.object.Kind.{Kind}
use Rattle.ms_object.specs.declared.object.Kind.TheVariants as kinds
use Rattle.ms_object.specs.declared.object.Object.{Object}
use Rattle.ms_object.specs.declared.object.Object.TheVariants as objects
use Rattle.ms_object.specs.declared.object.Row.{Row}
use Rattle.ms_object.specs.declared.object.SizedRow.{SizedRow}
use Rattle.ms_object.specs.Objects.{Spells, format_of, numbered}
use Rattle.ms_object.specs.Trees.{Texts}
use Rattle.ms_record.specs.declared.log.LogEvent.{LogEvent}
use Rattle.ms_record.specs.declared.plan.PlanRow.{PlanRow}
use Rattle.ms_record.specs.Logs.{HasPut, Stands}
use Rattle.ms_record.specs.Plans.{PlanView}

-- an object is of the kind that names it
abbrev pub IsOf : Wanted → Object → Type 0
IsOf Blob (objects.Blob text) = Unit {0}
IsOf Blob (objects.Blob2 text) = Unit {0}
IsOf File (objects.File size blobs) = Unit {0}
IsOf File (objects.File2 size blobs) = Unit {0}
IsOf Directory (objects.Dir rows) = Unit {0}
IsOf Directory (objects.Dir2 rows) = Unit {0}
IsOf Version (objects.Version client number parents root) = Unit {0}
IsOf Version (objects.Version2 client number parents root) = Unit {0}
IsOf _ _ = ⊥

abbrev pub wanted_of : Kind → Wanted
wanted_of kinds.File = File
wanted_of kinds.Dir = Directory

abbrev pub want_of : Wanted → Name → Want
want_of wanted name = record { name = name; wanted = wanted }

-- the names in an object, each with what it is to name; a version's parents are not reached
abbrev pub wanted_in : Object → List Want
wanted_in (objects.Blob text) = []
wanted_in (objects.Blob2 text) = []
wanted_in (objects.File size blobs) = map (want_of Blob) blobs
wanted_in (objects.File2 size blobs) = map (want_of Blob) blobs
wanted_in (objects.Dir rows) = map (λ (row : Row). want_of (wanted_of row.kind) row.name) rows
wanted_in (objects.Dir2 rows) = map (λ (row : SizedRow). want_of (wanted_of row.kind) row.name) rows
wanted_in (objects.Version client number parents root) = want_of Directory root ∷ []
wanted_in (objects.Version2 client number parents root) = want_of Directory root ∷ []

-- the store has an object of that kind under that name
pub record HasObject (store : Texts) (name : Name) (wanted : Wanted) : Type 0 where
  pub text : List ℕ
  pub is : store name.0 ≡ Some text
  pub object : Object
  pub spells : Spells text object
  pub kind : IsOf wanted object

-- at least as many services of the plan as its replicas
pub record OnEnough (has : ℕ → Type 0) (plan : PlanView) : Type 0 where
  pub part : ℕ → Bool
  pub have : (s : ℕ) → part s ≡ true → has s
  pub enough : plan.replicas ≤ count_by (λ (row : PlanRow). part row.service.0) plan.rows

-- the text is an object of the format of that number
pub record IsOfFormat (format : ℕ) (text : List ℕ) : Type 0 where
  pub object : Object
  pub spells : Spells text object
  pub format_is : numbered format ≡ Some (format_of object)

-- The store has a version of that name. Each of its texts is an object of the format and stands under its SHA-256, and with
-- each text it has what that names, as objects of the kinds that name them.
pub record HoldsVersion (format : ℕ) (store : Texts) (version : Name) : Type 0 where
  pub top : HasObject store version Version
  pub formats : (name : Name) (text : List ℕ) → store name.0 ≡ Some text → IsOfFormat format text
  pub below : (name : Name) (text : List ℕ) (object : Object) → store name.0 ≡ Some text → Spells text object
      → All (λ (want : Want). HasObject store want.name want.wanted) (wanted_in object)
  pub named : (name : Name) (text : List ℕ) → store name.0 ≡ Some text → name.0 ≡ sha256 text

-- a store holds the version in the plan's format, and each of its texts is on enough services of the plan, where `has` says
-- what a service has
pub record PlacedBy (has : ℕ → Name → Type 0) (plan : PlanView) (version : Name) : Type 0 where
  pub store : Texts
  pub holds : HoldsVersion plan.format store version
  pub put : (name : Name) (text : List ℕ) → store name.0 ≡ Some text → OnEnough (λ s. has s name) plan

-- placed by puts in the plan's generation, whether they stand or not
abbrev pub IsPlaced : (ℕ → List LogEvent) → PlanView → Name → Type 0
IsPlaced logs plan version = PlacedBy (λ s name. HasPut (logs s) plan.generation name) plan version

-- placed by puts that stand
abbrev pub StaysPlaced : (ℕ → List LogEvent) → PlanView → Name → Type 0
StaysPlaced logs plan version = PlacedBy (λ s name. Stands (logs s) plan.generation name) plan version
