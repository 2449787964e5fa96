-- The rule of the deeds on reading: nothing is used before each object that was read has the bytes of its name.
use Rattle.std.specs.Prelude.{◌≡◌, ◌≢◌, ℕ, Bool, true, List, ◌∷◌, ◌++◌, Option, Some, None, Contains}
use Rattle.ms_base.specs.declared.names.Name.{Name}
use Rattle.ms_base.specs.declared.names.ServiceId.{ServiceId}
use Rattle.ms_local.specs.declared.deed.Deed.{Deed}
use Rattle.ms_local.specs.declared.deed.Deed.TheVariants.{Declared, Got, Wrote}

-- a service answered, and did not give the bytes of the name
pub record GaveOther (deed : Deed) : Type 0 where
  pub service : ServiceId
  pub generation : ℕ
  pub name : Name
  pub found : Option Name
  pub is : deed ≡ Got service generation name found true None
  pub other : found ≢ Some name

-- the object of the name was asked for at another service
pub record AsksElsewhere (deeds : List Deed) (service : ServiceId) (name : Name) : Type 0 where
  pub other : ServiceId
  pub generation : ℕ
  pub found : Option Name
  pub ok : Bool
  pub floor : Option ℕ
  pub there : Contains deeds (Got other generation name found ok floor)
  pub elsewhere : other ≢ service

-- each answer without the bytes of the name is followed by a question at another service
abbrev pub AreMadeGood : List Deed → Type 0
AreMadeGood deeds = (front rest : List Deed) (deed : Deed) (gave : GaveOther deed) → deeds ≡ front ++ deed ∷ rest → AsksElsewhere rest gave.service gave.name

-- a file that is written, and an offer that is declared, use what was read
abbrev pub Uses : Deed → Type 0
Uses (Wrote path ok) = Unit {0}
Uses (Declared offer) = Unit {0}
Uses deed = ⊥

-- before each use all that was read is made good
abbrev pub KeepsReading : List Deed → Type 0
KeepsReading deeds = (front rest : List Deed) (used : Deed) → deeds ≡ front ++ used ∷ rest → Uses used → AreMadeGood front
