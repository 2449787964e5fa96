-- What calls leave of a desk, by the deeds that were noted.
use Rattle.std.specs.Prelude.{◌≡◌, ℕ, true, List, ◌++◌, Some, slice_get}
use Rattle.ms_local.specs.declared.deed.Deed.{Deed}
use Rattle.ms_local.specs.declared.deed.Deed.TheVariants.{Asked, Got, Put}
use Rattle.ms_link.specs.Links.{LinkView}
use Rattle.ms_local.specs.Calls.{DeskGoes, StaysTold}
use Rattle.ms_local.specs.Desks.{DeskView, IsDesk}
use Rattle.ms_local.specs.Truths.{OwnHistory, TrueDeeds}

-- a deed on an object
abbrev pub IsObjectDeed : Deed → Type 0
IsObjectDeed (Asked service generation name present ok floor) = Unit {0}
IsObjectDeed (Put service generation name ok floor) = Unit {0}
IsObjectDeed (Got service generation name found ok floor) = Unit {0}
IsObjectDeed deed = ⊥

-- in each lane the link to the service tells its objects
abbrev pub TellsObjects : DeskView → ℕ → Type 0
TellsObjects desk s = (lane : ℕ) (links : List LinkView) (link : LinkView) → slice_get desk.lanes lane ≡ Some links → slice_get links s ≡ Some link → link.objects ≡ true

-- these deeds were done, and they are true; what was told stays told, and the own list is as before
pub record Lays (old new : DeskView) (deeds : List Deed) : Type 0 where
  pub effect : DeskGoes old new
  pub told : StaysTold old new
  pub grows : new.deeds ≡ old.deeds ++ deeds
  pub truths : TrueDeeds old new
  pub history : OwnHistory old new
  pub desk : IsDesk new
