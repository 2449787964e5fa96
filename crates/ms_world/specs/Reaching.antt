-- What is reached from a version: what was met, and whether it is there.
use Rattle.std.specs.Prelude.{◌≡◌, ℕ, ◌≤◌, Bool, true, false, List, ◌++◌, All, Contains, Option, Some, count_by}
use Rattle.ms_core.specs.declared.want.Want.{Want}
use Rattle.ms_core.specs.declared.want.Wanted.{Wanted}
use Rattle.ms_core.specs.Placing.{IsOf, wanted_in}
use Rattle.ms_world.specs.Puts.{PutsView, found_at, text_found, is_on}
use Rattle.ms_object.specs.declared.object.Object.{Object}
use Rattle.ms_object.specs.declared.format.Format.{Format}
use Rattle.ms_object.specs.Objects.{Spells, format_of, numbered}
use Rattle.ms_record.specs.declared.plan.PlanRow.{PlanRow}
use Rattle.ms_record.specs.Plans.{PlanView}

-- both have the same items
pub record HaveSame (xs ys : List Want) : Type 0 where
  pub there : All (Contains ys) xs
  pub back : All (Contains xs) ys

-- these were met too, behind those that were met before, and nothing else
pub record Meets (wants old new : List Want) : Type 0 where
  pub more : List Want
  pub behind : new ≡ old ++ more
  pub all : All (Contains new) wants
  pub only : All (Contains wants) more

-- the text is an object of that format, where there is one, and kind
pub record IsText (format : Option Format) (wanted : Wanted) (text : List ℕ) : Type 0 where
  pub object : Object
  pub spells : Spells text object
  pub format_is : format ≡ Some (format_of object)
  pub kind : IsOf wanted object

-- what the object names was met, if it is of that kind
abbrev pub MeetsObject : Wanted → Object → List Want → List Want → Bool → Type 0
MeetsObject wanted object old new true = IsOf wanted object × Meets (wanted_in object) old new
MeetsObject wanted object old new false = IsOf wanted object → ⊥

-- what the object of that format and kind names was met; or the text is none
abbrev pub MeetsText : Option Format → Wanted → List ℕ → List Want → List Want → Bool → Type 0
MeetsText format wanted text old new true = (read : IsText format wanted text) × Meets (wanted_in read.object) old new
MeetsText format wanted text old new false = IsText format wanted text → ⊥

-- the first text of the name is an object of the plan's format and of that kind, and enough services of the plan were given one
pub record IsThere (puts : PutsView) (plan : PlanView) (want : Want) : Type 0 where
  pub text : List ℕ
  pub is : text_found (found_at puts want.name) ≡ Some text
  pub read : IsText (numbered plan.format) want.wanted text
  pub enough : plan.replicas ≤ count_by (λ (row : PlanRow). is_on (found_at puts want.name) row.service.0) plan.rows

-- what is there is reached, and what it names was met; or it is not there
abbrev pub Reaches : PutsView → PlanView → Want → List Want → List Want → Bool → Type 0
Reaches puts plan want old new true = (there : IsThere puts plan want) × Meets (wanted_in there.read.object) old new
Reaches puts plan want old new false = IsThere puts plan want → ⊥
