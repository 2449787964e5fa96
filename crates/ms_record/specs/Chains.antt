-- The chain of masters: each member is chosen at its position by the services of the plan in force before it, and links on to the members before it.
use Rattle.std.specs.Prelude.{◌≡◌, ℕ, ◌+◌, ◌<◌, ◌≤◌, List, [], ◌∷◌, ◌++◌, Option, Some, None, IfSome, length, map, slice_get, take}
use Rattle.ms_record.specs.declared.entry.Entry.{Entry}
use Rattle.ms_record.specs.declared.plan.PlanRow.{PlanRow}
use Rattle.ms_record.specs.declared.record.Record.{Record}
use Rattle.ms_record.specs.Entries.{name_of}
use Rattle.ms_record.specs.Plans.{PlanView}
use Rattle.ms_record.specs.Votes.{ChosenBy}

-- where a chain begins: the name of its genesis, the genesis' plan, and how many services there are
pub record Origin : Type 0 where
  pub name : List ℕ
  pub plan : PlanView
  pub services : ℕ

-- the plan names only services below so many, has a format that is known and not below the one in force, and its
-- generation is not below the one in force
pub record GoesOn (generation format services : ℕ) (plan : PlanView) : Type 0 where
  pub known : (i : ℕ) (row : PlanRow) → slice_get plan.rows i ≡ Some row → row.service.0 < services
  pub known_format : plan.format ≤ 2
  pub format_stays : format ≤ plan.format
  pub not_below : generation ≤ plan.generation

-- the entry names the member before, and its plan, if it has one, goes on
pub record LinksOn (before : List ℕ) (generation format services : ℕ) (e : Entry) : Type 0 where
  pub names : e.before.0 ≡ before
  pub plan : IfSome e.plan (GoesOn generation format services)

-- the name of the last member, and of the genesis where there is none
abbrev pub last_name : List ℕ → List Entry → List ℕ
last_name name [] = name
last_name name (e ∷ es) = last_name (name_of e) es

-- the plan of an entry, else the one in force before it
abbrev pub plan_after : PlanView → Option PlanView → PlanView
plan_after before None = before
plan_after before (Some plan) = plan

-- the plan in force behind the members: the last plan
abbrev pub plan_in : PlanView → List Entry → PlanView
plan_in plan [] = plan
plan_in plan (e ∷ es) = plan_in (plan_after plan e.plan) es

-- the generation in force behind the members
abbrev pub generation_in : PlanView → List Entry → ℕ
generation_in plan members = (plan_in plan members).generation

-- the services of a plan
abbrev pub voters_of : PlanView → List ℕ
voters_of plan = map (λ (row : PlanRow). row.service.0) plan.rows

-- who votes at the position behind the members: the services of the plan in force there
abbrev pub voters_behind : Origin → List Entry → List ℕ
voters_behind origin members = voters_of (plan_in origin.plan members)

-- the entry links on to the members
abbrev pub LinksBehind : Origin → List Entry → Entry → Type 0
LinksBehind origin members e =
    LinksOn (last_name origin.name members) (plan_in origin.plan members).generation (plan_in origin.plan members).format origin.services e

-- The members behind the genesis; the i-th has the position i + 1. Each is chosen at its position by the voters
-- behind the members before it, and links on to them.
pub record IsLinked (votes : ℕ → List Record) (origin : Origin) (members : List Entry) : Type 0 where
  pub chosen : (i : ℕ) (e : Entry) → slice_get members i ≡ Some e → ChosenBy votes (voters_behind origin (take i members)) (i + 1) e
  pub links : (i : ℕ) (e : Entry) → slice_get members i ≡ Some e → LinksBehind origin (take i members) e

-- the longest linked list
pub record IsChain (votes : ℕ → List Record) (origin : Origin) (members : List Entry) : Type 0 where
  pub linked : IsLinked votes origin members
  pub longest : (other : List Entry) → IsLinked votes origin other → length other ≤ length members

-- chosen at a position behind the genesis: by the voters behind a linked list of the members before it
pub record IsChosen (votes : ℕ → List Record) (origin : Origin) (position : ℕ) (e : Entry) : Type 0 where
  pub members : List Entry
  pub linked : IsLinked votes origin members
  pub at : position ≡ length members + 1
  pub chosen : ChosenBy votes (voters_behind origin members) position e

-- two chosen entries at one position are one
abbrev pub AgreesAt : (ℕ → List Record) → Origin → ℕ → Type 0
AgreesAt votes origin position = (e f : Entry) → IsChosen votes origin position e → IsChosen votes origin position f → e ≡ f

-- at each position two chosen entries are one
abbrev pub Agrees : (ℕ → List Record) → Origin → Type 0
Agrees votes origin = (k : ℕ) → AgreesAt votes origin k

-- the entry links on to a linked list that ends before this position
pub record IsNext (votes : ℕ → List Record) (origin : Origin) (position : ℕ) (e : Entry) : Type 0 where
  pub members : List Entry
  pub linked : IsLinked votes origin members
  pub at : position ≡ length members + 1
  pub links : LinksBehind origin members e

-- each chosen entry links on to the members before it
abbrev pub AllNext : (ℕ → List Record) → Origin → Type 0
AllNext votes origin = (k : ℕ) (e : Entry) → IsChosen votes origin k e → IsNext votes origin k e

-- what is chosen behind a linked list links on to it
abbrev pub AllLink : (ℕ → List Record) → Origin → Type 0
AllLink votes origin = (c : List Entry) (e : Entry) → IsLinked votes origin c → ChosenBy votes (voters_behind origin c) (length c + 1) e → LinksBehind origin c e

-- one list begins the other
abbrev pub Begins : List Entry → List Entry → Type 0
Begins xs ys = (more : List Entry) × (xs ++ more ≡ ys)
