-- What a line keeps beside its members: the plans that were in force, and which of them was in force where.
use Rattle.std.specs.Prelude.{◌≡◌, ℕ, ◌+◌, ◌≤◌, List, [], ◌∷◌, ◌++◌, Option, Some, None, length, slice_get, take}
use Rattle.ms_base.specs.declared.limits.TheConstants.{LAST_NUMBER}
use Rattle.ms_base.specs.declared.names.Name.{Name}
use Rattle.ms_chain.specs.declared.line.Line.TheInside.{Inside}
use Rattle.ms_chain.specs.Lines.{LineView}
use Rattle.ms_record.specs.declared.entry.Entry.{Entry}
use Rattle.ms_record.specs.declared.setting.Setting.{Setting}
use Rattle.ms_record.specs.Chains.{LinksBehind, last_name, plan_in}
use Rattle.ms_record.specs.Entries.{name_of}
use Rattle.ms_record.specs.Plans.{PlanView}
use Rattle.ms_record.specs.Settings.{IsSetting, genesis_plan, origin_of}

abbrev pub view_of : Inside → LineView
view_of l = record { setting = l.setting; members = l.members.items }

-- each member links on, and behind so many members, from none to all, the plan in force stands at its place; no other plan is kept
pub record IsLined (setting : Setting) (members : List Entry) (last : Name) (plans : List PlanView) (in_force : List ℕ) : Type 0 where
  pub few : length members ≤ LAST_NUMBER
  pub named : last.0 ≡ last_name (name_of setting.genesis) members
  pub links : (i : ℕ) (e : Entry) → slice_get members i ≡ Some e → LinksBehind (origin_of setting) (take i members) e
  pub counts : length in_force ≡ length members + 1
  pub few_plans : length plans ≤ length in_force
  pub places : (n place : ℕ) → slice_get in_force n ≡ Some place → slice_get plans place ≡ Some (plan_in (genesis_plan setting) (take n members))
  pub were : (place : ℕ) (plan : PlanView) → slice_get plans place ≡ Some plan → (n : ℕ) × (n ≤ length members) × (plan ≡ plan_in (genesis_plan setting) (take n members))

pub record IsKept (l : Inside) : Type 0 where
  pub setting : IsSetting l.setting
  pub lined : IsLined l.setting l.members.items l.last l.plans.items l.in_force.items

-- where the plan in force behind one member more stands among the plans: that of the member at their end, else the one before
abbrev pub IsPlaceAfter : List PlanView → ℕ → Option PlanView → List PlanView → ℕ → Type 0
IsPlaceAfter plans before None more place = (more ≡ plans) × (place ≡ before)
IsPlaceAfter plans before (Some plan) more place = (more ≡ plans ++ plan ∷ []) × (place ≡ length plans)
