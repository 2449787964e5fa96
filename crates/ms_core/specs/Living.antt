-- Live masters stay placed, whatever was dropped.
use Rattle.std.specs.Prelude.{◌≡◌, ℕ, ◌+◌, ◌≤◌, List, Some, Contains, length, slice_get}
use Rattle.ms_base.specs.declared.names.Name.{Name}
use Rattle.ms_core.specs.Valid.{IsBacked, IsLive, IsValid, judging_plan, plan_at, votes_of_logs}
use Rattle.ms_record.specs.declared.entry.Entry.{Entry}
use Rattle.ms_record.specs.declared.log.LogEvent.{LogEvent}
use Rattle.ms_record.specs.declared.log.LogEvent.TheVariants.{Drop}
use Rattle.ms_record.specs.declared.setting.Setting.{Setting}
use Rattle.ms_record.specs.Chains.{IsLinked, IsChain, Begins, generation_in}
use Rattle.ms_record.specs.Logs.{HasPut, Stands}
use Rattle.ms_record.specs.Settings.{IsSetting, genesis_plan, origin_of}

-- of the logs' linked lists one begins the other
abbrev pub OneList : Setting → (ℕ → List LogEvent) → Type 0
OneList setting logs = (a b : List Entry) → IsLinked (votes_of_logs logs) (origin_of setting) a → IsLinked (votes_of_logs logs) (origin_of setting) b → length a ≤ length b → Begins a b

-- each drop has a plan of its generation behind it
abbrev pub AreBacked : Setting → (ℕ → List LogEvent) → Type 0
AreBacked setting logs = (s floor : ℕ) → Contains (logs s) (Drop floor) → IsBacked setting logs floor

pub record LiveLaws : Type 0 where
  -- no floor is above the generation in force at the chain's end
  pub floors : (setting : Setting) (logs : ℕ → List LogEvent) (chain : List Entry) → IsSetting setting → OneList setting logs
      → IsChain (votes_of_logs logs) (origin_of setting) chain → (floor : ℕ) → IsBacked setting logs floor → floor ≤ generation_in (genesis_plan setting) chain
  -- what was put in the generation of a live member stands
  pub stands : (setting : Setting) (logs : ℕ → List LogEvent) (chain : List Entry) (i : ℕ) (e : Entry) → IsSetting setting → OneList setting logs → AreBacked setting logs
      → IsChain (votes_of_logs logs) (origin_of setting) chain → IsLive setting chain i e
      → (s : ℕ) (name : Name) → HasPut (logs s) (plan_at setting chain i).generation name → Stands (logs s) (plan_at setting chain i).generation name
  -- the plan by which a valid member was judged is the one in force there
  pub plan : (setting : Setting) (logs : ℕ → List LogEvent) (chain : List Entry) (i : ℕ) (e : Entry) → OneList setting logs
      → IsChain (votes_of_logs logs) (origin_of setting) chain → slice_get chain i ≡ Some e → (v : IsValid setting logs (i + 1) e) → judging_plan setting v.next.members e ≡ plan_at setting chain i
