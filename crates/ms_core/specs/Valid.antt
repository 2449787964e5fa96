-- What an entry and a drop rest on, and which members of a chain are live.
use Rattle.std.specs.Prelude.{◌≡◌, ℕ, ◌+◌, ◌≤◌, ◌⊎◌, List, Some, slice_get, take}
use Rattle.ms_record.specs.declared.record.Record.{Record}
use Rattle.ms_core.specs.Placing.{IsPlaced}
use Rattle.ms_record.specs.declared.entry.Entry.{Entry}
use Rattle.ms_record.specs.declared.log.LogEvent.{LogEvent}
use Rattle.ms_record.specs.declared.setting.Setting.{Setting}
use Rattle.ms_record.specs.Chains.{IsLinked, IsNext, last_name, generation_in, plan_after, plan_in}
use Rattle.ms_record.specs.Entries.{name_of}
use Rattle.ms_record.specs.Logs.{votes_in}
use Rattle.ms_record.specs.Plans.{PlanView}
use Rattle.ms_record.specs.Settings.{genesis_plan, origin_of}

-- the vote list of each log
abbrev pub votes_of_logs : (ℕ → List LogEvent) → ℕ → List Record
votes_of_logs logs s = votes_in (logs s)

-- the plan by which an entry behind the members is judged: its own, or else the one in force there
abbrev pub judging_plan : Setting → List Entry → Entry → PlanView
judging_plan setting members e = plan_after (plan_in (genesis_plan setting) members) e.plan

-- the entry links on to a linked list that ends before this position, and its version is placed under the plan by which it
-- is judged there
pub record IsValid (setting : Setting) (logs : ℕ → List LogEvent) (position : ℕ) (e : Entry) : Type 0 where
  pub next : IsNext (votes_of_logs logs) (origin_of setting) position e
  pub placed : IsPlaced logs (judging_plan setting next.members e) e.version

-- a floor is at most 1, or a linked list has a plan of at least that generation
abbrev pub IsBacked : Setting → (ℕ → List LogEvent) → ℕ → Type 0
IsBacked setting logs floor =
    (floor ≤ 1) ⊎ ((members : List Entry) × IsLinked (votes_of_logs logs) (origin_of setting) members × (floor ≤ generation_in (genesis_plan setting) members))

-- the plan in force at the member at place i of a chain, counted from 0
abbrev pub plan_at : Setting → List Entry → ℕ → PlanView
plan_at setting chain i = plan_in (genesis_plan setting) (take (i + 1) chain)

-- the entry is the member at place i, and the generation in force there is the one at the chain's end
pub record IsLive (setting : Setting) (chain : List Entry) (i : ℕ) (e : Entry) : Type 0 where
  pub is : slice_get chain i ≡ Some e
  pub current : (plan_at setting chain i).generation ≡ generation_in (genesis_plan setting) chain

-- each member names the SHA-256 of the bytes of the member before
abbrev pub Names : Setting → List Entry → Type 0
Names setting chain = (i : ℕ) (e : Entry) → slice_get chain i ≡ Some e → e.before.0 ≡ last_name (name_of setting.genesis) (take i chain)
