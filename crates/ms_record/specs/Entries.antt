-- Entries: their ranges, their one spelling and their names.
use Rattle.std.specs.Prelude.{◌≡◌, ℕ, ◌^◌, ◌<◌, List, [], ◌∷◌, ◌++◌, length, Option, Some, None, IfSome}
use Rattle.std.specs.Int.{w32, to_be_bytes}
use Rattle.sha2.specs.Sha256.{sha256}
use Rattle.ms_base.specs.declared.limits.TheConstants.{CLIENTS}
use Rattle.ms_record.specs.declared.entry.Entry.{Entry}
use Rattle.ms_record.specs.Plans.{PlanView, IsPlan, plan_text}

-- the numbers are in their ranges, names have 32 bytes, and the plan, where there is one, keeps its rules
pub record IsEntry (e : Entry) : Type 0 where
  pub before : length e.before.0 ≡ 32
  pub client : e.client.0 < CLIENTS
  pub number : e.number < 2 ^ 32
  pub version : length e.version.0 ≡ 32
  pub plan : IfSome e.plan IsPlan

-- `U` for a push, `L` for a plan
abbrev pub tag_of : Option PlanView → ℕ
tag_of None = 85
tag_of (Some plan) = 76

abbrev pub plan_part : Option PlanView → List ℕ
plan_part None = []
plan_part (Some plan) = plan_text plan

-- the tag, the name of the member before, client, number, version, and the plan where there is one
abbrev pub entry_text : Entry → List ℕ
entry_text e =
    tag_of e.plan ∷ [] ++ e.before.0 ++ to_be_bytes w32 e.client.0 ++ to_be_bytes w32 e.number ++ e.version.0 ++ plan_part e.plan

-- the SHA-256 of its bytes
abbrev pub name_of : Entry → List ℕ
name_of e = sha256 (entry_text e)
