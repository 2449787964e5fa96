-- The plan rules as a test. The laws of `Plan::new` tie it to the rules.
use Rattle.std.specs.Prelude.{◌≡◌, ℕ, ◌+◌, ◌^◌, ◌<◌, slice_get, ◌/◌, ◌&&◌, nat_le, nat_lt, Bool, true, List, [], ◌∷◌, length, Option, Some, None, if◌then◌else◌}
use Rattle.ms_base.specs.declared.limits.TheConstants.{COPIES, LAST_NUMBER, SERVICES}
use Rattle.ms_record.specs.declared.plan.PlanRow.{PlanRow}
use Rattle.ms_record.specs.Plans.{PlanView}

-- each capacity has eight bytes
abbrev pub AreCapacities : List PlanRow → Type 0
AreCapacities rows = (i : ℕ) (row : PlanRow) → slice_get rows i ≡ Some row → row.capacity < 2 ^ 64

abbrev pub is_row : ℕ → PlanRow → Bool
is_row unit row = nat_lt row.service.0 SERVICES && nat_le 1 (row.capacity / unit) && nat_le (row.capacity / unit) COPIES

-- rows whose services rise from a lowest one on
abbrev pub are_rows : ℕ → ℕ → List PlanRow → Bool
are_rows unit low [] = true
are_rows unit low (row ∷ rows) = nat_le low row.service.0 && is_row unit row && are_rows unit (row.service.0 + 1) rows

unfoldable pub is_plan : PlanView → Bool
is_plan p =
    nat_le 1 p.generation && nat_le p.generation LAST_NUMBER && nat_le 1 p.format && nat_le p.format 2 && nat_le 1 p.unit
    && nat_le 1 (length p.rows) && nat_le (length p.rows) SERVICES && nat_le 1 p.replicas && nat_le p.replicas (length p.rows)
    && are_rows p.unit 0 p.rows

-- the plan, where it keeps the rules
abbrev pub plan_if : PlanView → Option PlanView
plan_if p = if is_plan p then Some p else None
