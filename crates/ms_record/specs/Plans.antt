-- Plans, the rules that they keep, and their one spelling.
use Rattle.std.specs.Prelude.{◌≡◌, ℕ, ◌+◌, ◌/◌, ◌^◌, ◌<◌, ◌≤◌, List, [], ◌++◌, length, Some, slice_get}
use Rattle.std.specs.Int.{w32, w64, to_be_bytes}
use Rattle.std.specs.List.{flat_map}
use Rattle.ms_base.specs.declared.limits.TheConstants.{COPIES, LAST_NUMBER, SERVICES}
use Rattle.ms_record.specs.declared.plan.PlanRow.{PlanRow}

-- a plan, without where it lies in memory
pub record PlanView : Type 0 where
  pub generation : ℕ
  pub format : ℕ
  pub replicas : ℕ
  pub unit : ℕ
  pub rows : List PlanRow

abbrev pub plan_of : ℕ → ℕ → ℕ → ℕ → List PlanRow → PlanView
plan_of generation format replicas unit rows = record { generation = generation; format = format; replicas = replicas; unit = unit; rows = rows }

-- stands where nothing is planned
abbrev pub no_plan : PlanView
no_plan = plan_of 0 0 0 0 []

-- a service of the workspace, with a copy at least and not too many
pub record IsRow (unit : ℕ) (row : PlanRow) : Type 0 where
  pub service : row.service.0 < SERVICES
  pub capacity : row.capacity < 2 ^ 64
  pub some_copies : 1 ≤ row.capacity / unit
  pub few_copies : row.capacity / unit ≤ COPIES

-- the plan rules
pub record IsPlan (plan : PlanView) : Type 0 where
  pub some_generation : 1 ≤ plan.generation
  pub last_generation : plan.generation ≤ LAST_NUMBER
  pub some_format : 1 ≤ plan.format
  pub last_format : plan.format ≤ 2
  pub some_unit : 1 ≤ plan.unit
  pub unit : plan.unit < 2 ^ 64
  pub some_rows : 1 ≤ length plan.rows
  pub few_rows : length plan.rows ≤ SERVICES
  pub some_replicas : 1 ≤ plan.replicas
  pub few_replicas : plan.replicas ≤ length plan.rows
  pub rows : (i : ℕ) (row : PlanRow) → slice_get plan.rows i ≡ Some row → IsRow plan.unit row
  pub rising : (i : ℕ) (row next : PlanRow) → slice_get plan.rows i ≡ Some row → slice_get plan.rows (i + 1) ≡ Some next → row.service.0 < next.service.0

abbrev pub row_text : PlanRow → List ℕ
row_text row = to_be_bytes w32 row.service.0 ++ to_be_bytes w64 row.capacity

-- generation, format, replicas, unit, the number of rows, and the rows
abbrev pub plan_text : PlanView → List ℕ
plan_text plan =
    to_be_bytes w32 plan.generation ++ to_be_bytes w32 plan.format ++ to_be_bytes w32 plan.replicas ++ to_be_bytes w64 plan.unit
    ++ to_be_bytes w32 (length plan.rows) ++ flat_map row_text plan.rows

-- stands where a plan has no row
abbrev pub no_row : PlanRow
no_row = record { service = record { 0 = 0 }; capacity = 0 }
