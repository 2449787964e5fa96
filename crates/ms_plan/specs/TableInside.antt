-- What a table keeps: the order of each slot, one after another.
use Rattle.std.specs.Prelude.{◌≡◌, ℕ, ◌*◌, ◌<◌, List, length, take, drop}
use Rattle.md5.specs.Md5.{md5}
use Rattle.ms_base.specs.declared.names.ServiceId.{ServiceId}
use Rattle.ms_record.specs.Plans.{PlanView, IsPlan}
use Rattle.ms_plan.specs.declared.table.TheConstants.{SLOTS}
use Rattle.ms_plan.specs.declared.table.Table.TheInside.{Inside}
use Rattle.ms_plan.specs.declared.table.copies.KeyedCopy.{KeyedCopy}
use Rattle.ms_plan.specs.Mapping.{ServiceCopy, key_text, order_at}

-- a copy with its key in a slot
abbrev pub keyed : ℕ → ServiceCopy → KeyedCopy
keyed slot c = record { key = md5 (key_text slot c); service = c.service; copy = c.copy }

-- in the list of all slots' orders stand those of the slots below a number
pub record HoldsOrders (plan : PlanView) (slots : ℕ) (orders : List ServiceId) : Type 0 where
  pub wide : length orders ≡ slots * length plan.rows
  pub each : (slot : ℕ) → slot < slots → take (length plan.rows) (drop (slot * length plan.rows) orders) ≡ order_at plan slot

pub record IsTable (t : Inside) : Type 0 where
  pub rules : IsPlan t.plan
  pub orders : HoldsOrders t.plan SLOTS t.orders.items
