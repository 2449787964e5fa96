-- The mapping: in which order the services of a plan are to hold an object.
use Rattle.std.specs.Prelude.{◌≡◌, ℕ, ◌+◌, ◌*◌, ◌/◌, ◌%◌, ◌==◌, not, List, [], ◌∷◌, ◌++◌, map, take, codes, slice_index, if◌then◌else◌}
use Rattle.std.specs.List.{filter, flat_map, range_with_len}
use Rattle.std.specs.Ordering.{nat_cmp, ordering_then, is_lt}
use Rattle.std.specs.Cmp.Lexicographic.{slice_cmp}
use Rattle.std.specs.declared.cmp.Ordering.{Ordering}
use Rattle.std.specs.Fmt.{decimal}
use Rattle.md5.specs.Md5.{md5}
use Rattle.ms_base.specs.declared.names.Name.{Name}
use Rattle.ms_base.specs.declared.names.ServiceId.{ServiceId}
use Rattle.ms_record.specs.declared.plan.PlanRow.{PlanRow}
use Rattle.ms_record.specs.Plans.{PlanView}
use Rattle.ms_plan.specs.declared.table.TheConstants.{SLOTS}

-- a service and one of its copies, which are counted from 0
pub record ServiceCopy : Type 0 where
  pub service : ServiceId
  pub copy : ℕ

-- a service has as many copies as the unit goes into its capacity
abbrev pub copies_of : ℕ → PlanRow → List ServiceCopy
copies_of unit row = map (λ copy. record { service = row.service; copy = copy }) (range_with_len 0 (row.capacity / unit))

-- all copies of all services of a plan
abbrev pub copies_in : PlanView → List ServiceCopy
copies_in plan = flat_map (copies_of plan.unit) plan.rows

-- slot/service/copy, in decimal
abbrev pub key_text : ℕ → ServiceCopy → List ℕ
key_text slot c = decimal slot ++ codes "/" ++ decimal c.service.0 ++ codes "/" ++ decimal c.copy

-- by the MD5 (RFC 1321) of that text, byte by byte; then by service; then by copy
abbrev pub compare_at : ℕ → ServiceCopy → ServiceCopy → Ordering
compare_at slot c d =
    ordering_then (slice_cmp nat_cmp (md5 (key_text slot c)) (md5 (key_text slot d)))
    (ordering_then (nat_cmp c.service.0 d.service.0) (nat_cmp c.copy d.copy))

-- an item, put before the first of the others that is not below it
abbrev pub put_sorted : {X : Type 0} → (X → X → Ordering) → X → List X → List X
put_sorted compare x [] = x ∷ []
put_sorted compare x (y ∷ ys) = if is_lt (compare y x) then y ∷ put_sorted compare x ys else x ∷ y ∷ ys

-- the items, sorted
abbrev pub sorted : {X : Type 0} → (X → X → Ordering) → List X → List X
sorted compare [] = []
sorted compare (x ∷ xs) = put_sorted compare x (sorted compare xs)

-- the services but this one
abbrev pub without : ServiceId → List ServiceId → List ServiceId
without service services = filter (λ other. not (other.0 == service.0)) services

-- the first occurrence of each service
abbrev pub firsts : List ServiceId → List ServiceId
firsts [] = []
firsts (service ∷ services) = service ∷ without service (firsts services)

-- the services of a plan in the order of a slot: the first occurrence of each among the sorted copies
unfoldable pub order_at : PlanView → ℕ → List ServiceId
order_at plan slot = firsts (map (λ c. c.service) (sorted (compare_at slot) (copies_in plan)))

-- the slot of an object: the first two bytes of its name, as a big-endian number, modulo 1,024
abbrev pub slot_of : Name → ℕ
slot_of name = (256 * slice_index name.0 0 + slice_index name.0 1) % SLOTS

-- the order in which the services of a plan are to hold the object of that name
abbrev pub order_of : PlanView → Name → List ServiceId
order_of plan name = order_at plan (slot_of name)

-- the services that are to hold it: as many of the first as there are to be replicas
abbrev pub places_of : PlanView → Name → List ServiceId
places_of plan name = take plan.replicas (order_of plan name)

-- the services of a plan, rising
abbrev pub services_of : PlanView → List ServiceId
services_of plan = map (λ row. row.service) plan.rows

-- the second plan is the first without a service: all other rows and the unit are the same
pub record IsWithout (service : ServiceId) (plan other : PlanView) : Type 0 where
  pub unit : other.unit ≡ plan.unit
  pub rows : other.rows ≡ filter (λ row. not (row.service.0 == service.0)) plan.rows
