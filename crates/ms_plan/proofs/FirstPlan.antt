-- The first plan keeps the plan rules, and the setting is in its ranges.
use Rattle.std.proofs.Common.{◌≡◌, ℕ, zero, suc, ◌+◌, ◌/◌, ◌<◌, ◌≤◌, List, [], ◌∷◌, ◌++◌, Some, refl, sym, ap, ◌∙◌, subst, length, map, take, get_or, slice_get, slice_set, take_all, add-zero, arith}
use Rattle.std.specs.List.{range_with_len}
use Rattle.std.proofs.lemmas.List.{length-take-le, take_more, take_more_set}
use Rattle.std.proofs.lemmas.Option.{slice_get_within}
use Rattle.ms_base.specs.Places.{some_same}
use Rattle.ms_record.specs.Plans.{IsPlan, IsRow, PlanView}
use Rattle.ms_record.specs.Settings.{IsFirstPlan}
use Rattle.ms_record.specs.declared.plan.PlanRow.{PlanRow}
use Rattle.ms_plan.specs.Configuration.{first_plan, row_of, rows_from}
use Rattle.ms_plan.specs.Drafts.{AreNumbers, DraftView, IsDraft}
use Rattle.ms_plan.specs.declared.config_line.ServiceLine.{ServiceLine}

pub length-rows_from : (n : ℕ) (services : List ServiceLine) → length (rows_from n services) ≡ length services
length-rows_from n [] = refl
length-rows_from n (s ∷ services) = ap suc (length-rows_from (n + 1) services)

-- a row is that of the service at its place
record IsRowAt (n : ℕ) (services : List ServiceLine) (i : ℕ) (row : PlanRow) : Type 0 where
  service : ServiceLine
  at : slice_get services i ≡ Some service
  number : row.service.0 ≡ n + i
  capacity : row.capacity ≡ service.capacity

row_at : (n : ℕ) (services : List ServiceLine) (i : ℕ) (row : PlanRow) → slice_get (rows_from n services) i ≡ Some row → IsRowAt n services i row
row_at n [] i row e = absurd cc
row_at n (s ∷ services) zero row e =
    let same : row_of n s ≡ row = some_same (row_of n s) row e in
    record { service = s; at = refl; number = omega (arith, ap (λ (r : PlanRow). r.service.0) same); capacity = sym (ap (λ (r : PlanRow). r.capacity) same) }
row_at n (s ∷ services) (suc i) row e =
    let r = row_at (n + 1) services i row e in
    record { service = r.service; at = r.at; number = omega (arith, r.number); capacity = r.capacity }

pub first_keeps : (draft : DraftView) → IsDraft draft → AreNumbers draft → 0 < length draft.clients → IsPlan (first_plan draft)
first_keeps draft h numbers some =
    let many = length-rows_from 0 draft.services in
    let enough : draft.replicas ≤ length draft.services = h.enough some in record {
      some_generation = omega arith;
      last_generation = omega arith;
      some_format = omega arith;
      last_format = omega arith;
      some_unit = h.some_unit;
      unit = numbers.unit;
      some_rows = omega (arith, many, h.some_replicas);
      few_rows = omega (arith, many, h.few_services);
      some_replicas = h.some_replicas;
      few_replicas = omega (arith, many);
      rows = λ i row at. row_keeps i row (row_at 0 draft.services i row at);
      rising = λ i row next at after. omega (arith, (row_at 0 draft.services i row at).number, (row_at 0 draft.services (i + 1) next after).number);
    }
  where
    row_keeps : (i : ℕ) (row : PlanRow) → IsRowAt 0 draft.services i row → IsRow draft.unit row
    row_keeps i row r =
        let c = h.capacities i r.service r.at in
        let within : i < length draft.services = slice_get_within draft.services i r.service r.at in
        record {
          service = omega (arith, r.number, h.few_services);
          capacity = omega (arith, r.capacity, numbers.capacities i r.service r.at);
          some_copies = subst (λ (n : ℕ). 1 ≤ n / draft.unit) (sym r.capacity) c.some_copies;
          few_copies = subst (λ (n : ℕ). n / draft.unit ≤ 16) (sym r.capacity) c.few_copies;
        }

services_are : (n : ℕ) (services : List ServiceLine) → map (λ (row : PlanRow). row.service.0) (rows_from n services) ≡ range_with_len n (length services)
services_are n [] = refl
services_are n (s ∷ services) = ap (λ (l : List ℕ). n ∷ l) (services_are (n + 1) services)

plan_is_first : (draft : DraftView) → IsFirstPlan (length draft.services) (first_plan draft)
plan_is_first draft = record { generation = refl; format = refl; rows = services_are 0 draft.services }

-- the numbers of a draft are those of a setting, and its plan is a first one
pub first_fits : (draft : DraftView) (services clients : ℕ) (plan : PlanView) → services ≡ length draft.services → clients ≡ length draft.clients → plan ≡ first_plan draft → IsDraft draft → 0 < length draft.clients
    → (1 ≤ services) × (services ≤ 16) × (1 ≤ clients) × (clients ≤ 16) × IsFirstPlan services plan
first_fits draft services clients plan all given is h some =
    let enough : draft.replicas ≤ length draft.services = h.enough some in (
      omega (arith, h.some_replicas),
      omega (arith, h.few_services),
      omega (arith, some),
      omega (arith, h.few_clients),
      subst (λ (n : ℕ). IsFirstPlan n plan) (sym all) (subst (λ (p : PlanView). IsFirstPlan (length draft.services) p) (sym is) (plan_is_first draft)),
    )

pub rows-push : (n : ℕ) (services : List ServiceLine) (service : ServiceLine) → rows_from n (services ++ service ∷ []) ≡ rows_from n services ++ row_of (n + length services) service ∷ []
rows-push n [] service = ap (λ (m : ℕ). row_of m service ∷ []) (sym (add-zero n))
rows-push n (s ∷ services) service =
    ap (λ (rows : List PlanRow). row_of n s ∷ rows) (rows-push (n + 1) services service)
    ∙ ap (λ (m : ℕ). row_of n s ∷ (rows_from (n + 1) services ++ row_of m service ∷ [])) (shift n (length services))
  where
    shift : (a b : ℕ) → a + 1 + b ≡ a + suc b
    shift a b = omega arith

-- a row more, and a service more
pub one_more : (rows : List PlanRow) (services : List ServiceLine) (i : ℕ) (service : ServiceLine) → length rows ≡ 16 → i < 16 → i < length services → service ≡ get_or services i service → take i rows ≡ rows_from 0 (take i services)
    → take (i + 1) (slice_set rows i (row_of i service)) ≡ rows_from 0 (take (i + 1) services)
one_more rows services i service long room within is h =
    let front : take (i + 1) services ≡ take i services ++ service ∷ [] = take_more services i service within ∙ ap (λ (s : ServiceLine). take i services ++ s ∷ []) (sym is) in
    let number : 0 + length (take i services) ≡ i = omega (arith, length-take-le i services (omega arith)) in
    let last : rows_from 0 (take i services ++ service ∷ []) ≡ rows_from 0 (take i services) ++ row_of i service ∷ [] =
    rows-push 0 (take i services) service ∙ ap (λ (n : ℕ). rows_from 0 (take i services) ++ row_of n service ∷ []) number in
    take_more_set rows i (row_of i service) (omega (arith, long)) ∙ ap (λ (l : List PlanRow). l ++ row_of i service ∷ []) h ∙ sym (ap (rows_from 0) front ∙ last)

-- the front of all rows
pub front_rows : (rows : List PlanRow) (services : List ServiceLine) (i n : ℕ) → length services ≤ i → i ≤ length services → n ≡ length services → take i rows ≡ rows_from 0 (take i services) → take n rows ≡ rows_from 0 services
front_rows rows services i n low high all h =
    let same : n ≡ i = omega arith in
    ap (λ (m : ℕ). take m rows) same ∙ h ∙ ap (rows_from 0) (take_all i services low)
