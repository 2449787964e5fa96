-- The first plan over so many services keeps the plan rules.
use Rattle.std.proofs.Common.{◌≡◌, ℕ, zero, suc, ◌+◌, ◌<◌, ◌≤◌, List, ◌∷◌, [], ◌++◌, Some, sym, ap, ◌∙◌, subst, length, map, take, slice_get, slice_set, take_all, refl, arith}
use Rattle.std.specs.List.{range_with_len}
use Rattle.std.proofs.lemmas.List.{take_more_set}
use Rattle.std.proofs.lemmas.List.FromFn.{length-map-range_with_len, take-map-range_with_len, get_or-map-range_with_len, map-range_with_len_more}
use Rattle.std.proofs.lemmas.Option.{slice_get_within, get_or_from_slice_get}
use Rattle.ms_record.specs.declared.plan.PlanRow.{PlanRow}
use Rattle.ms_record.specs.Plans.{IsPlan, IsRow}
use Rattle.ms_record.specs.Settings.{IsFirstPlan, even_row, even_plan}

row_at : (n i : ℕ) (row : PlanRow) → slice_get (map even_row (range_with_len 0 n)) i ≡ Some row → (i < n) × (even_row i ≡ row)
row_at n i row h =
    let within : i < n = omega (arith, slice_get_within (map even_row (range_with_len 0 n)) i row h, length-map-range_with_len even_row 0 n) in
    (within, sym (get_or-map-range_with_len even_row 0 n i i row within (omega arith)) ∙ get_or_from_slice_get (map even_row (range_with_len 0 n)) i row row h)

pub even_keeps : (services replicas : ℕ) → 1 ≤ services → services ≤ 16 → 1 ≤ replicas → replicas ≤ services → IsPlan (even_plan services replicas)
even_keeps services replicas some few some_replicas few_replicas =
    let many = length-map-range_with_len even_row 0 services in record {
      some_generation = omega arith;
      last_generation = omega arith;
      some_format = omega arith;
      last_format = omega arith;
      some_unit = omega arith;
      unit = omega arith;
      some_rows = omega (arith, many, some);
      few_rows = omega (arith, many, few);
      some_replicas = some_replicas;
      few_replicas = omega (arith, many, few_replicas);
      rows = λ i row at. let r = row_at services i row at in subst (IsRow 1) r.1
          (record { service = omega (arith, r.0, few); capacity = omega arith; some_copies = omega arith; few_copies = omega arith });
      rising = λ i row next at after.
          let r = row_at services i row at in
          let s = row_at services (i + 1) next after in
          omega (arith, ap (λ (x : PlanRow). x.service.0) r.1, ap (λ (x : PlanRow). x.service.0) s.1);
    }

-- a row more
pub even_more : (rows : List PlanRow) (i : ℕ) → length rows ≡ 16 → i < 16 → take i rows ≡ map even_row (range_with_len 0 i) → take (i + 1) (slice_set rows i (even_row i)) ≡ map even_row (range_with_len 0 (i + 1))
even_more rows i long within h =
    take_more_set rows i (even_row i) (omega (arith, long)) ∙ ap (λ (l : List PlanRow). l ++ even_row i ∷ []) h ∙ sym (map-range_with_len_more even_row 0 i i (omega arith))

-- the front of all rows
pub even_front : (rows : List PlanRow) (i n : ℕ) → length rows ≡ 16 → 16 ≤ i → i ≤ 16 → n ≤ 16 → take i rows ≡ map even_row (range_with_len 0 i) → take n rows ≡ map even_row (range_with_len 0 n)
even_front rows i n long least most few h =
    let whole : rows ≡ map even_row (range_with_len 0 i) = sym (take_all i rows (omega (arith, long))) ∙ h in
    ap (take n) whole ∙ take-map-range_with_len even_row 0 i n (omega arith)

services_are : (a n : ℕ) → map (λ (row : PlanRow). row.service.0) (map even_row (range_with_len a n)) ≡ range_with_len a n
services_are a zero = refl
services_are a (suc n) = ap (λ (l : List ℕ). a ∷ l) (services_are (a + 1) n)

pub even_first : (services replicas : ℕ) → IsFirstPlan services (even_plan services replicas)
even_first services replicas = record { generation = refl; format = refl; rows = services_are 0 services }
