-- An order has each service of the plan once.
use Rattle.std.proofs.Common.{◌≡◌, ℕ, zero, suc, ◌+◌, ◌<◌, ◌≤◌, Bool, true, false, cond, List, [], ◌∷◌, length, map, Some, slice_get, refl, sym, ap, ◌∙◌, arith}
use Rattle.std.specs.Prelude.{◌||◌, ◌==◌, ◌/◌}
use Rattle.std.specs.declared.cmp.Ordering.{Ordering}
use Rattle.std.specs.declared.cmp.Ordering.TheVariants.{Equal}
use Rattle.std.specs.Ordering.{nat_cmp, is_eq}
use Rattle.std.specs.FinMap.{nat_cmp-IsAntisymmetric}
use Rattle.std.specs.List.{flat_map, list_any, range_with_len}
use Rattle.std.specs.List.Sorted.{IsPermutation}
use Rattle.std.proofs.lemmas.Bool.{eqb-true}
use Rattle.std.proofs.lemmas.Bool.Decides.{nat_tests}
use Rattle.std.proofs.lemmas.Cmp.{nat_cmp_total, on_total}
use Rattle.std.proofs.lemmas.List.{length-map, map-append}
use Rattle.std.proofs.lemmas.List.Folds.{list_any-append}
use Rattle.std.proofs.lemmas.List.Sorted.{list_any-IsPermutation, IsPermutation-map, length_permutation}
use Rattle.ms_base.specs.declared.names.ServiceId.{ServiceId}
use Rattle.ms_record.specs.declared.plan.PlanRow.{PlanRow}
use Rattle.ms_record.specs.Plans.{PlanView, IsPlan}
use Rattle.ms_plan.specs.Mapping.{ServiceCopy, copies_of, copies_in, compare_at, sorted, firsts, order_at, services_of}
use Rattle.ms_plan.proofs.Sorting.{times, sorted_permutes, permutation_from_times}
use Rattle.ms_plan.proofs.Firsts.{times-firsts, times_agree, is_service}
use Rattle.ms_plan.proofs.Ordering.{services, numbered}

abbrev row_services : List PlanRow → List ServiceId
row_services rows = map (λ row. row.service) rows

times_of_none : {X : Type 0} (p : X → Bool) (xs : List X) → list_any p xs ≡ false → times p xs ≡ 0
times_of_none p [] h = refl
times_of_none p (x ∷ xs) h =
    elim (p x) as (λ (b : Bool). (b || list_any p xs) ≡ false → cond b 1 0 + times p xs ≡ 0) [
      | true ↦ λ e. absurd cc
      | false ↦ λ e. let k = times_of_none p xs e in omega (arith, k)
    ] h

-- ---- rows whose services rise

abbrev Rising : List PlanRow → Type 0
Rising rows = (i : ℕ) (row next : PlanRow) → slice_get rows i ≡ Some row → slice_get rows (i + 1) ≡ Some next → row.service.0 < next.service.0

Rising-tail : (r : PlanRow) (rs : List PlanRow) → Rising (r ∷ rs) → Rising rs
Rising-tail r rs h i row next e f = h (suc i) row next e (let g : suc i + 1 ≡ suc (i + 1) = omega arith in ap (λ (n : ℕ). slice_get (r ∷ rs) n) g ∙ f)

none_later : (s : ServiceId) (rows : List PlanRow) → Rising rows → ((row : PlanRow) → slice_get rows 0 ≡ Some row → s.0 < row.service.0) → list_any (is_service s) (row_services rows) ≡ false
none_later s [] rising above = refl
none_later s (r ∷ rs) rising above =
    let lower : s.0 < r.service.0 = above r refl in
    let here : (s.0 == r.service.0) ≡ false = grind (arith, nat_tests) in
    let others : list_any (is_service s) (row_services rs) ≡ false = none_later s rs (Rising-tail r rs rising) (λ row e. let next : r.service.0 < row.service.0 = rising 0 r row refl e in omega arith) in
    rw (here, others) refl

services_once : (s : ServiceId) (rows : List PlanRow) → Rising rows → times (is_service s) (row_services rows) ≡ cond (list_any (is_service s) (row_services rows)) 1 0
services_once s [] rising = refl
services_once s (r ∷ rs) rising =
    elim (s.0 == r.service.0) as (λ (b : Bool). (s.0 == r.service.0) ≡ b → cond b 1 0 + times (is_service s) (row_services rs) ≡ cond (b || list_any (is_service s) (row_services rs)) 1 0) [
      | true ↦ λ e.
          let same : s.0 ≡ r.service.0 = eqb-true s.0 r.service.0 e in
          let none : times (is_service s) (row_services rs) ≡ 0 = times_of_none (is_service s) (row_services rs) (none_later s rs (Rising-tail r rs rising) (λ row f. let next : r.service.0 < row.service.0 = rising 0 r row refl f in omega arith)) in
          omega (arith, none)
      | false ↦ λ e. let k = services_once s rs (Rising-tail r rs rising) in omega (arith, k)
    ] refl

-- ---- rows with copies

any_none : (p : ServiceId → Bool) (t : ServiceId) (numbers : List ℕ) → p t ≡ false → list_any p (services (numbered t numbers)) ≡ false
any_none p t [] h = refl
any_none p t (n ∷ ns) h = let k : list_any p (services (numbered t ns)) ≡ false = any_none p t ns h in rw (h, k) refl

any_numbered : (p : ServiceId → Bool) (t : ServiceId) (from n : ℕ) → 1 ≤ n → list_any p (services (numbered t (range_with_len from n))) ≡ p t
any_numbered p t from zero some = absurd (omega arith)
any_numbered p t from (suc n) some =
    elim (p t) as (λ (b : Bool). p t ≡ b → (b || list_any p (services (numbered t (range_with_len (from + 1) n)))) ≡ b) [
      | true ↦ λ e. refl
      | false ↦ λ e. any_none p t (range_with_len (from + 1) n) e
    ] refl

any_copies : (p : ServiceId → Bool) (unit : ℕ) (rows : List PlanRow) → ((i : ℕ) (row : PlanRow) → slice_get rows i ≡ Some row → 1 ≤ row.capacity / unit)
    → list_any p (services (flat_map (copies_of unit) rows)) ≡ list_any p (row_services rows)
any_copies p unit [] some = refl
any_copies p unit (r ∷ rs) some =
    ap (list_any p) (map-append (λ (c : ServiceCopy). c.service) (copies_of unit r) (flat_map (copies_of unit) rs))
    ∙ list_any-append p (services (copies_of unit r)) (services (flat_map (copies_of unit) rs))
    ∙ ap (λ (b : Bool). b || list_any p (services (flat_map (copies_of unit) rs))) (any_numbered p r.service 0 (r.capacity / unit) (some 0 r refl))
    ∙ ap (λ (b : Bool). p r.service || b) (any_copies p unit rs (λ i row e. some (suc i) row e))

-- ---- the order

abbrev compare_services : ServiceId → ServiceId → Ordering
compare_services s t = nat_cmp s.0 t.0

compare_services_same : (s t : ServiceId) → compare_services s t ≡ Equal → s ≡ t
compare_services_same s t h = let e : s.0 ≡ t.0 = nat_cmp-IsAntisymmetric s.0 t.0 h in λ i. record { 0 = e i }

is_at_service : (s t : ServiceId) → is_eq (compare_services s t) ≡ is_service s t
is_at_service s t = grind (arith, nat_tests)

pub services_permute : (plan : PlanView) (slot : ℕ) → IsPlan plan → IsPermutation (services_of plan) (order_at plan slot)
unfolding order_at
services_permute plan slot h =
    let moved : IsPermutation (services (copies_in plan)) (services (sorted (compare_at slot) (copies_in plan))) =
    IsPermutation-map (λ (c : ServiceCopy). c.service) (copies_in plan) (sorted (compare_at slot) (copies_in plan)) (sorted_permutes (compare_at slot) (copies_in plan)) in
    let there : (s : ServiceId) → list_any (is_service s) (services (sorted (compare_at slot) (copies_in plan))) ≡ list_any (is_service s) (services_of plan) =
    λ s. sym (list_any-IsPermutation (is_service s) (services (copies_in plan)) (services (sorted (compare_at slot) (copies_in plan))) moved)
    ∙ any_copies (is_service s) plan.unit plan.rows (λ i row e. (h.rows i row e).some_copies) in
    let count : (s : ServiceId) → times (is_service s) (services_of plan) ≡ times (is_service s) (firsts (services (sorted (compare_at slot) (copies_in plan)))) =
    λ s. services_once s plan.rows h.rising ∙ ap {B = ℕ} (λ (b : Bool). cond b 1 0) (sym (there s)) ∙ sym (times-firsts s (services (sorted (compare_at slot) (copies_in plan)))) in
    permutation_from_times (on_total (λ (s : ServiceId). s.0) nat_cmp_total) compare_services_same (services_of plan) (firsts (services (sorted (compare_at slot) (copies_in plan))))
    (λ s. times_agree (λ t. is_eq (compare_services s t)) (is_service s) (services_of plan) (is_at_service s) ∙ count s
    ∙ sym (times_agree (λ t. is_eq (compare_services s t)) (is_service s) (firsts (services (sorted (compare_at slot) (copies_in plan)))) (is_at_service s)))

pub length-order : (plan : PlanView) (slot : ℕ) → IsPlan plan → length (order_at plan slot) ≡ length plan.rows
length-order plan slot h = length_permutation (services_of plan) (order_at plan slot) (services_permute plan slot h) ∙ length-map plan.rows (λ (row : PlanRow). row.service)
