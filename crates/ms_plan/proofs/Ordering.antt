-- The order of a slot.
use Rattle.std.proofs.Common.{◌≡◌, ℕ, Bool, true, false, not, cond, List, [], ◌∷◌, ◌++◌, map, refl, sym, ap, ◌∙◌}
use Rattle.std.specs.Prelude.{◌==◌, ◌/◌}
use Rattle.std.specs.declared.cmp.Ordering.{Ordering}
use Rattle.std.specs.declared.cmp.Ordering.TheVariants.{Less, Equal, Greater}
use Rattle.std.specs.Ordering.{nat_cmp, ordering_then, is_eq}
use Rattle.std.specs.Cmp.{IsTotalOrder}
use Rattle.std.specs.Cmp.Lexicographic.{slice_cmp}
use Rattle.std.specs.FinMap.{nat_cmp-IsAntisymmetric, slice_cmp-IsAntisymmetric}
use Rattle.std.specs.List.{filter, flat_map, range_with_len}
use Rattle.std.specs.List.Sorted.{IsPermutation, IsSorted}
use Rattle.std.proofs.lemmas.Bool.{false≢true}
use Rattle.std.proofs.lemmas.List.Elements.{filter-append}
use Rattle.std.proofs.lemmas.Simd.{map-map}
use Rattle.std.proofs.lemmas.Cmp.{nat_cmp_total, on_total, then_total, nat_list_cmp_total}
use Rattle.md5.specs.Md5.{md5}
use Rattle.ms_base.specs.declared.names.ServiceId.{ServiceId}
use Rattle.ms_record.specs.declared.plan.PlanRow.{PlanRow}
use Rattle.ms_record.specs.Plans.{PlanView}
use Rattle.ms_plan.specs.declared.table.copies.KeyedCopy.{KeyedCopy}
use Rattle.ms_plan.specs.Mapping.{ServiceCopy, IsWithout, copies_of, copies_in, key_text, compare_at, sorted, without, firsts, order_at}
use Rattle.ms_plan.specs.TableInside.{keyed}
use Rattle.ms_plan.proofs.Sorting.{sorted_only, sorted-filter, sorted-map, rises_from_sorted}
use Rattle.ms_plan.proofs.Firsts.{firsts-without, differs}

-- ---- the order of copies

then_equal : (r s : Ordering) → ordering_then r s ≡ Equal → (r ≡ Equal) × (s ≡ Equal)
then_equal Less s h = absurd (false≢true (ap is_eq h))
then_equal Equal s h = (refl, h)
then_equal Greater s h = absurd (false≢true (ap is_eq h))

pub compare_at_total : (slot : ℕ) → IsTotalOrder (compare_at slot)
compare_at_total slot = then_total (on_total (λ (c : ServiceCopy). md5 (key_text slot c)) nat_list_cmp_total) (then_total (on_total (λ (c : ServiceCopy). c.service.0) nat_cmp_total) (on_total (λ (c : ServiceCopy). c.copy) nat_cmp_total))

pub compare_at_same : (slot : ℕ) (c d : ServiceCopy) → compare_at slot c d ≡ Equal → c ≡ d
compare_at_same slot c d h =
    let a = then_equal (slice_cmp nat_cmp (md5 (key_text slot c)) (md5 (key_text slot d))) (ordering_then (nat_cmp c.service.0 d.service.0) (nat_cmp c.copy d.copy)) h in
    let b = then_equal (nat_cmp c.service.0 d.service.0) (nat_cmp c.copy d.copy) a.1 in
    let service : c.service.0 ≡ d.service.0 = nat_cmp-IsAntisymmetric c.service.0 d.service.0 b.0 in
    let copy : c.copy ≡ d.copy = nat_cmp-IsAntisymmetric c.copy d.copy b.1 in
    λ i. record { service = record { 0 = service i }; copy = copy i }

-- the order of the copies with their keys
abbrev pub compare_keyed : KeyedCopy → KeyedCopy → Ordering
compare_keyed c d = ordering_then (slice_cmp nat_cmp c.key d.key) (ordering_then (nat_cmp c.service.0 d.service.0) (nat_cmp c.copy d.copy))

compare_keyed_total : IsTotalOrder compare_keyed
compare_keyed_total = then_total (on_total (λ (c : KeyedCopy). c.key) nat_list_cmp_total) (then_total (on_total (λ (c : KeyedCopy). c.service.0) nat_cmp_total) (on_total (λ (c : KeyedCopy). c.copy) nat_cmp_total))

compare_keyed_same : (c d : KeyedCopy) → compare_keyed c d ≡ Equal → c ≡ d
compare_keyed_same c d h =
    let a = then_equal (slice_cmp nat_cmp c.key d.key) (ordering_then (nat_cmp c.service.0 d.service.0) (nat_cmp c.copy d.copy)) h in
    let b = then_equal (nat_cmp c.service.0 d.service.0) (nat_cmp c.copy d.copy) a.1 in
    let key : c.key ≡ d.key = slice_cmp-IsAntisymmetric nat_cmp-IsAntisymmetric c.key d.key a.0 in
    let service : c.service.0 ≡ d.service.0 = nat_cmp-IsAntisymmetric c.service.0 d.service.0 b.0 in
    let copy : c.copy ≡ d.copy = nat_cmp-IsAntisymmetric c.copy d.copy b.1 in
    λ i. record { key = key i; service = record { 0 = service i }; copy = copy i }

abbrev pub services : List ServiceCopy → List ServiceId
services copies = map (λ c. c.service) copies

-- ---- one sorted list

-- whatever sorted the copies, the first occurrences are the order
pub order_of_sorted : (plan : PlanView) (slot : ℕ) (copies : List ServiceCopy) → IsPermutation (copies_in plan) copies → IsSorted (compare_at slot) copies → order_at plan slot ≡ firsts (map (λ c. c.service) copies)
unfolding order_at
order_of_sorted plan slot copies moved rises =
    let e : copies ≡ sorted (compare_at slot) (copies_in plan) = sorted_only (compare_at_total slot) (compare_at_same slot) (copies_in plan) copies moved (rises_from_sorted (compare_at_total slot) copies rises) in
    ap (λ cs. firsts (services cs)) (sym e)

-- the same of copies with their keys
pub order_of_keyed : (plan : PlanView) (slot : ℕ) (copies : List KeyedCopy) → IsPermutation (map (keyed slot) (copies_in plan)) copies → IsSorted compare_keyed copies → firsts (map (λ c. c.service) copies) ≡ order_at plan slot
unfolding order_at
order_of_keyed plan slot copies moved rises =
    let e : copies ≡ sorted compare_keyed (map (keyed slot) (copies_in plan)) = sorted_only compare_keyed_total compare_keyed_same (map (keyed slot) (copies_in plan)) copies moved (rises_from_sorted compare_keyed_total copies rises) in
    let f : sorted compare_keyed (map (keyed slot) (copies_in plan)) ≡ map (keyed slot) (sorted (compare_at slot) (copies_in plan)) = sorted-map (keyed slot) compare_keyed (copies_in plan) in
    ap (λ (cs : List KeyedCopy). firsts (map (λ c. c.service) cs)) (e ∙ f) ∙ ap firsts (map-map (λ (c : KeyedCopy). c.service) (keyed slot) (sorted (compare_at slot) (copies_in plan)))

-- ---- a service less

abbrev other_copy : ServiceId → ServiceCopy → Bool
other_copy s c = differs s c.service

services-filter : (s : ServiceId) (copies : List ServiceCopy) → services (filter (other_copy s) copies) ≡ without s (services copies)
services-filter s [] = refl
services-filter s (c ∷ cs) =
    elim (differs s c.service) as (λ (b : Bool). services (cond b (c ∷ filter (other_copy s) cs) (filter (other_copy s) cs)) ≡ cond b (c.service ∷ without s (services cs)) (without s (services cs))) [
      | true ↦ ap (λ zs. c.service ∷ zs) (services-filter s cs)
      | false ↦ services-filter s cs
    ]

abbrev pub numbered : ServiceId → List ℕ → List ServiceCopy
numbered s numbers = map (λ copy. record { service = s; copy = copy }) numbers

-- the copies of one service stay or go together
filter-numbered : (s t : ServiceId) (numbers : List ℕ) → filter (other_copy s) (numbered t numbers) ≡ cond (differs s t) (numbered t numbers) []
filter-numbered s t [] = elim (differs s t) as (λ (b : Bool). [] ≡ cond b (numbered t []) []) [ true ↦ refl | false ↦ refl ]
filter-numbered s t (n ∷ ns) =
    ap (λ zs. cond (differs s t) (record { service = t; copy = n } ∷ zs) zs) (filter-numbered s t ns)
    ∙ elim (differs s t) as (λ (b : Bool). cond b (record { service = t; copy = n } ∷ cond b (numbered t ns) []) (cond b (numbered t ns) []) ≡ cond b (numbered t (n ∷ ns)) []) [ true ↦ refl | false ↦ refl ]

copies-without : (s : ServiceId) (unit : ℕ) (rows : List PlanRow) → flat_map (copies_of unit) (filter (λ row. not (row.service.0 == s.0)) rows) ≡ filter (other_copy s) (flat_map (copies_of unit) rows)
copies-without s unit [] = refl
copies-without s unit (r ∷ rs) =
    let here : filter (other_copy s) (copies_of unit r) ≡ cond (differs s r.service) (copies_of unit r) [] = filter-numbered s r.service (range_with_len 0 (r.capacity / unit)) in
    elim (differs s r.service) as (λ (b : Bool). flat_map (copies_of unit) (cond b (r ∷ filter (λ row. not (row.service.0 == s.0)) rs) (filter (λ row. not (row.service.0 == s.0)) rs)) ≡ cond b (copies_of unit r) [] ++ filter (other_copy s) (flat_map (copies_of unit) rs)) [
      | true ↦ ap (λ zs. copies_of unit r ++ zs) (copies-without s unit rs)
      | false ↦ copies-without s unit rs
    ]
    ∙ ap (λ zs. zs ++ filter (other_copy s) (flat_map (copies_of unit) rs)) (sym here)
    ∙ sym (filter-append (other_copy s) (copies_of unit r) (flat_map (copies_of unit) rs))

pub order-without : (plan other : PlanView) (s : ServiceId) (slot : ℕ) → IsWithout s plan other → order_at other slot ≡ without s (order_at plan slot)
unfolding order_at
order-without plan other s slot h =
    let rows : copies_in other ≡ filter (other_copy s) (copies_in plan) =
    ap (λ (unit : ℕ). flat_map (copies_of unit) other.rows) h.unit ∙ ap (λ (rows : List PlanRow). flat_map (copies_of plan.unit) rows) h.rows ∙ copies-without s plan.unit plan.rows in
    ap (λ cs. firsts (services (sorted (compare_at slot) cs))) rows
    ∙ ap (λ cs. firsts (services cs)) (sorted-filter (compare_at_total slot) (compare_at_same slot) (other_copy s) (copies_in plan))
    ∙ ap firsts (services-filter s (sorted (compare_at slot) (copies_in plan)))
    ∙ firsts-without s (services (sorted (compare_at slot) (copies_in plan)))
