-- The orders of all slots in one list.
use Rattle.std.proofs.Common.{◌≡◌, ℕ, ◌+◌, ◌-◌, ◌*◌, ◌<◌, ◌≤◌, List, [], ◌++◌, length, take, drop, map, sym, ap, subst, ◌∙◌, arith, inl, inr}
use Rattle.std.proofs.lemmas.Bool.{cases_lt}
use Rattle.std.proofs.Math.Seq.{drop-append_seam}
use Rattle.std.proofs.lemmas.List.{take_all, length-append, drop-append-le, take-append-le, length-drop}
use Rattle.std.specs.List.Sorted.{IsPermutation, IsSorted}
use Rattle.ms_base.specs.declared.names.ServiceId.{ServiceId}
use Rattle.ms_record.specs.Plans.{PlanView, IsPlan}
use Rattle.ms_plan.specs.declared.table.copies.KeyedCopy.{KeyedCopy}
use Rattle.ms_plan.specs.Mapping.{copies_in, firsts, order_at, services_of}
use Rattle.ms_plan.specs.TableInside.{HoldsOrders, keyed}
use Rattle.ms_plan.proofs.Filling.{key_services}
use Rattle.ms_plan.proofs.Ordering.{compare_keyed, order_of_keyed}
use Rattle.ms_plan.proofs.Services.{services_permute, length-order}

pub order_found : (plan : PlanView) (slots slot count : ℕ) (orders : List ServiceId) → HoldsOrders plan slots orders → slot < slots → count ≡ length plan.rows
    → take (slot * count + count - slot * count) (drop (slot * count) orders) ≡ order_at plan slot
order_found plan slots slot count orders h below e =
    let wide : slot * count + count - slot * count ≡ count = omega arith in
    ap (λ (n : ℕ). take n (drop (slot * count) orders)) wide ∙ ap (λ (n : ℕ). take n (drop (slot * n) orders)) e ∙ h.each slot below

pub found_permutes : (plan : PlanView) (slots slot count : ℕ) (orders : List ServiceId) → IsPlan plan → HoldsOrders plan slots orders → slot < slots → count ≡ length plan.rows
    → IsPermutation (services_of plan) (take (slot * count + count - slot * count) (drop (slot * count) orders))
found_permutes plan slots slot count orders rules h below e =
    subst (λ (order : List ServiceId). IsPermutation (services_of plan) order) (sym (order_found plan slots slot count orders h below e)) (services_permute plan slot rules)

-- the sorted copies with their keys give the order
pub order_pushed : (plan : PlanView) (slot : ℕ) (cleared filled copies seen : List KeyedCopy) (old new : List ServiceId)
    → cleared ≡ [] → filled ≡ cleared ++ map (keyed slot) (copies_in plan) → IsPermutation filled copies → IsSorted compare_keyed copies → seen ≡ copies
    → new ≡ old ++ firsts (key_services seen) → new ≡ old ++ order_at plan slot
order_pushed plan slot cleared filled copies seen old new none all moved rises same pushed =
    let all_copies : filled ≡ map (keyed slot) (copies_in plan) = all ∙ ap (λ (xs : List KeyedCopy). xs ++ map (keyed slot) (copies_in plan)) none in
    let order : firsts (key_services copies) ≡ order_at plan slot = order_of_keyed plan slot copies (subst (λ (xs : List KeyedCopy). IsPermutation xs copies) all_copies moved) rises in
    pushed ∙ ap (λ (xs : List KeyedCopy). old ++ firsts (key_services xs)) same ∙ ap (λ (xs : List ServiceId). old ++ xs) order

part_before : (from count : ℕ) (xs ys : List ServiceId) → from + count ≤ length xs → take count (drop from (xs ++ ys)) ≡ take count (drop from xs)
part_before from count xs ys room =
    ap (take count) (drop-append-le from xs ys (omega arith)) ∙ take-append-le count (drop from xs) ys (omega (arith, length-drop from xs))

next_below : (slot slots count : ℕ) → slot < slots → slot * count + count ≤ slots * count
next_below slot slots count below = grind arith

-- the order of the slot that comes next
last_part : (plan : PlanView) (slot slots : ℕ) (orders : List ServiceId) → IsPlan plan → HoldsOrders plan slots orders → slot ≡ slots
    → take (length plan.rows) (drop (slot * length plan.rows) (orders ++ order_at plan slots)) ≡ order_at plan slot
last_part plan slot slots orders rules h same =
    let here : slot * length plan.rows ≡ length orders = ap (λ (n : ℕ). n * length plan.rows) same ∙ sym h.wide in
    ap (λ (n : ℕ). take (length plan.rows) (drop n (orders ++ order_at plan slots))) here
    ∙ ap (take (length plan.rows)) (drop-append_seam orders (order_at plan slots))
    ∙ take_all (length plan.rows) (order_at plan slots) (omega (arith, length-order plan slots rules))
    ∙ ap (order_at plan) (sym same)

pub holds_more : (plan : PlanView) (slots : ℕ) (orders more : List ServiceId) → IsPlan plan → HoldsOrders plan slots orders → more ≡ orders ++ order_at plan slots → HoldsOrders plan (slots + 1) more
holds_more plan slots orders more rules h is =
    let count : ℕ = length plan.rows in
    let long : length (order_at plan slots) ≡ count = length-order plan slots rules in
    let each : (slot : ℕ) → slot < slots + 1 → take count (drop (slot * count) (orders ++ order_at plan slots)) ≡ order_at plan slot =
    λ slot below. elim (cases_lt slot slots) [
      | inl before ↦ part_before (slot * count) count orders (order_at plan slots) (omega (arith, next_below slot slots count before, h.wide)) ∙ h.each slot before
      | inr after ↦ last_part plan slot slots orders rules h (omega arith)
    ] in
    subst (HoldsOrders plan (slots + 1)) (sym is) (record { wide = omega (arith, length-append orders (order_at plan slots), h.wide, long); each = each })
