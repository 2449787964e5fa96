-- The plan rules and the test of them.
use Rattle.std.proofs.Common.{◌≡◌, ℕ, zero, suc, ◌+◌, ◌/◌, ◌^◌, ◌<◌, ◌≤◌, Bool, true, false, List, [], ◌∷◌, Some, None, refl, sym, ap, ◌∙◌, subst, length, slice_get, arith, cond}
use Rattle.std.specs.Prelude.{nat_le, nat_lt, ◌&&◌}
use Rattle.std.proofs.lemmas.Bool.{leb-true, ltb-true, le-leb, lt-ltb}
use Rattle.std.proofs.lemmas.Option.{same_Some, none-some, cond_some}
use Rattle.ms_base.specs.declared.limits.TheConstants.{COPIES, LAST_NUMBER, SERVICES}
use Rattle.ms_record.specs.declared.plan.PlanRow.{PlanRow}
use Rattle.ms_record.specs.Plans.{PlanView, IsRow, IsPlan}
use Rattle.ms_record.specs.PlanTests.{AreCapacities, is_row, are_rows, is_plan, plan_if}

split : (a b : Bool) → (a && b) ≡ true → (a ≡ true) × (b ≡ true)
split true true h = (refl, refl)
split true false h = absurd cc
split false b h = absurd cc

joined : (a b : Bool) → a ≡ true → b ≡ true → (a && b) ≡ true
joined a b p q = rw (p, q) refl

-- the rows keep their rules, from this service on
pub record AreRows (unit low : ℕ) (rows : List PlanRow) : Type 0 where
  pub each : (i : ℕ) (row : PlanRow) → slice_get rows i ≡ Some row → IsRow unit row
  pub rising : (i : ℕ) (row next : PlanRow) → slice_get rows i ≡ Some row → slice_get rows (i + 1) ≡ Some next → row.service.0 < next.service.0
  pub first : (row : PlanRow) → slice_get rows 0 ≡ Some row → low ≤ row.service.0

each_row : (unit : ℕ) (r : PlanRow) (rs : List PlanRow) → IsRow unit r → ((i : ℕ) (row : PlanRow) → slice_get rs i ≡ Some row → IsRow unit row)
    → (i : ℕ) (row : PlanRow) → slice_get (r ∷ rs) i ≡ Some row → IsRow unit row
each_row unit r rs here others zero row e = subst (IsRow unit) (same_Some r row e) here
each_row unit r rs here others (suc i) row e = others i row e

next_place : (r : PlanRow) (rs : List PlanRow) (i : ℕ) → slice_get (r ∷ rs) (suc i + 1) ≡ slice_get rs (i + 1)
next_place r rs i = let k : suc i + 1 ≡ suc (i + 1) = omega arith in ap (λ (n : ℕ). slice_get (r ∷ rs) n) k

rising_rows : (r : PlanRow) (rs : List PlanRow) → ((row : PlanRow) → slice_get rs 0 ≡ Some row → r.service.0 < row.service.0)
    → ((i : ℕ) (row next : PlanRow) → slice_get rs i ≡ Some row → slice_get rs (i + 1) ≡ Some next → row.service.0 < next.service.0)
    → (i : ℕ) (row next : PlanRow) → slice_get (r ∷ rs) i ≡ Some row → slice_get (r ∷ rs) (i + 1) ≡ Some next → row.service.0 < next.service.0
rising_rows r rs first others zero row next e f = subst (λ (x : PlanRow). x.service.0 < next.service.0) (same_Some r row e) (first next f)
rising_rows r rs first others (suc i) row next e f =
    others i row next e (sym (next_place r rs i) ∙ f)

row_passes : (unit : ℕ) (row : PlanRow) → row.capacity < 2 ^ 64 → is_row unit row ≡ true → IsRow unit row
row_passes unit row fits h =
    let p = split (nat_lt row.service.0 SERVICES && nat_le 1 (row.capacity / unit)) (nat_le (row.capacity / unit) COPIES) h in
    let q = split (nat_lt row.service.0 SERVICES) (nat_le 1 (row.capacity / unit)) p.0 in
    record { service = ltb-true row.service.0 SERVICES q.0; capacity = fits; some_copies = leb-true 1 (row.capacity / unit) q.1; few_copies = leb-true (row.capacity / unit) COPIES p.1 }

row_keeps : (unit : ℕ) (row : PlanRow) → IsRow unit row → is_row unit row ≡ true
row_keeps unit row h =
    joined (nat_lt row.service.0 SERVICES && nat_le 1 (row.capacity / unit)) (nat_le (row.capacity / unit) COPIES)
    (joined (nat_lt row.service.0 SERVICES) (nat_le 1 (row.capacity / unit)) (lt-ltb row.service.0 SERVICES h.service) (le-leb 1 (row.capacity / unit) h.some_copies))
    (le-leb (row.capacity / unit) COPIES h.few_copies)

-- rows that pass the test keep the rules
pub rows_pass : (unit low : ℕ) (rows : List PlanRow) → AreCapacities rows → are_rows unit low rows ≡ true → AreRows unit low rows
rows_pass unit low [] fits h = record { each = λ i row e. absurd (none-some row e); rising = λ i row next e f. absurd (none-some row e); first = λ row e. absurd (none-some row e) }
rows_pass unit low (r ∷ rs) fits h =
    let p = split (nat_le low r.service.0 && is_row unit r) (are_rows unit (r.service.0 + 1) rs) h in
    let q = split (nat_le low r.service.0) (is_row unit r) p.0 in
    let here : IsRow unit r = row_passes unit r (fits 0 r refl) q.1 in
    let others : AreRows unit (r.service.0 + 1) rs = rows_pass unit (r.service.0 + 1) rs (λ i row e. fits (suc i) row e) p.1 in
    record {
      each = each_row unit r rs here others.each;
      rising = rising_rows r rs (λ row e. omega (arith, others.first row e)) others.rising;
      first = λ row e. subst (λ (x : PlanRow). low ≤ x.service.0) (same_Some r row e) (leb-true low r.service.0 q.0);
    }

-- and rows that keep them pass it
pub rows_keep : (unit low : ℕ) (rows : List PlanRow) → AreRows unit low rows → are_rows unit low rows ≡ true
rows_keep unit low [] h = refl
rows_keep unit low (r ∷ rs) h =
    let others : AreRows unit (r.service.0 + 1) rs = record {
      each = λ i row e. h.each (suc i) row e;
      rising = λ i row next e f. h.rising (suc i) row next e (next_place r rs i ∙ f);
      first = λ row e. let above : r.service.0 < row.service.0 = h.rising 0 r row refl e in omega arith;
    } in
    joined (nat_le low r.service.0 && is_row unit r) (are_rows unit (r.service.0 + 1) rs)
    (joined (nat_le low r.service.0) (is_row unit r) (le-leb low r.service.0 (h.first r refl)) (row_keeps unit r (h.each 0 r refl)))
    (rows_keep unit (r.service.0 + 1) rs others)

-- a plan that passes the test keeps the rules
pub plan_passes : (p : PlanView) → p.unit < 2 ^ 64 → AreCapacities p.rows → is_plan p ≡ true → IsPlan p
unfolding is_plan
plan_passes p unit capacities h =
    let a = split _ (are_rows p.unit 0 p.rows) h in
    let b = split _ (nat_le p.replicas (length p.rows)) a.0 in
    let c = split _ (nat_le 1 p.replicas) b.0 in
    let d = split _ (nat_le (length p.rows) SERVICES) c.0 in
    let e = split _ (nat_le 1 (length p.rows)) d.0 in
    let f = split _ (nat_le 1 p.unit) e.0 in
    let g = split _ (nat_le p.format 2) f.0 in
    let j = split _ (nat_le 1 p.format) g.0 in
    let k = split (nat_le 1 p.generation) (nat_le p.generation LAST_NUMBER) j.0 in
    let rows = rows_pass p.unit 0 p.rows capacities a.1 in
    record {
      some_generation = leb-true _ _ k.0;
      last_generation = leb-true _ _ k.1;
      some_format = leb-true _ _ j.1;
      last_format = leb-true _ _ g.1;
      some_unit = leb-true _ _ f.1;
      unit = unit;
      some_rows = leb-true _ _ e.1;
      few_rows = leb-true _ _ d.1;
      some_replicas = leb-true _ _ c.1;
      few_replicas = leb-true _ _ b.1;
      rows = rows.each;
      rising = rows.rising;
    }

-- and a plan that keeps them passes it
pub plan_keeps : (p : PlanView) → IsPlan p → is_plan p ≡ true
unfolding is_plan
plan_keeps p h =
    let rows : are_rows p.unit 0 p.rows ≡ true = rows_keep p.unit 0 p.rows (record { each = h.rows; rising = h.rising; first = λ row e. omega arith }) in
    joined _ (are_rows p.unit 0 p.rows)
    (joined _ (nat_le p.replicas (length p.rows))
    (joined _ (nat_le 1 p.replicas)
    (joined _ (nat_le (length p.rows) SERVICES)
    (joined _ (nat_le 1 (length p.rows))
    (joined _ (nat_le 1 p.unit)
    (joined _ (nat_le p.format 2)
    (joined _ (nat_le 1 p.format)
    (joined (nat_le 1 p.generation) (nat_le p.generation LAST_NUMBER) (le-leb _ _ h.some_generation) (le-leb _ _ h.last_generation))
    (le-leb _ _ h.some_format))
    (le-leb _ _ h.last_format))
    (le-leb _ _ h.some_unit))
    (le-leb _ _ h.some_rows))
    (le-leb _ _ h.few_rows))
    (le-leb _ _ h.some_replicas))
    (le-leb _ _ h.few_replicas))
    rows

-- what keeps the rules is given
pub plan_if_keeps : (p : PlanView) → IsPlan p → plan_if p ≡ Some p
plan_if_keeps p h = rw (plan_keeps p h) refl

none_unless : (b : Bool) (p : PlanView) → (b ≡ true → ⊥) → cond b (Some p) None ≡ None
none_unless true p never = absurd (never refl)
none_unless false p never = refl

-- what breaks them is not
pub plan_if_breaks : (p : PlanView) → p.unit < 2 ^ 64 → AreCapacities p.rows → (IsPlan p → ⊥) → plan_if p ≡ None
plan_if_breaks p unit capacities never = none_unless (is_plan p) p (λ h. never (plan_passes p unit capacities h))

-- what is given keeps them
pub plan_if_given : (p q : PlanView) → p.unit < 2 ^ 64 → AreCapacities p.rows → plan_if p ≡ Some q → (p ≡ q) × IsPlan p
plan_if_given p q unit capacities e =
    let h = cond_some (is_plan p) p q e in
    (h.1, plan_passes p unit capacities h.0)
