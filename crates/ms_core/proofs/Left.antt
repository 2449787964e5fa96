-- Of more services than another part has, one is not of that part.
use Rattle.std.proofs.Common.{◌≡◌, ℕ, ◌+◌, ◌<◌, Bool, true, false, cond, List, [], ◌∷◌, refl, count_by, Contains, arith}
use Rattle.std.proofs.lemmas.List.Sums.{sum_by-cons}
use Rattle.ms_base.specs.Places.{in_here, in_later}
use Rattle.ms_core.specs.Placing.{OnEnough}
use Rattle.ms_record.specs.declared.plan.PlanRow.{PlanRow}
use Rattle.ms_record.specs.Plans.{PlanView}

more_counted : (p q : PlanRow → Bool) (rows : List PlanRow) → count_by q rows < count_by p rows → (row : PlanRow) × Contains rows row × (p row ≡ true) × (q row ≡ false)
more_counted p q [] less = absurd (omega (arith, less))
more_counted p q (x ∷ xs) less = by (p x) (q x) refl refl (more_counted p q xs) (omega (arith, less, sum_by-cons (λ r. cond (p r) 1 0) x xs, sum_by-cons (λ r. cond (q r) 1 0) x xs))
  where
    by : (a b : Bool) → p x ≡ a → q x ≡ b → (count_by q xs < count_by p xs → (row : PlanRow) × Contains xs row × (p row ≡ true) × (q row ≡ false))
        → cond b 1 0 + count_by q xs < cond a 1 0 + count_by p xs → (row : PlanRow) × Contains (x ∷ xs) row × (p row ≡ true) × (q row ≡ false)
    by true false e f rest h = (x, in_here x xs, e, f)
    by true true e f rest h = let r = rest (omega (arith, h)) in (r.0, in_later x xs r.0 r.1, r.2, r.3)
    by false true e f rest h = let r = rest (omega (arith, h)) in (r.0, in_later x xs r.0 r.1, r.2, r.3)
    by false false e f rest h = let r = rest (omega (arith, h)) in (r.0, in_later x xs r.0 r.1, r.2, r.3)

pub one_left : (has : ℕ → Type 0) (lost : ℕ → Bool) (plan : PlanView) → OnEnough has plan → count_by (λ (row : PlanRow). lost row.service.0) plan.rows < plan.replicas
    → (row : PlanRow) × Contains plan.rows row × has row.service.0 × (lost row.service.0 ≡ false)
one_left has lost plan on few =
    let r = more_counted (λ row. on.part row.service.0) (λ row. lost row.service.0) plan.rows (omega (arith, few, on.enough)) in
    (r.0, r.1, on.have r.0.service.0 r.2, r.3)
