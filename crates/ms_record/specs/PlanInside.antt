-- A plan's fields are those of its view: the places without a row are all alike.
use Rattle.std.specs.Prelude.{◌≡◌, ℕ, ◌-◌, ◌≤◌, List, ◌++◌, length, take, drop, replicate}
use Rattle.std.proofs.Common.{sym, ap, ◌∙◌, arith}
use Rattle.std.proofs.lemmas.List.{take-append-drop, length-take-le}
use Rattle.ms_record.specs.declared.plan.PlanRow.{PlanRow}
use Rattle.ms_record.specs.declared.plan.Plan.TheInside.{Inside}
use Rattle.ms_record.specs.Plans.{PlanView, IsPlan, plan_of, no_row}

abbrev pub seen : Inside → PlanView
seen p = plan_of p.generation p.format p.replicas p.unit (take p.count p.rows)

pub record IsKept (p : Inside) : Type 0 where
  pub wide : length p.rows ≡ 16
  pub count : p.count ≤ 16
  pub rest : drop p.count p.rows ≡ replicate (16 - p.count) no_row
  pub rules : IsPlan (seen p)

abbrev pub fields_of : PlanView → Inside
fields_of v = record { generation = v.generation; format = v.format; replicas = v.replicas; unit = v.unit; rows = v.rows ++ replicate (16 - length v.rows) no_row; count = length v.rows }

pub fields_back : (p : Inside) → IsKept p → fields_of (seen p) ≡ p
fields_back p h =
    let count : length (take p.count p.rows) ≡ p.count = length-take-le p.count p.rows (omega (arith, h.wide, h.count)) in
    let rest : replicate (16 - length (take p.count p.rows)) no_row ≡ drop p.count p.rows = ap (λ (n : ℕ). replicate (16 - n) no_row) count ∙ sym h.rest in
    let rows : take p.count p.rows ++ replicate (16 - length (take p.count p.rows)) no_row ≡ p.rows = ap (λ (xs : List PlanRow). take p.count p.rows ++ xs) rest ∙ take-append-drop p.count p.rows in
    λ i. record { generation = p.generation; format = p.format; replicas = p.replicas; unit = p.unit; rows = rows i; count = count i }
