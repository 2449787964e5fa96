-- A plan whose rows stand at the front of its places.
use Rattle.std.proofs.Common.{◌≡◌, ◌-◌, ◌≤◌, ◌++◌, refl, sym, ap, ◌∙◌, subst, length, take, drop, arith, length-append}
use Rattle.std.specs.Prelude.{replicate}
use Rattle.std.proofs.lemmas.List.{take_at, drop_at, drop-replicate, length-replicate}
use Rattle.ms_record.specs.declared.plan.Plan.TheInside.{Inside}
use Rattle.ms_record.specs.Plans.{PlanView, IsPlan, no_row}
use Rattle.ms_record.specs.PlanInside.{seen, IsKept}

-- these rows, and the places without one
abbrev pub filled : PlanView → Inside
filled p = record { generation = p.generation; format = p.format; replicas = p.replicas; unit = p.unit; rows = p.rows ++ drop (length p.rows) (replicate 16 no_row); count = length p.rows }

pub filled_shows : (p : PlanView) → seen (filled p) ≡ p
filled_shows p =
    let rows : take (length p.rows) (p.rows ++ drop (length p.rows) (replicate 16 no_row)) ≡ p.rows = take_at p.rows _ (length p.rows) refl in
    λ i. record { generation = p.generation; format = p.format; replicas = p.replicas; unit = p.unit; rows = rows i }

pub filled_keeps : (p : PlanView) → IsPlan p → IsKept (filled p)
filled_keeps p h =
    let few : length p.rows ≤ 16 = h.few_rows in
    let empty : drop (length p.rows) (replicate 16 no_row) ≡ replicate (16 - length p.rows) no_row = drop-replicate (length p.rows) 16 no_row in
    record {
      wide = omega (arith, length-append p.rows (drop (length p.rows) (replicate 16 no_row)), ap length empty, length-replicate (16 - length p.rows) no_row);
      count = few;
      rest = drop_at p.rows _ (length p.rows) refl ∙ empty;
      rules = subst IsPlan (sym (filled_shows p)) h;
    }
