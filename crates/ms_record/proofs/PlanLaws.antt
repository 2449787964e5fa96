-- A plan that is read is spelled so, and what is spelled so is read again.
use Rattle.std.proofs.Common.{◌≡◌, ℕ, zero, suc, ◌^◌, ◌<◌, ◌≤◌, List, [], ◌∷◌, ◌++◌, length, Some, refl, sym, ap, subst, ◌∙◌, append_assoc, arith, slice_get}
use Rattle.std.specs.Int.{w32, w64, to_be_bytes}
use Rattle.std.specs.List.{flat_map}
use Rattle.std.proofs.lemmas.List.Concat.{flat_map-cons}
use Rattle.std.proofs.lemmas.Option.{same_Some, none-some}
use Rattle.ms_base.specs.Places.{some_same}
use Rattle.ms_base.specs.Options.{◌>>=◌, bind_some}
use Rattle.ms_base.specs.declared.limits.TheConstants.{SERVICES}
use Rattle.ms_record.specs.declared.plan.PlanRow.{PlanRow}
use Rattle.ms_base.specs.Fields.{IsBytes, Field, number_at, number_within}
use Rattle.ms_record.specs.Plans.{PlanView, IsPlan, plan_of, row_text, plan_text}
use Rattle.ms_record.specs.PlanTests.{plan_if}
use Rattle.ms_record.specs.Reading.{row_at, rows_at, plan_at}
use Rattle.ms_base.specs.FieldLaws.{Takes, FieldsRead, FieldsSpelled, Takes-then}
use Rattle.ms_record.proofs.PlanRules.{plan_if_given, plan_if_keeps}

-- ---- rows

-- a service of four bytes and a capacity of eight
pub record Fits (row : PlanRow) : Type 0 where
  pub service : row.service.0 < 2 ^ 32
  pub capacity : row.capacity < 2 ^ 64

abbrev pub AllFit : List PlanRow → Type 0
AllFit rows = (i : ℕ) (row : PlanRow) → slice_get rows i ≡ Some row → Fits row

AllFit-cons : (r : PlanRow) (rs : List PlanRow) → Fits r → AllFit rs → AllFit (r ∷ rs)
AllFit-cons r rs here others zero row e = subst Fits (same_Some r row e) here
AllFit-cons r rs here others (suc i) row e = others i row e

row_takes : FieldsSpelled → (text : List ℕ) (x : PlanRow × List ℕ) → IsBytes text → row_at text ≡ Some x → Takes text (row_text x.0) x.1 × Fits x.0
unfolding row_at
row_takes law text x fits e =
    let a = bind_some (number_at w32 text) (λ s. number_at w64 s.1 >>= λ c. Some (record { service = record { 0 = s.0 }; capacity = c.0 }, c.1)) x e in
    let b = bind_some (number_at w64 a.0.1) (λ c. Some (record { service = record { 0 = a.0.0 }; capacity = c.0 }, c.1)) x a.2 in
    let t0 = law.four text a.0 fits a.1 in
    let t1 = law.eight a.0.1 b.0 t0.0.bytes b.1 in
    let made : PlanRow × List ℕ = (record { service = record { 0 = a.0.0 }; capacity = b.0.0 }, b.0.1) in
    subst (λ (y : PlanRow × List ℕ). Takes text (row_text y.0) y.1 × Fits y.0) (some_same made x b.2)
    (Takes-then text (to_be_bytes w32 a.0.0) a.0.1 (to_be_bytes w64 b.0.0) b.0.1 t0.0 t1.0, record { service = t0.1; capacity = t1.1 })

row_again : FieldsRead → (row : PlanRow) (rest : List ℕ) → Fits row → row_at (row_text row ++ rest) ≡ Some (row, rest)
unfolding row_at
row_again law row rest fits =
    let regrouped : row_text row ++ rest ≡ to_be_bytes w32 row.service.0 ++ (to_be_bytes w64 row.capacity ++ rest) = append_assoc (to_be_bytes w32 row.service.0) (to_be_bytes w64 row.capacity) rest in
    ap row_at regrouped ∙ rw (law.four row.service.0 (to_be_bytes w64 row.capacity ++ rest) fits.service, law.eight row.capacity rest fits.capacity) refl

rows_take : FieldsSpelled → (n : ℕ) (text : List ℕ) (x : List PlanRow × List ℕ) → IsBytes text → rows_at n text ≡ Some x → Takes text (flat_map row_text x.0) x.1 × (length x.0 ≡ n) × AllFit x.0
unfolding rows_at
rows_take law zero text x fits e =
    let none : AllFit [] = λ i row h. absurd (none-some row h) in
    subst (λ (y : List PlanRow × List ℕ). Takes text (flat_map row_text y.0) y.1 × (length y.0 ≡ 0) × AllFit y.0) (some_same ([], text) x e) (record { parts = refl; bytes = fits }, refl, none)
rows_take law (suc n) text x fits e =
    let a = bind_some (row_at text) (λ first. rows_at n first.1 >>= λ others. Some (first.0 ∷ others.0, others.1)) x e in
    let b = bind_some (rows_at n a.0.1) (λ others. Some (a.0.0 ∷ others.0, others.1)) x a.2 in
    let first = row_takes law text a.0 fits a.1 in
    let others = rows_take law n a.0.1 b.0 first.0.bytes b.1 in
    let whole = Takes-then text (row_text a.0.0) a.0.1 (flat_map row_text b.0.0) b.0.1 first.0 others.0 in
    let made : List PlanRow × List ℕ = (a.0.0 ∷ b.0.0, b.0.1) in
    subst (λ (y : List PlanRow × List ℕ). Takes text (flat_map row_text y.0) y.1 × (length y.0 ≡ suc n) × AllFit y.0) (some_same made x b.2)
    (rw flat_map-cons whole, ap suc others.1, AllFit-cons a.0.0 b.0.0 first.1 others.2)

rows_again : FieldsRead → (rows : List PlanRow) (rest : List ℕ) → AllFit rows → rows_at (length rows) (flat_map row_text rows ++ rest) ≡ Some (rows, rest)
unfolding rows_at
rows_again law [] rest fits = refl
rows_again law (r ∷ rs) rest fits =
    let regrouped : flat_map row_text (r ∷ rs) ++ rest ≡ row_text r ++ (flat_map row_text rs ++ rest) = ap (λ (x : List ℕ). x ++ rest) (flat_map-cons row_text r rs) ∙ append_assoc (row_text r) (flat_map row_text rs) rest in
    let first : row_at (row_text r ++ (flat_map row_text rs ++ rest)) ≡ Some (r, flat_map row_text rs ++ rest) = row_again law r (flat_map row_text rs ++ rest) (fits 0 r refl) in
    let others : rows_at (length rs) (flat_map row_text rs ++ rest) ≡ Some (rs, rest) = rows_again law rs rest (λ i row e. fits (suc i) row e) in
    ap (rows_at (suc (length rs))) regrouped ∙ rw (first, others) refl

-- ---- plans

abbrev some_plan : PlanView → List ℕ → Field PlanView
some_plan plan rest = Some (plan, rest)

abbrev with_plan : ℕ → ℕ → ℕ → ℕ → List PlanRow × List ℕ → Field PlanView
with_plan generation format replicas unit rows = plan_if (plan_of generation format replicas unit rows.0) >>= λ plan. some_plan plan rows.1

abbrev with_rows : ℕ → ℕ → ℕ → ℕ → ℕ × List ℕ → Field PlanView
with_rows generation format replicas unit count = rows_at count.0 count.1 >>= with_plan generation format replicas unit

-- a plan with these values, whose rows were taken from the front
record TakesRows (generation format replicas unit : ℕ) (text : List ℕ) (x : PlanView × List ℕ) : Type 0 where
  rows : List PlanRow
  is : plan_of generation format replicas unit rows ≡ x.0
  takes : Takes text (to_be_bytes w32 (length rows) ++ flat_map row_text rows) x.1
  kept : IsPlan x.0

counted_takes : (text after : List ℕ) (n : ℕ) (x : List PlanRow × List ℕ) → Takes text (to_be_bytes w32 n) after → Takes after (flat_map row_text x.0) x.1 → length x.0 ≡ n
    → Takes text (to_be_bytes w32 (length x.0) ++ flat_map row_text x.0) x.1
counted_takes text after n x count rows len =
    let counted : Takes text (to_be_bytes w32 (length x.0)) after = subst (λ (k : ℕ). Takes text (to_be_bytes w32 k) after) (sym len) count in
    Takes-then text (to_be_bytes w32 (length x.0)) after (flat_map row_text x.0) x.1 counted rows

with_plan_takes : (generation format replicas unit : ℕ) (text : List ℕ) (rows : List PlanRow × List ℕ) (x : PlanView × List ℕ) → unit < 2 ^ 64 → AllFit rows.0
    → Takes text (to_be_bytes w32 (length rows.0) ++ flat_map row_text rows.0) rows.1 → with_plan generation format replicas unit rows ≡ Some x → TakesRows generation format replicas unit text x
with_plan_takes generation format replicas unit text rows x fits rows_fit takes e =
    let made : PlanView = plan_of generation format replicas unit rows.0 in
    let plan = bind_some (plan_if made) (λ p. some_plan p rows.1) x e in
    let kept = plan_if_given made plan.0 fits (λ i row h. (rows_fit i row h).capacity) plan.1 in
    let is : (plan.0, rows.1) ≡ x = some_same (plan.0, rows.1) x plan.2 in
    let same : made ≡ x.0 = kept.0 ∙ ap (λ (y : PlanView × List ℕ). y.0) is in
    record { rows = rows.0; is = same; takes = subst (λ (t : List ℕ). Takes text (to_be_bytes w32 (length rows.0) ++ flat_map row_text rows.0) t) (ap (λ (y : PlanView × List ℕ). y.1) is) takes; kept = subst IsPlan same kept.1 }

with_rows_takes : FieldsSpelled → (generation format replicas unit : ℕ) (text : List ℕ) (x : PlanView × List ℕ) → IsBytes text → unit < 2 ^ 64
    → (number_within 1 SERVICES text >>= with_rows generation format replicas unit) ≡ Some x → TakesRows generation format replicas unit text x
with_rows_takes law generation format replicas unit text x fits unit_fits e =
    let n = bind_some (number_within 1 SERVICES text) (with_rows generation format replicas unit) x e in
    let count = law.within 1 SERVICES text n.0 fits n.1 in
    let r = bind_some (rows_at n.0.0 n.0.1) (with_plan generation format replicas unit) x n.2 in
    let rows = rows_take law n.0.0 n.0.1 r.0 count.0.bytes r.1 in
    with_plan_takes generation format replicas unit text r.0 x unit_fits rows.2 (counted_takes text n.0.1 n.0.0 r.0 count.0 rows.0 rows.1) r.2

whole_takes : (generation format replicas unit : ℕ) (text after : List ℕ) (x : PlanView × List ℕ)
    → Takes text (to_be_bytes w32 generation ++ to_be_bytes w32 format ++ to_be_bytes w32 replicas ++ to_be_bytes w64 unit) after → TakesRows generation format replicas unit after x
    → Takes text (plan_text x.0) x.1 × IsPlan x.0
whole_takes generation format replicas unit text after x front h =
    let whole = Takes-then text (to_be_bytes w32 generation ++ to_be_bytes w32 format ++ to_be_bytes w32 replicas ++ to_be_bytes w64 unit) after (to_be_bytes w32 (length h.rows) ++ flat_map row_text h.rows) x.1 front h.takes in
    (subst (λ (p : PlanView). Takes text (plan_text p) x.1) h.is whole, h.kept)

pub plan_takes : FieldsSpelled → (text : List ℕ) (x : PlanView × List ℕ) → IsBytes text → plan_at text ≡ Some x → Takes text (plan_text x.0) x.1 × IsPlan x.0
unfolding plan_at
plan_takes law text x fits e =
    let g = bind_some (number_at w32 text) (λ g. number_at w32 g.1 >>= λ f. number_at w32 f.1 >>= λ r. number_at w64 r.1 >>= λ u. number_within 1 SERVICES u.1 >>= with_rows g.0 f.0 r.0 u.0) x e in
    let f = bind_some (number_at w32 g.0.1) (λ f. number_at w32 f.1 >>= λ r. number_at w64 r.1 >>= λ u. number_within 1 SERVICES u.1 >>= with_rows g.0.0 f.0 r.0 u.0) x g.2 in
    let r = bind_some (number_at w32 f.0.1) (λ r. number_at w64 r.1 >>= λ u. number_within 1 SERVICES u.1 >>= with_rows g.0.0 f.0.0 r.0 u.0) x f.2 in
    let u = bind_some (number_at w64 r.0.1) (λ u. number_within 1 SERVICES u.1 >>= with_rows g.0.0 f.0.0 r.0.0 u.0) x r.2 in
    let t0 = law.four text g.0 fits g.1 in
    let t1 = law.four g.0.1 f.0 t0.0.bytes f.1 in
    let t2 = law.four f.0.1 r.0 t1.0.bytes r.1 in
    let t3 = law.eight r.0.1 u.0 t2.0.bytes u.1 in
    let e1 = Takes-then text (to_be_bytes w32 g.0.0) g.0.1 (to_be_bytes w32 f.0.0) f.0.1 t0.0 t1.0 in
    let e2 = Takes-then text (to_be_bytes w32 g.0.0 ++ to_be_bytes w32 f.0.0) f.0.1 (to_be_bytes w32 r.0.0) r.0.1 e1 t2.0 in
    let e3 = Takes-then text (to_be_bytes w32 g.0.0 ++ to_be_bytes w32 f.0.0 ++ to_be_bytes w32 r.0.0) r.0.1 (to_be_bytes w64 u.0.0) u.0.1 e2 t3.0 in
    whole_takes g.0.0 f.0.0 r.0.0 u.0.0 text u.0.1 x e3 (with_rows_takes law g.0.0 f.0.0 r.0.0 u.0.0 u.0.1 x t3.0.bytes t3.1 u.2)

pub plan_again : FieldsRead → (plan : PlanView) (rest : List ℕ) → IsPlan plan → plan_at (plan_text plan ++ rest) ≡ Some (plan, rest)
unfolding plan_at
plan_again law plan rest h =
    let rows = flat_map row_text plan.rows ++ rest in
    let count = to_be_bytes w32 (length plan.rows) ++ rows in
    let unit = to_be_bytes w64 plan.unit ++ count in
    let replicas = to_be_bytes w32 plan.replicas ++ unit in
    let format = to_be_bytes w32 plan.format ++ replicas in
    let regrouped : plan_text plan ++ rest ≡ to_be_bytes w32 plan.generation ++ format = simp append_assoc in
    let few : length plan.rows ≤ 16 = h.few_rows in
    let fits : AllFit plan.rows = λ i row e. let r = h.rows i row e in record { service = omega (arith, r.service); capacity = r.capacity } in
    ap plan_at regrouped
    ∙ rw (law.four plan.generation format (omega (arith, h.last_generation)), law.four plan.format replicas (omega (arith, h.last_format)), law.four plan.replicas unit (omega (arith, h.few_replicas, few)), law.eight plan.unit count h.unit, law.within 1 SERVICES (length plan.rows) rows h.some_rows few (omega arith), rows_again law plan.rows rest fits, plan_if_keeps plan h) refl
