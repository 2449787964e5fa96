-- The derived test of entries is true exactly where the two are one.
use Rattle.std.proofs.Common.{◌≡◌, ◌-◌, Bool, List, ◌++◌, Option, Some, None, refl, sym, ap, ◌∙◌, length, take, replicate}
use Rattle.std.specs.Prelude.{◌&&◌, ◌==◌}
use Rattle.std.specs.Bool.{Decides}
use Rattle.std.specs.Option.{option_eq}
use Rattle.std.specs.Cmp.Lexicographic.{pointwise}
use Rattle.std.proofs.lemmas.Bool.Decides.{Decides-eqb, Decides-and}
use Rattle.std.proofs.lemmas.List.{take_at}
use Rattle.std.proofs.lemmas.Option.{none-some, same_Some}
use Rattle.std.proofs.lemmas.Slice.Eq.{slice_eq-Decides, bytes_eq-Decides}
use Rattle.std.specs.Str.{bytes_eq}
use Rattle.ms_record.specs.declared.entry.Entry.{Entry}
use Rattle.ms_record.specs.declared.plan.PlanRow.{PlanRow}
use Rattle.ms_record.specs.Plans.{PlanView, no_row}

decides_by : {P Q : Type 0} (a : Bool) → Decides a P → (P → Q) → (Q → P) → Decides a Q
decides_by a p there back = (λ h. there (p.0 h), λ h. p.1 (back h))

abbrev row_eq : PlanRow → PlanRow → Bool
row_eq r s = (r.service.0 == s.service.0) && (r.capacity == s.capacity)

rows_decided : (r s : PlanRow) → Decides (row_eq r s) (r ≡ s)
rows_decided r s =
    decides_by (row_eq r s) (Decides-and (r.service.0 == s.service.0) (r.capacity == s.capacity) (Decides-eqb r.service.0 s.service.0) (Decides-eqb r.capacity s.capacity))
    (λ h i. record { service = record { 0 = h.0 i }; capacity = h.1 i })
    (λ h. (ap (λ (x : PlanRow). x.service.0) h, ap (λ (x : PlanRow). x.capacity) h))

-- the sixteen places of a plan
abbrev places : PlanView → List PlanRow
places p = p.rows ++ replicate (16 - length p.rows) no_row

abbrev pub plan_eq : PlanView → PlanView → Bool
plan_eq p q =
    (p.generation == q.generation) && ((p.format == q.format) && ((p.replicas == q.replicas) && ((p.unit == q.unit)
    && (pointwise row_eq (places p) (places q) && (length p.rows == length q.rows)))))

rows_of_places : (p q : PlanView) → places p ≡ places q → length p.rows ≡ length q.rows → p.rows ≡ q.rows
rows_of_places p q same count =
    sym (take_at p.rows (replicate (16 - length p.rows) no_row) (length p.rows) refl)
    ∙ ap (λ (xs : List PlanRow). take (length p.rows) xs) same
    ∙ take_at q.rows (replicate (16 - length q.rows) no_row) (length p.rows) (sym count)

plans_decided : (p q : PlanView) → Decides (plan_eq p q) (p ≡ q)
plans_decided p q =
    let placed : Decides (pointwise row_eq (places p) (places q)) (places p ≡ places q) = slice_eq-Decides rows_decided (places p) (places q) (pointwise row_eq (places p) (places q)) refl in
    decides_by (plan_eq p q)
    (Decides-and (p.generation == q.generation) _ (Decides-eqb p.generation q.generation)
    (Decides-and (p.format == q.format) _ (Decides-eqb p.format q.format)
    (Decides-and (p.replicas == q.replicas) _ (Decides-eqb p.replicas q.replicas)
    (Decides-and (p.unit == q.unit) _ (Decides-eqb p.unit q.unit)
    (Decides-and (pointwise row_eq (places p) (places q)) (length p.rows == length q.rows) placed (Decides-eqb (length p.rows) (length q.rows)))))))
    (λ h.
    let rows : p.rows ≡ q.rows = rows_of_places p q h.1.1.1.1.0 h.1.1.1.1.1 in
    λ i. record { generation = h.0 i; format = h.1.0 i; replicas = h.1.1.0 i; unit = h.1.1.1.0 i; rows = rows i })
    (λ h. (ap (λ (x : PlanView). x.generation) h, (ap (λ (x : PlanView). x.format) h, (ap (λ (x : PlanView). x.replicas) h, (ap (λ (x : PlanView). x.unit) h, (ap places h, ap (λ (x : PlanView). length x.rows) h))))))

options_decided : {A : Type 0} (E : A → A → Bool) → ((a b : A) → Decides (E a b) (a ≡ b)) → (x y : Option A) → Decides (option_eq E x y) (x ≡ y)
options_decided E h None None = (λ _. refl, λ _. refl)
options_decided E h None (Some y) = (λ e. absurd cc, λ e. absurd (none-some y e))
options_decided E h (Some x) None = (λ e. absurd cc, λ e. absurd (none-some x (sym e)))
options_decided E h (Some x) (Some y) = (λ e. ap Some ((h x y).0 e), λ e. (h x y).1 (same_Some x y e))

abbrev pub entry_eq : Entry → Entry → Bool
entry_eq e f =
    bytes_eq e.before.0 f.before.0 && ((e.client.0 == f.client.0) && ((e.number == f.number) && (bytes_eq e.version.0 f.version.0 && option_eq plan_eq e.plan f.plan)))

pub entries_decided : (e f : Entry) → Decides (entry_eq e f) (e ≡ f)
entries_decided e f =
    decides_by (entry_eq e f)
    (Decides-and (bytes_eq e.before.0 f.before.0) _ (bytes_eq-Decides e.before.0 f.before.0)
    (Decides-and (e.client.0 == f.client.0) _ (Decides-eqb e.client.0 f.client.0)
    (Decides-and (e.number == f.number) _ (Decides-eqb e.number f.number)
    (Decides-and (bytes_eq e.version.0 f.version.0) (option_eq plan_eq e.plan f.plan) (bytes_eq-Decides e.version.0 f.version.0) (options_decided plan_eq plans_decided e.plan f.plan)))))
    (λ h i. record { before = record { 0 = h.0 i }; client = record { 0 = h.1.0 i }; number = h.1.1.0 i; version = record { 0 = h.1.1.1.0 i }; plan = h.1.1.1.1 i })
    (λ h. (ap (λ (x : Entry). x.before.0) h, (ap (λ (x : Entry). x.client.0) h, (ap (λ (x : Entry). x.number) h, (ap (λ (x : Entry). x.version.0) h, ap (λ (x : Entry). x.plan) h)))))
