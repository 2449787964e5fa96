-- The fronts of logs of voters, made one after another.
use Rattle.std.proofs.Common.{◌≡◌, ℕ, zero, suc, ◌+◌, ◌<◌, List, [], ◌∷◌, ◌++◌, Some, None, inl, inr, get_or, length, slice_get, refl, sym, ap, ◌∙◌, arith}
use Rattle.std.proofs.Math.Seq.{get_or-append_seam}
use Rattle.std.proofs.lemmas.Bool.{cases_lt}
use Rattle.std.proofs.lemmas.List.{get_or_append_left, length_push, length-map}
use Rattle.std.proofs.lemmas.Option.{slice_get_within, slice_get-get_or}
use Rattle.ms_base.specs.Places.{some_same}
use Rattle.ms_world.specs.Rulings.{AreFronts, Rises, votes_at}
use Rattle.ms_world.specs.Worlds.{services_of}
use Rattle.ms_record.specs.declared.log.LogEvent.{LogEvent}
use Rattle.ms_record.specs.declared.plan.PlanRow.{PlanRow}
use Rattle.ms_record.specs.declared.record.Record.{Record}
use Rattle.ms_record.specs.Logs.{votes_in}
use Rattle.ms_record.specs.Plans.{PlanView, IsPlan}

-- the fronts of the first voters
pub record AreFirst (votes : ℕ → List Record) (rows : List PlanRow) (n : ℕ) (fronts : List (List LogEvent)) : Type 0 where
  pub count : length fronts ≡ n
  pub are : (i : ℕ) (row : PlanRow) → i < n → slice_get rows i ≡ Some row → votes_at fronts i ≡ votes row.service.0

pub one_front_more : (votes : ℕ → List Record) (rows : List PlanRow) (fronts new : List (List LogEvent)) (n : ℕ) (row : PlanRow) (front : List LogEvent) → slice_get rows n ≡ Some row
    → votes_in front ≡ votes row.service.0 → new ≡ fronts ++ front ∷ [] → AreFirst votes rows n fronts → AreFirst votes rows (n + 1) new
one_front_more votes rows fronts new n row front here same is h = record {
  count = omega (arith, ap length is, length_push fronts front, h.count);
  are = λ i other below at. ap (λ (xs : List (List LogEvent)). votes_at xs i) is ∙ elim (cases_lt i n) [
    | inl old ↦ (ap votes_in (get_or_append_left fronts (front ∷ []) [] i (omega (arith, h.count, old))) ∙ h.are i other old at)
    | inr past ↦
        let last : i ≡ n = omega (arith, below, past) in
        let end : i ≡ length fronts = omega (arith, last, h.count) in
        let one : row ≡ other = some_same row other (sym (ap (slice_get rows) last ∙ here) ∙ at) in
        ap (λ (k : ℕ). votes_at (fronts ++ front ∷ []) k) end ∙ ap votes_in (get_or-append_seam fronts front [] []) ∙ same ∙ ap (λ (x : PlanRow). votes x.service.0) one
  ];
}

row_at : (rows : List PlanRow) (i s : ℕ) → slice_get (services_of rows) i ≡ Some s → (row : PlanRow) × (slice_get rows i ≡ Some row) × (row.service.0 ≡ s)
row_at [] i s at = absurd (let q : None ≡ Some s = at in cc)
row_at (row ∷ rows) zero s at = (row, refl, some_same row.service.0 s at)
row_at (row ∷ rows) (suc i) s at = row_at rows i s at

pub all_fronts : (votes : ℕ → List Record) (rows : List PlanRow) (fronts : List (List LogEvent)) (n : ℕ) → n ≡ length rows → AreFirst votes rows n fronts → AreFronts votes (services_of rows) fronts
all_fronts votes rows fronts n all h = record {
  each = h.count ∙ all ∙ sym (length-map rows (λ (row : PlanRow). row.service.0));
  are = λ i s at.
      let r = row_at rows i s at in
      h.are i r.0 (let l = slice_get_within rows i r.0 r.1 in omega (arith, l, all)) r.1 ∙ ap votes r.2;
}

-- the services of a plan rise
pub plan_rises : (plan : PlanView) → IsPlan plan → Rises (services_of plan.rows)
plan_rises plan h i j s t less x y =
    let a = row_at plan.rows i s x in
    let b = row_at plan.rows j t y in
    let l = later j i a.0 b.0 less a.1 b.1 in
    omega (arith, l, a.2, b.2)
  where
    before : (k : ℕ) (row : PlanRow) → slice_get plan.rows (k + 1) ≡ Some row → (other : PlanRow) × (slice_get plan.rows k ≡ Some other)
    before k row at = (get_or plan.rows k row, slice_get-get_or plan.rows k row (let l = slice_get_within plan.rows (k + 1) row at in omega arith))

    later : (j i : ℕ) (a b : PlanRow) → i < j → slice_get plan.rows i ≡ Some a → slice_get plan.rows j ≡ Some b → a.service.0 < b.service.0
    later zero i a b less x y = absurd (omega (arith, less))
    later (suc j) i a b less x y =
        let n : suc j ≡ j + 1 = omega arith in
        let p = before j b (ap (slice_get plan.rows) (sym n) ∙ y) in
        let one = h.rising j p.0 b p.1 (ap (slice_get plan.rows) (sym n) ∙ y) in
        elim (cases_lt i j) [
          | inl low ↦ (let l = later j i a p.0 low x p.1 in omega (arith, l, one))
          | inr past ↦ (let same : i ≡ j = omega (arith, less, past) in
              let e : a ≡ p.0 = some_same a p.0 (sym x ∙ ap (slice_get plan.rows) same ∙ p.1) in omega (arith, one, ap (λ (r : PlanRow). r.service.0) e))
        ]
