-- Which services vote.
use Rattle.std.proofs.Common.{◌≡◌, ℕ, zero, suc, ◌<◌, List, [], ◌∷◌, Option, Some, None, inl, inr, refl, sym, ap, ◌∙◌, subst, slice_get, map, take, IfSome, Contains, zero-add, arith}
use Rattle.std.proofs.lemmas.List.FromFn.{length-range_with_len, get_or-range_with_len}
use Rattle.std.proofs.lemmas.Option.{slice_get_within, get_or_from_slice_get}
use Rattle.ms_base.specs.Places.{some_same, in_none, in_cases}
use Rattle.ms_record.specs.declared.entry.Entry.{Entry}
use Rattle.ms_record.specs.declared.plan.PlanRow.{PlanRow}
use Rattle.ms_record.specs.declared.record.Record.{Record}
use Rattle.ms_record.specs.declared.setting.Setting.{Setting}
use Rattle.ms_record.specs.Chains.{Origin, GoesOn, IsLinked, plan_after, plan_in, voters_behind, voters_of}
use Rattle.ms_record.specs.Plans.{PlanView, no_plan}
use Rattle.ms_record.specs.Settings.{IsSetting, genesis_plan}
use Rattle.ms_record.specs.Votes.{services_below}

-- the voters are the services below n
pub below_voter : (n s : ℕ) → s < n → Contains (services_below n) s
below_voter n s l = (s, omega (arith, length-range_with_len 0 n), get_or-range_with_len 0 n s s l ∙ zero-add s)

pub voter_below : (n s : ℕ) → Contains (services_below n) s → s < n
voter_below n s h = let l : h.0 < n = omega (arith, length-range_with_len 0 n, h.1) in let e = get_or-range_with_len 0 n h.0 s l in let f = h.2 in omega (arith, e, f)

-- the services of the plan are below so many
abbrev pub AreKnown : ℕ → PlanView → Type 0
AreKnown services plan = (i : ℕ) (row : PlanRow) → slice_get plan.rows i ≡ Some row → row.service.0 < services

voter_row : (rows : List PlanRow) (s : ℕ) → Contains (map (λ (row : PlanRow). row.service.0) rows) s → (i : ℕ) × (row : PlanRow) × (slice_get rows i ≡ Some row) × (row.service.0 ≡ s)
voter_row [] s h = absurd (in_none s h)
voter_row (row ∷ rows) s h =
    elim (in_cases row.service.0 (map (λ (r : PlanRow). r.service.0) rows) s h) [
      | inl here ↦ (zero, row, refl, here)
      | inr later ↦ (let r = voter_row rows s later in (suc r.0, r.1, r.2, r.3))
    ]

known_voters : (services : ℕ) (plan : PlanView) → AreKnown services plan → (s : ℕ) → Contains (voters_of plan) s → s < services
known_voters services plan known s h =
    let r = voter_row plan.rows s h in
    omega (arith, known r.0 r.1 r.2, r.3)

known_after : (services : ℕ) (plan : PlanView) (o : Option PlanView) → AreKnown services plan → IfSome o (AreKnown services) → AreKnown services (plan_after plan o)
known_after services plan None known next = known
known_after services plan (Some other) known next = next

known_in : (services : ℕ) (plan : PlanView) (members : List Entry) → AreKnown services plan → ((i : ℕ) (e : Entry) → slice_get members i ≡ Some e → IfSome e.plan (AreKnown services)) → AreKnown services (plan_in plan members)
known_in services plan [] known each = known
known_in services plan (e ∷ members) known each = known_in services (plan_after plan e.plan) members (known_after services plan e.plan known (each zero e refl)) (λ i f at. each (suc i) f at)

known_plan : (generation format services : ℕ) (o : Option PlanView) → IfSome o (GoesOn generation format services) → IfSome o (AreKnown services)
known_plan generation format services None h = tt
known_plan generation format services (Some plan) h = h.known

-- the voters behind a linked list are services
pub voters_known : (votes : ℕ → List Record) (origin : Origin) → AreKnown origin.services origin.plan → (c : List Entry) → IsLinked votes origin c → (s : ℕ) → Contains (voters_behind origin c) s → s < origin.services
voters_known votes origin known c linked s h =
    known_voters origin.services (plan_in origin.plan c)
    (known_in origin.services origin.plan c known (λ i e at. known_plan (plan_in origin.plan (take i c)).generation (plan_in origin.plan (take i c)).format origin.services e.plan (linked.links i e at).plan)) s h

range_below : (n i s : ℕ) → slice_get (services_below n) i ≡ Some s → s < n
range_below n i s at = voter_below n s (i, slice_get_within (services_below n) i s at, get_or_from_slice_get (services_below n) i s s at)

mapped : (rows : List PlanRow) (i : ℕ) (row : PlanRow) → slice_get rows i ≡ Some row → slice_get (map (λ (r : PlanRow). r.service.0) rows) i ≡ Some row.service.0
mapped [] i row at = absurd (let q : None ≡ Some row = at in cc)
mapped (r ∷ rows) zero row at = ap (λ (x : PlanRow). Some x.service.0) (some_same r row at)
mapped (r ∷ rows) (suc i) row at = mapped rows i row at

known_row : (n : ℕ) (rows : List PlanRow) (i : ℕ) (row : PlanRow) → slice_get rows i ≡ Some row → map (λ (r : PlanRow). r.service.0) rows ≡ services_below n → row.service.0 < n
known_row n rows i row at same = range_below n i row.service.0 (ap (λ (xs : List ℕ). slice_get xs i) (sym same) ∙ mapped rows i row at)

-- the services of the first plan
pub first_known : (setting : Setting) → IsSetting setting → AreKnown setting.services (genesis_plan setting)
first_known setting set = subst (λ (o : Option PlanView). AreKnown setting.services (plan_after no_plan o)) (sym set.plan_is)
    (λ i row at. known_row setting.services set.plan.rows i row at set.first.rows)
