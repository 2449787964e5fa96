-- Lines that go on by a member, and the plans in force along them.
use Rattle.std.proofs.Common.{◌≡◌, ℕ, zero, suc, ◌+◌, ◌<◌, ◌≤◌, List, [], ◌∷◌, ◌++◌, Option, Some, None, ◌⊎◌, inl, inr, refl, sym, ap, ◌∙◌, subst, slice_get, length, take, arith, Contains}
use Rattle.std.specs.Prelude.{IfSome}
use Rattle.std.specs.Option.{option_map}
use Rattle.std.proofs.lemmas.List.FromFn.{length-range_with_len, get_or-range_with_len}
use Rattle.std.proofs.lemmas.Option.{slice_get_within, slice_get-get_or, slice_get-map}
use Rattle.ms_base.specs.declared.limits.TheConstants.{LAST_NUMBER}
use Rattle.ms_base.specs.declared.names.Name.{Name}
use Rattle.ms_record.specs.declared.entry.Entry.{Entry}
use Rattle.ms_record.specs.declared.plan.PlanRow.{PlanRow}
use Rattle.ms_record.specs.declared.setting.Setting.{Setting}
use Rattle.ms_record.specs.Chains.{GoesOn, LinksBehind, last_name, plan_after, plan_in, voters_behind, voters_of}
use Rattle.ms_record.specs.Entries.{name_of}
use Rattle.ms_record.specs.Plans.{PlanView, no_plan}
use Rattle.ms_record.specs.Settings.{IsFirstPlan, IsSetting, genesis_plan, origin_of}
use Rattle.ms_record.specs.Votes.{services_below}
use Rattle.ms_chain.specs.LineInside.{IsLined, IsPlaceAfter}
use Rattle.ms_chain.proofs.Places.{length_more, place_left, place_last, place_more, place_take, some_same, take_all, take_left}

pub last_of_more : (name : List ℕ) (xs : List Entry) (e : Entry) → last_name name (xs ++ e ∷ []) ≡ name_of e
last_of_more name [] e = refl
last_of_more name (x ∷ xs) e = last_of_more (name_of x) xs e

pub plan_of_more : (plan : PlanView) (xs : List Entry) (e : Entry) → plan_in plan (xs ++ e ∷ []) ≡ plan_after (plan_in plan xs) e.plan
plan_of_more plan [] e = refl
plan_of_more plan (x ∷ xs) e = plan_of_more (plan_after plan x.plan) xs e

-- ---- who votes

-- the plan names services below this number alone
abbrev pub AreBelow : ℕ → PlanView → Type 0
AreBelow n plan = (s : ℕ) → Contains (voters_of plan) s → s < n

rows_below : (n : ℕ) (plan : PlanView) → ((i : ℕ) (row : PlanRow) → slice_get plan.rows i ≡ Some row → row.service.0 < n) → AreBelow n plan
rows_below n plan known s c =
    let got : slice_get (voters_of plan) c.0 ≡ Some s = slice_get-get_or (voters_of plan) c.0 s c.1 ∙ ap (λ (v : ℕ). Some v) c.2 in
    at (slice_get plan.rows c.0) refl (sym (slice_get-map (λ (row : PlanRow). row.service.0) plan.rows c.0) ∙ got)
  where
    at : (o : Option PlanRow) → slice_get plan.rows c.0 ≡ o → option_map (λ (row : PlanRow). row.service.0) (slice_get plan.rows c.0) ≡ Some s → s < n
    at None is e = absurd (let q = sym (ap (option_map (λ (row : PlanRow). row.service.0)) is) ∙ e in cc q)
    at (Some row) is e =
        let same : row.service.0 ≡ s = some_same row.service.0 s (sym (ap (option_map (λ (r : PlanRow). r.service.0)) is) ∙ e) in
        subst (λ (v : ℕ). v < n) same (known c.0 row is)

goes_on_below : (generation format n : ℕ) (o : Option PlanView) → IfSome o (GoesOn generation format n) → IfSome o (AreBelow n)
goes_on_below generation format n None h = h
goes_on_below generation format n (Some plan) h = rows_below n plan h.known

first_below : (n : ℕ) (plan : PlanView) → IsFirstPlan n plan → AreBelow n plan
first_below n plan first s c =
    let b : Contains (services_below n) s = subst (λ (v : List ℕ). Contains v s) first.rows c in
    let l : b.0 < n = omega (arith, length-range_with_len 0 n, b.1) in
    let e = get_or-range_with_len 0 n b.0 s l in
    let f = b.2 in
    omega (arith, e, f)

after_below : (n : ℕ) (plan : PlanView) (o : Option PlanView) → AreBelow n plan → IfSome o (AreBelow n) → AreBelow n (plan_after plan o)
after_below n plan None h g = h
after_below n plan (Some other) h g = g

in_below : (n : ℕ) (plan : PlanView) (xs : List Entry) → AreBelow n plan → ((i : ℕ) (e : Entry) → slice_get xs i ≡ Some e → IfSome e.plan (AreBelow n)) → AreBelow n (plan_in plan xs)
in_below n plan [] h all = h
in_below n plan (x ∷ xs) h all = in_below n (plan_after plan x.plan) xs (after_below n plan x.plan h (all zero x refl)) (λ i e at. all (suc i) e at)

pub genesis_below : (setting : Setting) → IsSetting setting → AreBelow setting.services (genesis_plan setting)
genesis_below setting h = subst (λ (o : Option PlanView). AreBelow setting.services (plan_after no_plan o)) (sym h.plan_is) (first_below setting.services h.plan h.first)

pub voters_below : (setting : Setting) (xs : List Entry) (n : ℕ) → IsSetting setting → ((i : ℕ) (e : Entry) → slice_get xs i ≡ Some e → LinksBehind (origin_of setting) (take i xs) e)
    → (s : ℕ) → Contains (voters_behind (origin_of setting) (take n xs)) s → s < setting.services
voters_below setting xs n h links =
    in_below setting.services (genesis_plan setting) (take n xs) (genesis_below setting h)
    (λ i e at. let t = place_take n xs i e at in
    let on = links i e t.1 in
    goes_on_below (plan_in (genesis_plan setting) (take i xs)).generation (plan_in (genesis_plan setting) (take i xs)).format setting.services e.plan on.plan)

pub plan_below : (setting : Setting) (xs : List Entry) (n : ℕ) (plan : PlanView) → IsSetting setting → ((i : ℕ) (e : Entry) → slice_get xs i ≡ Some e → LinksBehind (origin_of setting) (take i xs) e)
    → plan ≡ plan_in (genesis_plan setting) (take n xs) → AreBelow setting.services plan
plan_below setting xs n plan h links is = subst (AreBelow setting.services) (sym is) (voters_below setting xs n h links)

-- ---- a line that goes on

-- with the plan in force behind one member more: it stands at its place, beside the earlier ones
record HasPlan (plans more : List PlanView) (place : ℕ) (plan : PlanView) : Type 0 where
  pub at : slice_get more place ≡ Some plan
  pub keeps : (p : ℕ) (x : PlanView) → slice_get plans p ≡ Some x → slice_get more p ≡ Some x
  pub adds : (p : ℕ) (x : PlanView) → slice_get more p ≡ Some x → (slice_get plans p ≡ Some x) ⊎ (x ≡ plan)
  pub few : length more ≤ length plans + 1

more_lined : (setting : Setting) (members : List Entry) (last name : Name) (plans more : List PlanView) (in_force : List ℕ) (e : Entry) (place : ℕ)
    → IsLined setting members last plans in_force → length members < LAST_NUMBER → LinksBehind (origin_of setting) members e → name.0 ≡ name_of e
    → HasPlan plans more place (plan_in (genesis_plan setting) (members ++ e ∷ [])) → IsLined setting (members ++ e ∷ []) name more (in_force ++ place ∷ [])
more_lined setting members last name plans more in_force e place h room on named has =
    let g = genesis_plan setting in
    let one = length_more members e in
    let two = length_more in_force place in
    record {
      few = omega (arith, one);
      named = named ∙ sym (last_of_more (name_of setting.genesis) members e);
      links = λ i f got.
          elim (place_more members e i f got) [
            | inl l ↦ subst (λ (xs : List Entry). LinksBehind (origin_of setting) xs f) (sym (take_left i members (e ∷ []) (let lt = l.0 in omega arith))) (h.links i f l.1)
            | inr r ↦
                let front : take i (members ++ e ∷ []) ≡ members = ap (λ (n : ℕ). take n (members ++ e ∷ [])) r.0 ∙ take_left (length members) members (e ∷ []) (omega arith) ∙ take_all members in
                subst (λ (xs : List Entry). LinksBehind (origin_of setting) xs f) (sym front) (subst (λ (x : Entry). LinksBehind (origin_of setting) members x) r.1 on)
          ];
      counts = let counts = h.counts in omega (arith, one, two);
      few_plans = let few = h.few_plans in let most = has.few in omega (arith, two);
      places = λ n p got.
          elim (place_more in_force place n p got) [
            | inl l ↦ has.keeps p (plan_in g (take n (members ++ e ∷ [])))
                (subst (λ (xs : List Entry). slice_get plans p ≡ Some (plan_in g xs)) (sym (take_left n members (e ∷ []) (let lt = l.0 in let counts = h.counts in omega arith))) (h.places n p l.1))
            | inr r ↦
                let all : take n (members ++ e ∷ []) ≡ members ++ e ∷ [] = ap (λ (m : ℕ). take m (members ++ e ∷ [])) (r.0 ∙ h.counts ∙ sym one) ∙ take_all (members ++ e ∷ []) in
                subst (λ (q : ℕ). slice_get more q ≡ Some (plan_in g (take n (members ++ e ∷ [])))) r.1
                (subst (λ (xs : List Entry). slice_get more place ≡ Some (plan_in g xs)) (sym all) has.at)
          ];
      were = λ p plan got.
          elim (has.adds p plan got) [
            | inl old ↦
                let w = h.were p plan old in
                (w.0, (let l = w.1 in omega (arith, one)), w.2 ∙ ap (plan_in g) (sym (take_left w.0 members (e ∷ []) w.1)))
            | inr same ↦ (length members + 1, omega (arith, one), same ∙ ap (plan_in g) (sym (ap (λ (m : ℕ). take m (members ++ e ∷ [])) (sym one) ∙ take_all (members ++ e ∷ []))))
          ];
    }

pub lined_on : (setting : Setting) (members : List Entry) (last name : Name) (plans : List PlanView) (in_force : List ℕ) (e : Entry) (place : ℕ) → IsLined setting members last plans in_force
    → length members < LAST_NUMBER → LinksBehind (origin_of setting) members e → name.0 ≡ name_of e → e.plan ≡ None → slice_get in_force (length members) ≡ Some place
    → IsLined setting (members ++ e ∷ []) name plans (in_force ++ place ∷ [])
lined_on setting members last name plans in_force e place h room on named none at =
    let g = genesis_plan setting in
    let same : plan_in g (members ++ e ∷ []) ≡ plan_in g (take (length members) members) = plan_of_more g members e ∙ ap (plan_after (plan_in g members)) none ∙ ap (plan_in g) (sym (take_all members)) in
    more_lined setting members last name plans plans in_force e place h room on named (record {
      at = subst (λ (p : PlanView). slice_get plans place ≡ Some p) (sym same) (h.places (length members) place at);
      keeps = λ p x got. got;
      adds = λ p x got. inl got;
      few = omega arith;
    })

pub lined_with : (setting : Setting) (members : List Entry) (last name : Name) (plans : List PlanView) (in_force : List ℕ) (e : Entry) (plan : PlanView) (place : ℕ) → IsLined setting members last plans in_force
    → length members < LAST_NUMBER → LinksBehind (origin_of setting) members e → name.0 ≡ name_of e → e.plan ≡ Some plan → place ≡ length plans
    → IsLined setting (members ++ e ∷ []) name (plans ++ plan ∷ []) (in_force ++ place ∷ [])
lined_with setting members last name plans in_force e plan place h room on named some at =
    let g = genesis_plan setting in
    let same : plan_in g (members ++ e ∷ []) ≡ plan = plan_of_more g members e ∙ ap (plan_after (plan_in g members)) some in
    more_lined setting members last name plans (plans ++ plan ∷ []) in_force e place h room on named (record {
      at = ap (slice_get (plans ++ plan ∷ [])) at ∙ place_last plans plan ∙ ap (λ (p : PlanView). Some p) (sym same);
      keeps = λ p x got. place_left plans (plan ∷ []) p (slice_get_within plans p x got) ∙ got;
      adds = λ p x got. elim (place_more plans plan p x got) [ inl l ↦ inl l.1 | inr r ↦ inr (sym r.1 ∙ sym same) ];
      few = let one = length_more plans plan in omega (arith, one);
    })

pub lined_after : (setting : Setting) (members : List Entry) (last name : Name) (plans more : List PlanView) (in_force : List ℕ) (e : Entry) (before place : ℕ) (o : Option PlanView)
    → IsLined setting members last plans in_force → length members < LAST_NUMBER → LinksBehind (origin_of setting) members e → name.0 ≡ name_of e → e.plan ≡ o
    → slice_get in_force (length members) ≡ Some before → IsPlaceAfter plans before o more place → IsLined setting (members ++ e ∷ []) name more (in_force ++ place ∷ [])
lined_after setting members last name plans more in_force e before place None h room on named none at is =
    subst (λ (ps : List PlanView). IsLined setting (members ++ e ∷ []) name ps (in_force ++ place ∷ [])) (sym is.0)
    (lined_on setting members last name plans in_force e place h room on named none (at ∙ ap (λ (p : ℕ). Some p) (sym is.1)))
lined_after setting members last name plans more in_force e before place (Some plan) h room on named some at is =
    subst (λ (ps : List PlanView). IsLined setting (members ++ e ∷ []) name ps (in_force ++ place ∷ [])) (sym is.0)
    (lined_with setting members last name plans in_force e plan place h room on named some is.1)

-- the genesis alone
pub lined_first : (setting : Setting) (last : Name) (plan : PlanView) → IsSetting setting → setting.genesis.plan ≡ Some plan → last.0 ≡ name_of setting.genesis → IsLined setting [] last (plan ∷ []) (0 ∷ [])
lined_first setting last plan h some named =
    let first : plan ≡ genesis_plan setting = sym (ap (plan_after no_plan) some) in
    record {
      few = omega arith;
      named = named;
      links = λ i e got. absurd cc;
      counts = refl;
      few_plans = omega arith;
      places = at first;
      were = was first;
    }
  where
    at : plan ≡ genesis_plan setting → (n place : ℕ) → slice_get (0 ∷ []) n ≡ Some place → slice_get (plan ∷ []) place ≡ Some (plan_in (genesis_plan setting) (take n []))
    at first zero place got = ap (slice_get (plan ∷ [])) (sym (some_same 0 place got)) ∙ ap (λ (p : PlanView). Some p) first
    at first (suc n) place got = absurd cc

    was : plan ≡ genesis_plan setting → (place : ℕ) (p : PlanView) → slice_get (plan ∷ []) place ≡ Some p → (n : ℕ) × (n ≤ 0) × (p ≡ plan_in (genesis_plan setting) (take n []))
    was first zero p got = (0, omega arith, sym (some_same plan p got) ∙ first)
    was first (suc place) p got = absurd cc
