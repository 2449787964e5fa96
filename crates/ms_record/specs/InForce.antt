-- The plan in force along a linked list: neither its generation nor its format falls.
use Rattle.std.proofs.Common.{◌≡◌, ℕ, zero, suc, ◌+◌, ◌≤◌, List, [], ◌∷◌, ◌++◌, Option, Some, None, inl, inr, refl, sym, ap, ◌∙◌, slice_get, length, take, IfSome, arith}
use Rattle.std.proofs.lemmas.List.{length-append, take_all, take_at}
use Rattle.ms_base.specs.Places.{some_or_past, take_next}
use Rattle.ms_record.specs.declared.entry.Entry.{Entry}
use Rattle.ms_record.specs.declared.record.Record.{Record}
use Rattle.ms_record.specs.declared.setting.Setting.{Setting}
use Rattle.ms_record.specs.Chains.{Origin, GoesOn, IsLinked, Begins, generation_in, plan_after, plan_in}
use Rattle.ms_record.specs.Plans.{PlanView, no_plan}
use Rattle.ms_record.specs.Settings.{IsSetting, genesis_plan}

-- the first plan has generation 1
pub first_generation : (setting : Setting) → IsSetting setting → (genesis_plan setting).generation ≡ 1
first_generation setting set = ap (λ (o : Option PlanView). (plan_after no_plan o).generation) set.plan_is ∙ set.first.generation

pub plan_push : (plan : PlanView) (c : List Entry) (e : Entry) → plan_in plan (c ++ e ∷ []) ≡ plan_after (plan_in plan c) e.plan
plan_push plan [] e = refl
plan_push plan (f ∷ fs) e = plan_push (plan_after plan f.plan) fs e

-- the plan in force at a member is the one behind the members before it and itself
pub plan_next : (plan : PlanView) (c : List Entry) (i : ℕ) (e : Entry) → slice_get c i ≡ Some e → plan_in plan (take (i + 1) c) ≡ plan_after (plan_in plan (take i c)) e.plan
plan_next plan c i e at = ap (plan_in plan) (take_next c i e at) ∙ plan_push plan (take i c) e

-- a number of a plan that none falls below which goes on from one that is in force
abbrev Keeps : (PlanView → ℕ) → Type 0
Keeps measure = (before : PlanView) (services : ℕ) (o : Option PlanView) → IfSome o (GoesOn before.generation before.format services) → measure before ≤ measure (plan_after before o)

module _ (measure : PlanView → ℕ) (keeps : Keeps measure) (votes : ℕ → List Record) (origin : Origin) (c : List Entry) (linked : IsLinked votes origin c) where
  rises_one : (i : ℕ) → measure (plan_in origin.plan (take i c)) ≤ measure (plan_in origin.plan (take (i + 1) c))
  rises_one i =
      elim (some_or_past c i) [
        | inl h ↦ omega (arith, keeps (plan_in origin.plan (take i c)) origin.services h.0.plan (linked.links i h.0 h.1).plan, ap measure (plan_next origin.plan c i h.0 h.1))
        | inr past ↦ (let e : take (i + 1) c ≡ take i c = take_all (i + 1) c (omega (arith, past)) ∙ sym (take_all i c past) in omega (arith, ap (λ (l : List Entry). measure (plan_in origin.plan l)) e))
      ]

  rises : (i n : ℕ) → measure (plan_in origin.plan (take i c)) ≤ measure (plan_in origin.plan (take (i + n) c))
  rises i zero = (let e : i + 0 ≡ i = omega arith in omega (arith, ap (λ (j : ℕ). measure (plan_in origin.plan (take j c))) e))
  rises i (suc n) =
      let e : i + suc n ≡ i + n + 1 = omega arith in
      omega (arith, rises i n, rises_one (i + n), ap (λ (j : ℕ). measure (plan_in origin.plan (take j c))) e)

generation_kept : Keeps (λ plan. plan.generation)
generation_kept before services None h = omega arith
generation_kept before services (Some plan) h = h.not_below

format_kept : Keeps (λ plan. plan.format)
format_kept before services None h = omega arith
format_kept before services (Some plan) h = h.format_stays

pub generations_rise : (votes : ℕ → List Record) (origin : Origin) (c : List Entry) → IsLinked votes origin c → (i n : ℕ)
    → generation_in origin.plan (take i c) ≤ generation_in origin.plan (take (i + n) c)
generations_rise votes origin c linked i n = rises (λ plan. plan.generation) generation_kept votes origin c linked i n

pub formats_rise : (votes : ℕ → List Record) (origin : Origin) (c : List Entry) → IsLinked votes origin c → (i n : ℕ)
    → (plan_in origin.plan (take i c)).format ≤ (plan_in origin.plan (take (i + n) c)).format
formats_rise votes origin c linked i n = rises (λ plan. plan.format) format_kept votes origin c linked i n

-- a list that begins a linked one has no greater generation
pub begins_lower : (votes : ℕ → List Record) (origin : Origin) (a c : List Entry) → IsLinked votes origin c → Begins a c → generation_in origin.plan a ≤ generation_in origin.plan c
begins_lower votes origin a c linked b =
    let front : take (length a) c ≡ a = ap (take (length a)) (sym b.1) ∙ take_at a b.0 (length a) refl in
    let whole : take (length a + length b.0) c ≡ c = take_all (length a + length b.0) c (omega (arith, length-append a b.0, ap (λ (l : List Entry). length l) b.1)) in
    omega (arith, generations_rise votes origin c linked (length a) (length b.0), ap (generation_in origin.plan) front, ap (generation_in origin.plan) whole)
