use Rattle.std.proofs.Common.{◌≡◌, ℕ, ◌<◌, ◌≤◌, List, Some, inl, inr, refl, ap, ◌∙◌, sym, subst, length, slice_get, slice_index_or, take, arith}
use Rattle.std.proofs.lemmas.Bool.{cases_lt}
use Rattle.std.proofs.lemmas.Option.{slice_get-get_or, slice_get_read, slice_get_within}
use Rattle.ms_local.specs.Learning.{HasHalf}
use Rattle.ms_record.specs.Chains.{plan_in, voters_behind, voters_of}
use Rattle.ms_record.specs.Plans.{PlanView}
use Rattle.ms_record.specs.Settings.{genesis_plan, origin_of}
use Rattle.ms_chain.specs.Lines.{LineView}
use Rattle.ms_chain.proofs.Places.{some_same}
use Rattle.ms_chain.proofs.line.Line.lacks.Goals as goal

pub returns-then-has_half-clause-yes : goal.returns-then-has_half-clause-yes
returns-then-has_half-clause-yes c = λ yes.
    let l = c.self.inside in
    let failed = c.args.failed.now in
    let plan = c.plan-item.result in
    let items : c.as_slice-plan-items.result.now ≡ l.plans.items = c.as_slice-plan-items.ensures.value in
    let got : slice_get c.as_slice-plan-items.result.now c.loop-plan.plan-index ≡ Some plan =
    slice_get_read c.as_slice-plan-items.result.now (length c.as_slice-plan-items.result.now) c.loop-plan.plan-index plan refl c.loop-plan-test.true c.plan-item.is in
    let was = c.self.invariant.lined.were c.loop-plan.plan-index plan (ap (λ (ps : List PlanView). slice_get ps c.loop-plan.plan-index) (sym items) ∙ got) in
    let half : HasHalf failed (voters_of plan) = subst (HasHalf failed) c.of_plan.ensures.are (c.has_half.ensures.0 c.if-has_half.true) in
    let there : HasHalf failed (voters_behind (origin_of l.setting) (take was.0 l.members.items)) = subst (λ (p : PlanView). HasHalf failed (voters_of p)) was.2 half in
    subst (λ (v : LineView). (n : ℕ) × (n ≤ length v.members) × HasHalf failed (voters_behind (origin_of v.setting) (take n v.members))) c.self.view_is (was.0, was.1, there)

pub loop-plan-preserved : goal.loop-plan-preserved
loop-plan-preserved c = λ k plan lt at half.
    elim (cases_lt k c.loop-plan.plan-index) [
      | inl less ↦ c.loop-plan.invariant k plan less at half
      | inr not ↦
          let here : k ≡ c.loop-plan.plan-index = omega arith in
          let got : slice_get c.as_slice-plan-items.result.now c.loop-plan.plan-index ≡ Some c.plan-item.result =
          slice_get_read c.as_slice-plan-items.result.now (length c.as_slice-plan-items.result.now) c.loop-plan.plan-index c.plan-item.result refl c.loop-plan-test.true c.plan-item.is in
          let same : plan ≡ c.plan-item.result = some_same _ _ (sym at ∙ ap (slice_get c.as_slice-plan-items.result.now) here ∙ got) in
          let voters : voters_of plan ≡ c.of_plan.result = ap voters_of same ∙ sym c.of_plan.ensures.are in
          let yes = c.has_half.ensures.1 (subst (HasHalf c.args.failed.now) voters half) in
          cc (c.if-has_half.false, yes)
    ]

pub returns-clause-no : goal.returns-clause-no
returns-clause-no c = λ n le half.
    let l = c.self.inside in
    let lined = c.self.invariant.lined in
    let failed = c.args.failed.now in
    let many : n ≤ length l.members.items = subst (λ (v : LineView). n ≤ length v.members) (sym c.self.view_is) le in
    let there : HasHalf failed (voters_behind (origin_of l.setting) (take n l.members.items)) = subst (λ (v : LineView). HasHalf failed (voters_behind (origin_of v.setting) (take n v.members))) (sym c.self.view_is) half in
    let plan = plan_in (genesis_plan l.setting) (take n l.members.items) in
    let lt : n < length l.in_force.items = (let counts = lined.counts in omega arith) in
    let place = slice_index_or l.in_force.items n 0 in
    let at = lined.places n place (slice_get-get_or l.in_force.items n 0 lt) in
    let items : c.as_slice-plan-items.result.now ≡ l.plans.items = c.as_slice-plan-items.ensures.value in
    let got : slice_get c.as_slice-plan-items.result.now place ≡ Some plan = ap (λ (ps : List PlanView). slice_get ps place) items ∙ at in
    let within = slice_get_within c.as_slice-plan-items.result.now place plan got in
    absurd (c.loop-plan.invariant place plan (let test = c.loop-plan-test.false in omega arith) got there)
