use Rattle.std.proofs.Common.{◌≡◌, ◌<◌, ◌≤◌, Some, refl, ◌∙◌, sym, subst, length, slice_get, take, arith}
use Rattle.std.proofs.lemmas.Option.{slice_get_read, slice_get_within}
use Rattle.ms_record.specs.Chains.{plan_in}
use Rattle.ms_record.specs.Settings.{genesis_plan}
use Rattle.ms_chain.specs.Lines.{LineView}
use Rattle.ms_chain.proofs.Lining.{AreBelow, plan_below}
use Rattle.ms_chain.proofs.Places.{some_same}
use Rattle.ms_chain.proofs.line.Line.plan_behind.Goals as goal

pub index-requires-2 : goal.index-requires-2
index-requires-2 c =
    let l = c.self.inside in
    let lined = c.self.invariant.lined in
    let many : c.args.members ≤ length l.members.items = subst (λ (v : LineView). c.args.members ≤ length v.members) (sym c.self.view_is) c.requires in
    let lt : c.args.members < length l.in_force.items = (let counts = lined.counts in omega arith) in
    let at : slice_get l.in_force.items c.args.members ≡ Some c.index.result.now = slice_get_read l.in_force.items (length l.in_force.items) c.args.members c.index.result.now refl lt c.index.ensures in
    let within : c.index.result.now < length l.plans.items = slice_get_within l.plans.items c.index.result.now _ (lined.places c.args.members c.index.result.now at) in
    let ok = l.plans.ok.0 in
    omega arith

pub returns-clause-is : goal.returns-clause-is
returns-clause-is c =
    let l = c.self.inside in
    let lined = c.self.invariant.lined in
    let many : c.args.members ≤ length l.members.items = subst (λ (v : LineView). c.args.members ≤ length v.members) (sym c.self.view_is) c.requires in
    let lt : c.args.members < length l.in_force.items = (let counts = lined.counts in omega arith) in
    let at : slice_get l.in_force.items c.args.members ≡ Some c.index.result.now = slice_get_read l.in_force.items (length l.in_force.items) c.args.members c.index.result.now refl lt c.index.ensures in
    let there : slice_get l.plans.items c.index.result.now ≡ Some (plan_in (genesis_plan l.setting) (take c.args.members l.members.items)) = lined.places c.args.members c.index.result.now at in
    let got : slice_get l.plans.items c.index.result.now ≡ Some c.index-2.result.now =
    slice_get_read l.plans.items (length l.plans.items) c.index.result.now c.index-2.result.now refl (slice_get_within l.plans.items c.index.result.now _ there) c.index-2.ensures in
    let is : c.index-2.result.now ≡ plan_in (genesis_plan l.setting) (take c.args.members l.members.items) = some_same _ _ (sym got ∙ there) in
    subst (λ (v : LineView). c.index-2.result.now ≡ plan_in (genesis_plan v.setting) (take c.args.members v.members)) c.self.view_is is

pub returns-clause-below : goal.returns-clause-below
returns-clause-below c =
    let l = c.self.inside in
    let lined = c.self.invariant.lined in
    let many : c.args.members ≤ length l.members.items = subst (λ (v : LineView). c.args.members ≤ length v.members) (sym c.self.view_is) c.requires in
    let lt : c.args.members < length l.in_force.items = (let counts = lined.counts in omega arith) in
    let at : slice_get l.in_force.items c.args.members ≡ Some c.index.result.now = slice_get_read l.in_force.items (length l.in_force.items) c.args.members c.index.result.now refl lt c.index.ensures in
    let there : slice_get l.plans.items c.index.result.now ≡ Some (plan_in (genesis_plan l.setting) (take c.args.members l.members.items)) = lined.places c.args.members c.index.result.now at in
    let got : slice_get l.plans.items c.index.result.now ≡ Some c.index-2.result.now =
    slice_get_read l.plans.items (length l.plans.items) c.index.result.now c.index-2.result.now refl (slice_get_within l.plans.items c.index.result.now _ there) c.index-2.ensures in
    let is : c.index-2.result.now ≡ plan_in (genesis_plan l.setting) (take c.args.members l.members.items) = some_same _ _ (sym got ∙ there) in
    subst (λ (v : LineView). AreBelow v.setting.services c.index-2.result.now) c.self.view_is (plan_below l.setting l.members.items c.args.members c.index-2.result.now c.self.invariant.setting lined.links is)
