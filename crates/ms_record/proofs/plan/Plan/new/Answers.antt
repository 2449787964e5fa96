use Rattle.std.proofs.Common.{sym, refl}
use Rattle.std.proofs.lemmas.List.{length-take-le}
use Rattle.ms_record.specs.Plans.{plan_of}
use Rattle.ms_record.proofs.Filling.{filled_shows, filled_keeps}
use Rattle.ms_record.proofs.PlanRules.{plan_keeps}
use Rattle.ms_record.proofs.plan.Plan.new.Goals as goal

pub returns-then-not-keeps_rules-clause-only : goal.returns-then-not-keeps_rules-clause-only
returns-then-not-keeps_rules-clause-only c = λ h. let e = plan_keeps _ h in cc

pub slice_bounds-all-end : goal.slice_bounds-all-end
slice_bounds-all-end c = c.if-not-keeps_rules.ensures.rules.few_rows

pub slice_bounds-copy_from_slice-end : goal.slice_bounds-copy_from_slice-end
slice_bounds-copy_from_slice-end c = sym (length-take-le _ _ c.if-not-keeps_rules.ensures.rules.few_rows)

pub copy_from_slice-requires : goal.copy_from_slice-requires
copy_from_slice-requires c = length-take-le _ _ c.if-not-keeps_rules.ensures.rules.few_rows

pub invariant_of-result : goal.invariant_of-result
invariant_of-result c = rw c.copy_from_slice.ensures.after (filled_keeps _ c.if-not-keeps_rules.ensures.rules)

pub returns-clause-found : goal.returns-clause-found
returns-clause-found c =
    let p = plan_of c.args.generation c.args.format c.args.replicas c.args.unit c.args.rows.now in
    rw (c.copy_from_slice.ensures.after, filled_shows p) (refl, c.if-not-keeps_rules.ensures.rules)
