use Rattle.ms_world.proofs.Members.{plan_next}
use Rattle.ms_world.proofs.behind.plan_behind.Goals as goal

pub loop-entry-preserved : goal.loop-entry-preserved
loop-entry-preserved c =
    plan_next c.args.first c.loop-entry.plan c.plan_with-plan.result c.args.members.now c.loop-entry.entry-index c.entry-item.result c.loop-entry-test.true c.entry-item.is c.loop-entry.invariant c.plan_with-plan.ensures
