use Rattle.std.proofs.Common.{subst}
use Rattle.sha2.specs.Hashers.{Holds256}
use Rattle.ms_record.proofs.Feeding.{plan_parts}
use Rattle.ms_record.proofs.entry.feed_plan.Goals as goal

pub returns : goal.returns
returns c = λ m h.
    let fed = c.feed_rows.ensures _ (c.feed_u32-4.ensures _ (c.feed_u64.ensures _ (c.feed_u32-3.ensures _ (c.feed_u32-2.ensures _ (c.feed_u32.ensures m h))))) in
    subst (Holds256 c.feed_rows.new.hasher) (plan_parts m c.args.plan.now)
    (rw (c.generation.ensures, c.format.ensures, c.replicas.ensures, c.unit.ensures, c.rows-rows.ensures.rows) at fed)
