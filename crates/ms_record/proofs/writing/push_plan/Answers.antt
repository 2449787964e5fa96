use Rattle.std.proofs.lemmas.Result.{on_ok_weaker}
use Rattle.ms_record.proofs.Feeding.{plan_joined_of}
use Rattle.ms_record.proofs.writing.push_plan.Goals as goal

pub returns : goal.returns
returns c = on_ok_weaker c.push_rows.result (λ last. plan_joined_of c.args.out.now.items c.args.plan.now
    c.generation.result c.format.result c.replicas.result c.unit.result c.rows-rows.result.now _ _ _ _ _ _
    c.generation.ensures c.format.ensures c.replicas.ensures c.unit.ensures c.rows-rows.ensures.rows
    c.in_ok-push_u32.ensures.ok c.in_ok-push_u32-2.ensures.ok c.in_ok-push_u32-3.ensures.ok c.in_ok-push_u64.ensures.ok c.in_ok-push_u32-4.ensures.ok last) c.push_rows.ensures
