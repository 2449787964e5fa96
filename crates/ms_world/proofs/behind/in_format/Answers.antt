use Rattle.std.proofs.Common.{◌≡◌, sym, subst}
use Rattle.ms_world.proofs.Events.{format_keeps}
use Rattle.ms_world.specs.Steps.{in_format}
use Rattle.ms_record.specs.Plans.{IsPlan, plan_of}
use Rattle.ms_world.proofs.behind.in_format.Goals as goal

pub unreachable-requires : goal.unreachable-requires
unreachable-requires c =
    let plan = c.args.plan.now in
    let keeps : IsPlan (in_format c.args.format plan) = format_keeps plan c.args.format c.rows-rows.ensures.rules c.requires.some c.requires.last in
    let same : in_format c.args.format plan ≡ plan_of c.generation.result c.args.format c.replicas.result c.unit.result c.rows-rows.result.now =
    λ i. plan_of (sym c.generation.ensures i) c.args.format (sym c.replicas.ensures i) (sym c.unit.ensures i) (sym c.rows-rows.ensures.rows i) in
    let found = c.new.ensures.only (subst IsPlan same keeps) in
    let none = c.in-None.is in
    cc
