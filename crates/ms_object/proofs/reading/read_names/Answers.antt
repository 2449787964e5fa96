use Rattle.std.proofs.Common.{sym, arith}
use Rattle.ms_base.specs.Fields.{name_at}
use Rattle.ms_object.proofs.Many.{many_on, many_stops, many_done}
use Rattle.ms_object.proofs.reading.read_names.Goals as goal

pub returns-in_default : goal.returns-in_default
returns-in_default c = many_stops name_at c.loop.names c.args.count c.loop.counter c.loop.rest.now _ (omega arith) (sym c.in_default.ensures) c.loop.invariant

pub loop-preserved : goal.loop-preserved
loop-preserved c =
    rw c.in_ok-push.ensures.ok
    (many_on name_at c.loop.names c.args.count c.loop.counter c.loop.rest.now c.in-Some.after.now c.in-Some.name _ (omega arith) (sym c.in-Some.ensures) c.loop.invariant)

pub returns : goal.returns
returns c = many_done name_at c.loop.names c.args.count c.loop.counter c.loop.rest.now _ (omega arith) c.loop.invariant
