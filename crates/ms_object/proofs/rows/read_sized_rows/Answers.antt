use Rattle.std.proofs.Common.{sym, arith}
use Rattle.ms_object.specs.Reading.{sized_row_at}
use Rattle.ms_object.proofs.Many.{many_on, many_stops, many_done, rows_missing, rows_read, rows_left}
use Rattle.ms_object.proofs.rows.read_sized_rows.Goals as goal

pub returns-in_default : goal.returns-in_default
returns-in_default c =
    rows_missing sized_row_at c.args.count c.args.text.now
    (many_stops sized_row_at c.loop.rows c.args.count c.loop.counter (c.loop.before.now, c.loop.rest.now) _ (omega arith) (sym c.in_default.ensures) c.loop.invariant)

pub loop-preserved : goal.loop-preserved
loop-preserved c =
    rw (c.in_ok-push.ensures.ok, c.in_ok-of.ensures)
    (many_on sized_row_at c.loop.rows c.args.count c.loop.counter (c.loop.before.now, c.loop.rest.now) (c.in-Some.row.label.now, c.in-Some.after.now)
    (record { kind = c.in-Some.row.kind; label = c.in-Some.row.label.now; size = c.in-Some.row.size; name = c.in-Some.row.name }) _ (omega arith) (sym c.in-Some.ensures) c.loop.invariant)

pub returns-in-empty : goal.returns-in-empty
returns-in-empty c =
    rows_read sized_row_at c.args.count c.args.text.now c.loop.rows c.loop.before.now c.loop.rest.now
    (many_done sized_row_at c.loop.rows c.args.count c.loop.counter (c.loop.before.now, c.loop.rest.now) _ (omega arith) c.loop.invariant) c.in-empty.len_below

pub returns-in_default-rest : goal.returns-in_default-rest
returns-in_default-rest c =
    rows_left sized_row_at c.args.count c.args.text.now c.loop.rows c.loop.before.now c.loop.rest.now
    (many_done sized_row_at c.loop.rows c.args.count c.loop.counter (c.loop.before.now, c.loop.rest.now) _ (omega arith) c.loop.invariant) c.in_default-rest.len_at_least
