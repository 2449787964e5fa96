use Rattle.std.proofs.lemmas.Result.{err_from_is_err_and}
use Rattle.ms_top.proofs.Running.{carries, stops}
use Rattle.ms_top.proofs.drills.run_events.Goals as goal

pub returns-in_err-step : goal.returns-in_err-step
returns-in_err-step c =
    let p = err_from_is_err_and c.from_residual-in_err-step.result c.from_residual-in_err-step.ensures.1 in
    rw (p.1, p.2)
    (stops c.args.drill.now c.as_slice-event-items.result.now c.loop-event.event-index c.event-item.result c.loop-event.world _ _ c.in_err-step.field-0.0 c.requires c.as_slice-event-items.ensures c.loop-event-test.true c.event-item.is
    c.loop-event.invariant c.step.ensures c.in_err-step.was)

pub loop-event-preserved : goal.loop-event-preserved
loop-event-preserved c =
    carries c.args.drill.now.setting c.as_slice-event-items.result.now c.loop-event.event-index c.event-item.result c.loop-event.world _ _ c.in_ok-step.field-0 c.loop-event-test.true c.event-item.is
    c.loop-event.invariant c.step.ensures c.in_ok-step.was
