use Rattle.std.proofs.Common.{Result, Ok, Err, OnErr, sym, subst}
use Rattle.ms_world.specs.declared.event.Event.{Event}
use Rattle.ms_world.specs.Refusals.{MayLackMemory, Tries}
use Rattle.ms_world.proofs.world.carry_out.Goals as goal

pub bid-requires : goal.bid-requires
bid-requires c = c.states_hold.ensures.state _ _ c.requires.set c.requires.reached

pub turn-requires : goal.turn-requires
turn-requires c = c.states_hold.ensures.state _ _ c.requires.set c.requires.reached

pub migrate-requires : goal.migrate-requires
migrate-requires c = c.states_hold.ensures.state _ _ c.requires.set c.requires.reached

pub read-requires : goal.read-requires
read-requires c = c.states_hold.ensures.state _ _ c.requires.set c.requires.reached

pub offer-requires : goal.offer-requires
offer-requires c = c.states_hold.ensures.state _ _ c.requires.set c.requires.reached

pub learn-requires-clause-state : goal.learn-requires-clause-state
learn-requires-clause-state c = c.states_hold.ensures.state _ _ c.requires.set c.requires.reached

pub learn-requires-clause-one : goal.learn-requires-clause-one
learn-requires-clause-one c = c.states_hold.ensures.known_one _ _ c.requires.set c.requires.reached

pub place-requires : goal.place-requires
place-requires c = c.states_hold.ensures.state _ _ c.requires.set c.requires.reached

pub returns-in-Stop-clause-ok : goal.returns-in-Stop-clause-ok
returns-in-Stop-clause-ok c =
    subst (λ (e : Event). Tries c.args.setting.now c.args.state.now e c.stop.new.self c.stop.result) (sym c.in-Stop.is) (c.stop.ensures c.args.setting.now)

on_err : {T E : Type 0} (r : Result T E) {P Q : Type 0} → (P → Q) → OnErr r P → OnErr r Q
on_err (Ok value) f h = h
on_err (Err error) f h = f h

pub returns-in-Deliver-clause-memory : goal.returns-in-Deliver-clause-memory
returns-in-Deliver-clause-memory c =
    let setting = c.args.setting.now in
    on_err c.deliver.result (λ lacks. subst (λ (e : Event). MayLackMemory setting c.args.state.now e) (sym c.in-Deliver.is) (lacks setting)) c.deliver.ensures.memory
