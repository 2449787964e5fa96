use Rattle.std.proofs.Common.{◌+◌, Bool, Ok, sym, ap, ◌∙◌, subst, arith}
use Rattle.ms_local.specs.Desks.{desk_view}
use Rattle.ms_chain.proofs.RefRounds.{WritesOn, writes_came, writes_failed, writes_halt, writes_start}
use Rattle.ms_chain.specs.Refs.{WritesOne}
use Rattle.ms_chain.proofs.refs.write_all.Goals as goal
use Rattle.ms_chain.proofs.refs.write_all.Goals.{else-not-written, then-not-written}

pub loop-service-init : goal.loop-service-init
loop-service-init g c =
    let first = desk_view g.W.Work.sees g.K.Keeper.sees g.L.Link.sees c.args.desk.now in
    subst (WritesOn first first c.args.mark.now 0) (sym c.none-failed.ensures) (writes_start first c.args.mark.now c.requires.desk (c.desks_stay.ensures.lanes_self first.lanes))

pub loop-service-preserved : goal.loop-service-preserved
loop-service-preserved g c =
    let sees = desk_view g.W.Work.sees g.K.Keeper.sees g.L.Link.sees in
    let first = sees c.args.desk.now in
    let now = sees c.loop-service.desk in
    let new = sees c.write_one.new.desk in
    let mark = c.args.mark.now in
    let n = c.loop-service.service in
    let failed = c.loop-service.failed in
    let w = c.write_one.ensures in
    elim c.if-not-written.branch [
      | then-not-written b ↦
          subst (WritesOn first new mark (n + 1)) (sym (b.failed-is ∙ b.add.ensures))
          (writes_failed first now new mark n failed c.views_grow.ensures.texts c.desks_stay.ensures.lanes_on c.loop-service.invariant w.desk w.effect w.told
          (subst (WritesOne now new mark n) (ap (λ (ok : Bool). Ok ok) b.if-not-written.true) c.in-Ok.ensures.writes))
      | else-not-written b ↦
          subst (WritesOn first new mark (n + 1)) (sym b.failed-is)
          (writes_came first now new mark n failed c.views_grow.ensures.texts c.desks_stay.ensures.lanes_on c.loop-service.invariant w.desk w.effect w.told
          (subst (WritesOne now new mark n) (ap (λ (ok : Bool). Ok ok) b.if-not-written.false) c.in-Ok.ensures.writes))
    ]

pub returns-in-Err-clause-writes : goal.returns-in-Err-clause-writes
returns-in-Err-clause-writes g c =
    let sees = desk_view g.W.Work.sees g.K.Keeper.sees g.L.Link.sees in
    let h = writes_halt (sees c.args.desk.now) (sees c.loop-service.desk) (sees c.write_one.new.desk) c.args.mark.now c.loop-service.service c.loop-service.failed c.views_grow.ensures.texts c.desks_stay.ensures.lanes_on
    c.loop-service.invariant c.write_one.ensures.desk c.write_one.ensures.effect c.write_one.ensures.told c.in-Err.ensures.writes in
    (c.loop-service.service, c.loop-service.failed, omega (arith, c.loop-service.auto.service-end), h.1)

pub returns-in-Err-clause-effect : goal.returns-in-Err-clause-effect
returns-in-Err-clause-effect g c =
    let sees = desk_view g.W.Work.sees g.K.Keeper.sees g.L.Link.sees in
    (writes_halt (sees c.args.desk.now) (sees c.loop-service.desk) (sees c.write_one.new.desk) c.args.mark.now c.loop-service.service c.loop-service.failed c.views_grow.ensures.texts c.desks_stay.ensures.lanes_on
    c.loop-service.invariant c.write_one.ensures.desk c.write_one.ensures.effect c.write_one.ensures.told c.in-Err.ensures.writes).0
