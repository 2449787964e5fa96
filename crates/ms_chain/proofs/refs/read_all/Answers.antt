use Rattle.std.proofs.Common.{ℕ, ◌+◌, List, [], ◌∷◌, ◌++◌, Option, None, Ok, sym, ◌∙◌, subst, arith}
use Rattle.ms_local.specs.Desks.{desk_view}
use Rattle.ms_chain.proofs.RefRounds.{LooksOn, looks_came, looks_failed, looks_halt, looks_start}
use Rattle.ms_record.specs.declared.services.ServiceSet.{ServiceSet}
use Rattle.ms_chain.specs.Refs.{LooksOne}
use Rattle.ms_chain.proofs.refs.read_all.Goals as goal
use Rattle.ms_chain.proofs.refs.read_all.Goals.{in-None, in-Some}

pub loop-service-init : goal.loop-service-init
loop-service-init g c =
    let first = desk_view g.W.Work.sees g.K.Keeper.sees g.L.Link.sees c.args.desk.now in
    subst (λ (failed : List ℕ). LooksOn first first c.args.client.0 0 failed None) (sym c.none-failed.ensures) (looks_start first c.args.client.0 c.requires.desk (c.desks_stay.ensures.lanes_self first.lanes))

pub loop-service-preserved : goal.loop-service-preserved
loop-service-preserved g c =
    let sees = desk_view g.W.Work.sees g.K.Keeper.sees g.L.Link.sees in
    let first = sees c.args.desk.now in
    let now = sees c.loop-service.desk in
    let new = sees c.look_one.new.desk in
    let client = c.args.client.0 in
    let n = c.loop-service.service in
    let failed = c.loop-service.failed in
    let best = c.loop-service.best in
    let w = c.look_one.ensures in
    elim c.match-came.branch [
      | in-Some b ↦
          subst (λ (f : ServiceSet). LooksOn first new client (n + 1) f c.match-came.best) (sym b.failed-is)
          (subst (LooksOn first new client (n + 1) failed) (sym b.best-is)
          (looks_came first now new client n failed best c.views_grow.ensures.texts c.desks_stay.ensures.lanes_on c.loop-service.invariant w.desk w.effect w.told b.in-Some.texts b.greatest_mark-best.result
          (subst (λ (o : Option (List (List ℕ))). LooksOne now new client n (Ok o)) b.in-Some.is c.in-Ok.ensures.looks) b.greatest_mark-best.ensures))
      | in-None b ↦
          subst (λ (f : ServiceSet). LooksOn first new client (n + 1) f c.match-came.best) (sym (b.failed-is ∙ b.add.ensures))
          (subst (LooksOn first new client (n + 1) (failed ++ n ∷ [])) (sym b.best-is)
          (looks_failed first now new client n failed best c.views_grow.ensures.texts c.desks_stay.ensures.lanes_on c.loop-service.invariant w.desk w.effect w.told
          (subst (λ (o : Option (List (List ℕ))). LooksOne now new client n (Ok o)) b.in-None.is c.in-Ok.ensures.looks)))
    ]

pub returns-in-Err-clause-looks : goal.returns-in-Err-clause-looks
returns-in-Err-clause-looks g c =
    let sees = desk_view g.W.Work.sees g.K.Keeper.sees g.L.Link.sees in
    let h = looks_halt (sees c.args.desk.now) (sees c.loop-service.desk) (sees c.look_one.new.desk) c.args.client.0 c.loop-service.service c.loop-service.failed c.loop-service.best c.views_grow.ensures.texts c.desks_stay.ensures.lanes_on
    c.loop-service.invariant c.look_one.ensures.desk c.look_one.ensures.effect c.look_one.ensures.told c.in-Err.ensures.looks in
    (c.loop-service.invariant.texts, c.loop-service.service, c.loop-service.failed, omega (arith, c.loop-service.auto.service-end), h.1)

pub returns-in-Err-clause-effect : goal.returns-in-Err-clause-effect
returns-in-Err-clause-effect g c =
    let sees = desk_view g.W.Work.sees g.K.Keeper.sees g.L.Link.sees in
    (looks_halt (sees c.args.desk.now) (sees c.loop-service.desk) (sees c.look_one.new.desk) c.args.client.0 c.loop-service.service c.loop-service.failed c.loop-service.best c.views_grow.ensures.texts c.desks_stay.ensures.lanes_on
    c.loop-service.invariant c.look_one.ensures.desk c.look_one.ensures.effect c.look_one.ensures.told c.in-Err.ensures.looks).0
