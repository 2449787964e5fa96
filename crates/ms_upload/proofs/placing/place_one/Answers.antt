use Rattle.std.proofs.Common.{◌≡◌, ◌<◌, ℕ, Ok, Err, sym, ap, ◌∙◌, subst, length, slice_index_or, arith}
use Rattle.ms_local.specs.Desks.{desk_view}
use Rattle.ms_upload.specs.declared.placing.End.{End}
use Rattle.ms_upload.specs.declared.visit.Met.TheVariants.{Present}
use Rattle.ms_plan.specs.Mapping.{order_of}
use Rattle.ms_upload.specs.Jobs.{EndsBy, PlacesOne}
use Rattle.ms_local.specs.Laying.{Lays}
use Rattle.ms_upload.specs.Asking.{Visits}
use Rattle.ms_upload.specs.Visits.{met_deeds}
use Rattle.ms_upload.proofs.Following.{known_service, next_service, services_stay, visited_all, visited_cut, visited_done, visited_next, visited_none, visited_stale}
use Rattle.ms_upload.proofs.placing.place_one.Goals as goal

pub loop-service-init : goal.loop-service-init
loop-service-init g c =
    let old = desk_view g.W.Work.sees g.K.Keeper.sees g.L.Link.sees c.args.desk.now in
    visited_none c.args.plan.now c.args.name.now old c.new-tally.result (c.desks_lay.ensures.nothing old c.requires.desk) c.new-tally.ensures

pub returns-then-tally-replicas : goal.returns-then-tally-replicas
returns-then-tally-replicas g c =
    let sees = desk_view g.W.Work.sees g.K.Keeper.sees g.L.Link.sees in
    let old = sees c.args.desk.now in
    let mid = sees c.loop-service.desk in
    let plan = c.args.plan.now in
    let name = c.args.name.now in
    let place = c.loop-service.service-index in
    let tally = c.loop-service.tally in
    let h = c.loop-service.invariant in
    subst (λ (e : End). PlacesOne plan name old mid (Ok e)) (sym c.done.ensures) (visited_done plan name old mid place tally h (c.if-tally-replicas.true ∙ c.replicas-replicas.ensures))

pub visit-requires-clause-service : goal.visit-requires-clause-service
visit-requires-clause-service g c =
    let sees = desk_view g.W.Work.sees g.K.Keeper.sees g.L.Link.sees in
    let old = sees c.args.desk.now in
    let mid = sees c.loop-service.desk in
    let plan = c.args.plan.now in
    let name = c.args.name.now in
    let place = c.loop-service.service-index in
    let tally = c.loop-service.tally in
    let h = c.loop-service.invariant in
    let s = slice_index_or c.args.order.now place (record { 0 = 0 }) in
    subst (λ (n : ℕ). s.0 < n) (sym (services_stay old mid _ h.lays)) (known_service c.args.plan.now c.args.order.now place c.args.desk.now.services c.requires.services c.requires.known c.loop-service-test.true)

pub note-requires-clause-service : goal.note-requires-clause-service
note-requires-clause-service g c =
    let sees = desk_view g.W.Work.sees g.K.Keeper.sees g.L.Link.sees in
    let old = sees c.args.desk.now in
    let mid = sees c.loop-service.desk in
    let plan = c.args.plan.now in
    let name = c.args.name.now in
    let place = c.loop-service.service-index in
    let tally = c.loop-service.tally in
    let h = c.loop-service.invariant in
    let s = slice_index_or c.args.order.now place (record { 0 = 0 }) in
    omega (arith, known_service c.args.plan.now c.args.order.now place c.args.desk.now.services c.requires.services c.requires.known c.loop-service-test.true, c.requires.desk.few_services)

pub returns-in-Err : goal.returns-in-Err
returns-in-Err g c =
    let sees = desk_view g.W.Work.sees g.K.Keeper.sees g.L.Link.sees in
    let old = sees c.args.desk.now in
    let mid = sees c.loop-service.desk in
    let plan = c.args.plan.now in
    let name = c.args.name.now in
    let place = c.loop-service.service-index in
    let tally = c.loop-service.tally in
    let h = c.loop-service.invariant in
    let s = slice_index_or c.args.order.now place (record { 0 = 0 }) in
    visited_cut plan name old mid place tally h (sees c.visit.new.desk) s Present c.desks_lay.ensures.on
    (next_service plan name c.args.order.now place c.requires.order c.loop-service-test.true) (λ e. c.if-tally-replicas.false (e ∙ sym c.replicas-replicas.ensures)) c.in-Err.error
    (subst (λ (n : ℕ). Visits mid (sees c.visit.new.desk) s n name (Err c.in-Err.error)) c.generation.ensures c.in-Err.ensures)

pub returns-in-Some : goal.returns-in-Some
returns-in-Some g c =
    let sees = desk_view g.W.Work.sees g.K.Keeper.sees g.L.Link.sees in
    let old = sees c.args.desk.now in
    let mid = sees c.loop-service.desk in
    let plan = c.args.plan.now in
    let name = c.args.name.now in
    let place = c.loop-service.service-index in
    let tally = c.loop-service.tally in
    let h = c.loop-service.invariant in
    let s = slice_index_or c.args.order.now place (record { 0 = 0 }) in
    visited_stale plan name old mid place tally h (sees c.visit.new.desk) s c.in-Ok.met c.desks_lay.ensures.on
    (next_service plan name c.args.order.now place c.requires.order c.loop-service-test.true) (λ e. c.if-tally-replicas.false (e ∙ sym c.replicas-replicas.ensures)) c.in-Some.floor
    (subst (λ (n : ℕ). Lays mid (sees c.visit.new.desk) (met_deeds s n name c.in-Ok.met)) c.generation.ensures c.in-Ok.ensures)
    (sym c.floor_of.ensures ∙ c.in-Some.is)

pub loop-service-preserved : goal.loop-service-preserved
loop-service-preserved g c =
    let sees = desk_view g.W.Work.sees g.K.Keeper.sees g.L.Link.sees in
    let old = sees c.args.desk.now in
    let mid = sees c.loop-service.desk in
    let plan = c.args.plan.now in
    let name = c.args.name.now in
    let place = c.loop-service.service-index in
    let tally = c.loop-service.tally in
    let h = c.loop-service.invariant in
    let s = slice_index_or c.args.order.now place (record { 0 = 0 }) in
    visited_next plan name old mid place tally h (sees c.visit.new.desk) s c.in-Ok.met c.desks_lay.ensures.on
    (next_service plan name c.args.order.now place c.requires.order c.loop-service-test.true) (λ e. c.if-tally-replicas.false (e ∙ sym c.replicas-replicas.ensures)) c.note.new.self
    (subst (λ (n : ℕ). Lays mid (sees c.visit.new.desk) (met_deeds s n name c.in-Ok.met)) c.generation.ensures c.in-Ok.ensures)
    (sym c.floor_of.ensures ∙ c.in-None.is) (c.note.ensures h.visits h.counts)

pub returns : goal.returns
returns g c =
    let sees = desk_view g.W.Work.sees g.K.Keeper.sees g.L.Link.sees in
    let old = sees c.args.desk.now in
    let mid = sees c.loop-service.desk in
    let plan = c.args.plan.now in
    let name = c.args.name.now in
    let place = c.loop-service.service-index in
    let tally = c.loop-service.tally in
    let h = c.loop-service.invariant in
    let all : length (order_of plan name) ≡ place = omega (arith, c.loop-service-test.false, c.loop-service.auto.service-index-end, ap length c.requires.order) in
    visited_all plan name old mid place tally h all (sym (ap length c.requires.order) ∙ c.requires.all) c.end_of.result
    (subst (λ (n : ℕ). EndsBy tally n c.end_of.result) c.replicas-replicas.ensures c.end_of.ensures)
