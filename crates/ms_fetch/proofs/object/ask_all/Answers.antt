use Rattle.std.proofs.Common.{◌≡◌, Ok, Err, sym, subst, length, slice_index_or, rules, arith}
use Rattle.ms_record.specs.declared.refusal.Refusal.TheVariants.{NoMemory}
use Rattle.ms_local.specs.Desks.{desk_view}
use Rattle.ms_fetch.specs.Fetching.{AsksOne, Fetches}
use Rattle.ms_fetch.proofs.Ending.{asked_none, ends_cut, ends_found, ends_full, ends_none, goes_on, next_service, within}
use Rattle.ms_fetch.proofs.object.ask_all.Goals as goal

pub loop-service-init : goal.loop-service-init
loop-service-init g c =
    let old = desk_view g.W.Work.sees g.K.Keeper.sees g.L.Link.sees c.args.desk.now in
    asked_none c.args.generation c.args.order.now c.args.name.now old c.new-asked.result c.new-asked.ensures (c.desks_lay.ensures.nothing old c.requires.desk)

pub ask_one-requires-clause-service : goal.ask_one-requires-clause-service
ask_one-requires-clause-service g c =
    let sees = desk_view g.W.Work.sees g.K.Keeper.sees g.L.Link.sees in
    let order = c.args.order.now in
    let i = c.loop-service.service-index in
    within c.args.generation order c.args.name.now (sees c.args.desk.now) (sees c.loop-service.desk) i c.loop-service.asked c.loop-service.invariant c.requires.known
    (slice_index_or order i (record { 0 = 0 })) (next_service order i (record { 0 = 0 }) c.loop-service-test.true)

pub returns-in_err-answer : goal.returns-in_err-answer
returns-in_err-answer g c =
    let sees = desk_view g.W.Work.sees g.K.Keeper.sees g.L.Link.sees in
    let old = sees c.args.desk.now in
    let new = sees c.ask_one.new.desk in
    let is : c.from_residual.result ≡ Err NoMemory = search rules in
    let was = c.in_err-answer.ensures in
    subst (Fetches c.args.generation c.args.order.now c.args.name.now old new) (sym is)
    (ends_cut c.args.generation c.args.order.now c.args.name.now old (sees c.loop-service.desk) c.loop-service.service-index c.loop-service.asked c.loop-service.invariant new
    c.desks_go_on.ensures.events c.desks_go_on.ensures.wider c.desks_go_on.ensures.nothing c.desks_go_on.ensures.tells c.desks_lay.ensures.on was)

pub returns-in-Ok : goal.returns-in-Ok
returns-in-Ok g c =
    let sees = desk_view g.W.Work.sees g.K.Keeper.sees g.L.Link.sees in
    let old = sees c.args.desk.now in
    let mid = sees c.loop-service.desk in
    let new = sees c.ask_one.new.desk in
    let order = c.args.order.now in
    let i = c.loop-service.service-index in
    let s = slice_index_or order i (record { 0 = 0 }) in
    let is : c.ask_one.result ≡ Ok (Ok c.in-Ok.text) = search rules in
    ends_found c.args.generation order c.args.name.now old mid i c.loop-service.asked c.loop-service.invariant new
    c.desks_go_on.ensures.events c.desks_go_on.ensures.wider c.desks_go_on.ensures.nothing c.desks_go_on.ensures.tells c.desks_lay.ensures.on
    s (next_service order i (record { 0 = 0 }) c.loop-service-test.true) c.in-Ok.text c.requires.differ (subst (AsksOne mid new c.args.generation c.args.name.now s) is c.ask_one.ensures)

pub returns-in_err-note-in-Err : goal.returns-in_err-note-in-Err
returns-in_err-note-in-Err g c =
    let sees = desk_view g.W.Work.sees g.K.Keeper.sees g.L.Link.sees in
    let old = sees c.args.desk.now in
    let mid = sees c.loop-service.desk in
    let new = sees c.ask_one.new.desk in
    let order = c.args.order.now in
    let i = c.loop-service.service-index in
    let s = slice_index_or order i (record { 0 = 0 }) in
    let is : c.ask_one.result ≡ Ok (Err c.in-Err.lack) = search rules in
    let none : c.from_residual-in_err-note-in-Err.result ≡ Err NoMemory = search rules in
    subst (Fetches c.args.generation order c.args.name.now old new) (sym none)
    (ends_full c.args.generation order c.args.name.now old mid i c.loop-service.asked c.loop-service.invariant new
    c.desks_go_on.ensures.events c.desks_go_on.ensures.wider c.desks_go_on.ensures.nothing c.desks_go_on.ensures.tells c.desks_lay.ensures.on
    s (next_service order i (record { 0 = 0 }) c.loop-service-test.true) c.in-Err.lack (subst (AsksOne mid new c.args.generation c.args.name.now s) is c.ask_one.ensures))

pub loop-service-preserved : goal.loop-service-preserved
loop-service-preserved g c =
    let sees = desk_view g.W.Work.sees g.K.Keeper.sees g.L.Link.sees in
    let old = sees c.args.desk.now in
    let mid = sees c.loop-service.desk in
    let new = sees c.ask_one.new.desk in
    let order = c.args.order.now in
    let i = c.loop-service.service-index in
    let s = slice_index_or order i (record { 0 = 0 }) in
    let is : c.ask_one.result ≡ Ok (Err c.in-Err.lack) = search rules in
    goes_on c.args.generation order c.args.name.now old mid i c.loop-service.asked c.loop-service.invariant new
    c.desks_go_on.ensures.events c.desks_go_on.ensures.wider c.desks_go_on.ensures.nothing c.desks_go_on.ensures.tells c.desks_lay.ensures.on
    s (next_service order i (record { 0 = 0 }) c.loop-service-test.true) c.in-Err.lack (subst (AsksOne mid new c.args.generation c.args.name.now s) is c.ask_one.ensures)
    c.note.new.self c.in_ok-note-in-Err.ensures

pub returns : goal.returns
returns g c =
    let sees = desk_view g.W.Work.sees g.K.Keeper.sees g.L.Link.sees in
    let all : c.loop-service.service-index ≡ length c.args.order.now = omega (arith, c.loop-service-test.false, c.loop-service.auto.service-index-end) in
    ends_none c.args.generation c.args.order.now c.args.name.now (sees c.args.desk.now) (sees c.loop-service.desk) c.loop-service.service-index c.loop-service.asked c.loop-service.invariant all c.refusal.result c.refusal.ensures
