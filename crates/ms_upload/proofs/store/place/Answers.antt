use Rattle.ms_local.specs.Desks.{desk_view}
use Rattle.ms_upload.proofs.Enough.{all_enough, all_placed}
use Rattle.ms_upload.proofs.Ruling.{rule_kept}
use Rattle.ms_upload.proofs.store.place.Goals as goal

pub returns-clause-enough : goal.returns-clause-enough
returns-clause-enough g c =
    let sees = desk_view g.W.Work.sees g.K.Keeper.sees g.L.Link.sees in
    let plan = c.args.plan.now in
    all_enough plan c.args.objects.now (sees c.args.desk.now) (sees c.place_all.new.desk) c.place_all.result (λ name. c.orders_are_sorted.ensures.all plan name c.rows-rows.ensures.rules) c.place_all.ensures

pub returns-clause-placed : goal.returns-clause-placed
returns-clause-placed g c = λ version holds.
    let sees = desk_view g.W.Work.sees g.K.Keeper.sees g.L.Link.sees in
    let plan = c.args.plan.now in
    let old = sees c.args.desk.now in
    let new = sees c.place_all.new.desk in
    all_placed plan c.args.objects.now old new version c.place_all.result c.shows.ensures.there holds
    (all_enough plan c.args.objects.now old new c.place_all.result (λ name. c.orders_are_sorted.ensures.all plan name c.rows-rows.ensures.rules) c.place_all.ensures)

pub returns-clause-placing_rule : goal.returns-clause-placing_rule
returns-clause-placing_rule g c = λ s rest fresh under.
    let sees = desk_view g.W.Work.sees g.K.Keeper.sees g.L.Link.sees in
    let plan = c.args.plan.now in
    rule_kept plan c.args.objects.now (sees c.args.desk.now) (sees c.place_all.new.desk) c.rows-rows.ensures.rules (λ name. c.orders_are_sorted.ensures.all plan name c.rows-rows.ensures.rules) c.shows.ensures.rising
    s rest fresh under c.place_all.result c.place_all.ensures
