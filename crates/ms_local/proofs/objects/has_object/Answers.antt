use Rattle.std.proofs.Common.{refl, sym, subst, arith}
use Rattle.std.specs.Vec.{with_item}
use Rattle.ms_ken.specs.Known.{TableId}
use Rattle.ms_link.specs.Links.{IsOnBoard}
use Rattle.ms_local.specs.Desks.{desk_view}
use Rattle.ms_local.proofs.FirstLane.{desk_of, effect_of, has_of, on_its_board, within}
use Rattle.ms_local.proofs.objects.has_object.Goals as goal

pub index_mut-link-requires : goal.index_mut-link-requires
index_mut-link-requires g c =
    let sees = g.L.Link.sees in
    let desk = desk_view g.W.Work.sees g.K.Keeper.sees sees c.args.desk.now in
    let lanes = c.args.desk.now.lanes.items in
    let lane = c.index_mut.result.now in
    let there = within sees desk lanes lane c.args.service.0 c.requires.desk refl c.index_mut.ensures.value c.requires.service in
    let ok = lane.links.ok.0 in
    omega arith

pub has-requires : goal.has-requires
has-requires g c =
    let sees = g.L.Link.sees in
    let desk = desk_view g.W.Work.sees g.K.Keeper.sees sees c.args.desk.now in
    let lanes = c.args.desk.now.lanes.items in
    let lane = c.index_mut.result.now in
    record { board = subst (λ (b : TableId). IsOnBoard (sees c.index_mut-link.result.now) b desk.pass) (sym c.deref.ensures) (on_its_board sees desk lanes lane c.args.service.0 c.requires.desk refl c.index_mut.ensures.value c.requires.service c.index_mut-link.result.now c.index_mut-link.ensures.value) }

pub returns-clause-has : goal.returns-clause-has
returns-clause-has g c =
    let sees = g.L.Link.sees in
    let desk = desk_view g.W.Work.sees g.K.Keeper.sees sees c.args.desk.now in
    let lanes = c.args.desk.now.lanes.items in
    let lane = c.index_mut.result.now in
    has_of sees desk lanes lane c.args.service.0 c.requires.desk refl c.index_mut.ensures.value c.requires.service c.index_mut-link.result.now c.index_mut-link.ensures.value c.has.new.pass c.has.new.self (record { links = with_item lane.links c.args.service.0 c.has.new.self }) refl c.args.generation c.args.name.now c.has.result c.has.ensures.has

pub returns-clause-effect : goal.returns-clause-effect
returns-clause-effect g c =
    let sees = g.L.Link.sees in
    let desk = desk_view g.W.Work.sees g.K.Keeper.sees sees c.args.desk.now in
    let lanes = c.args.desk.now.lanes.items in
    let lane = c.index_mut.result.now in
    effect_of sees desk lanes lane c.args.service.0 c.requires.desk refl c.index_mut.ensures.value c.requires.service c.index_mut-link.result.now c.index_mut-link.ensures.value c.has.new.pass c.has.new.self (record { links = with_item lane.links c.args.service.0 c.has.new.self }) refl c.has.ensures.pass c.has.ensures.link

pub returns-clause-desk : goal.returns-clause-desk
returns-clause-desk g c =
    let sees = g.L.Link.sees in
    let desk = desk_view g.W.Work.sees g.K.Keeper.sees sees c.args.desk.now in
    let lanes = c.args.desk.now.lanes.items in
    let lane = c.index_mut.result.now in
    desk_of sees desk lanes lane c.args.service.0 c.requires.desk refl c.index_mut.ensures.value c.requires.service c.index_mut-link.result.now c.index_mut-link.ensures.value c.has.new.pass c.has.new.self (record { links = with_item lane.links c.args.service.0 c.has.new.self }) refl c.has.ensures.pass c.has.ensures.link
