use Rattle.std.proofs.Common.{◌≡◌, refl, sym, ap, ◌∙◌, subst, arith}
use Rattle.std.specs.Vec.{with_item}
use Rattle.ms_ken.specs.Known.{TableId}
use Rattle.ms_link.specs.Links.{IsOnBoard}
use Rattle.ms_local.specs.Desks.{desk_view}
use Rattle.ms_record.specs.declared.log.LogEvent.TheVariants.{Put}
use Rattle.ms_local.proofs.FirstLane.{asks_at, desk_of, effect_of, may_be_added, on_its_board, puts_of, within}
use Rattle.ms_local.proofs.objects.put_object.Goals as goal

pub index_mut-link-requires : goal.index_mut-link-requires
index_mut-link-requires g c =
    let sees = g.L.Link.sees in
    let desk = desk_view g.W.Work.sees g.K.Keeper.sees sees c.args.desk.now in
    let lanes = c.args.desk.now.lanes.items in
    let lane = c.index_mut.result.now in
    let there = within sees desk lanes lane c.args.service.0 c.requires.desk refl c.index_mut.ensures.value c.requires.service in
    let ok = lane.links.ok.0 in
    omega arith

pub put-requires-clause-board : goal.put-requires-clause-board
put-requires-clause-board g c =
    let sees = g.L.Link.sees in
    let desk = desk_view g.W.Work.sees g.K.Keeper.sees sees c.args.desk.now in
    let lanes = c.args.desk.now.lanes.items in
    let lane = c.index_mut.result.now in
    subst (λ (b : TableId). IsOnBoard (sees c.index_mut-link.result.now) b desk.pass) (sym c.deref.ensures) (on_its_board sees desk lanes lane c.args.service.0 c.requires.desk refl c.index_mut.ensures.value c.requires.service c.index_mut-link.result.now c.index_mut-link.ensures.value)

pub put-requires-clause-closed : goal.put-requires-clause-closed
put-requires-clause-closed g c =
    let sees = g.L.Link.sees in
    let desk = desk_view g.W.Work.sees g.K.Keeper.sees sees c.args.desk.now in
    let lanes = c.args.desk.now.lanes.items in
    let lane = c.index_mut.result.now in
    let event = Put c.args.generation c.args.name.now c.args.text.now in
    let lt = c.requires.service in
    let few = c.requires.desk.few_services in
    let words : desk.pass.board.words ≡ 33 = ap (λ (t : TableId). t.words) c.requires.desk.board ∙ c.requires.desk.owners in
    let owners = c.recall.ensures.owners in
    may_be_added sees desk lanes lane c.args.service.0 c.requires.desk refl c.index_mut.ensures.value c.requires.service c.index_mut-link.result.now c.index_mut-link.ensures.value event owners
    (c.ask.ensures desk.pass.lists c.args.service.0 event (omega arith) (asks_at desk c.args.service.0 event c.requires.desk lt c.recall.ensures.closed (λ setting known. c.requires.named)))

pub returns-clause-puts : goal.returns-clause-puts
returns-clause-puts g c =
    let sees = g.L.Link.sees in
    let desk = desk_view g.W.Work.sees g.K.Keeper.sees sees c.args.desk.now in
    let lanes = c.args.desk.now.lanes.items in
    let lane = c.index_mut.result.now in
    puts_of sees desk lanes lane c.args.service.0 c.requires.desk refl c.index_mut.ensures.value c.requires.service c.index_mut-link.result.now c.index_mut-link.ensures.value c.put.new.pass c.put.new.self (record { links = with_item lane.links c.args.service.0 c.put.new.self }) refl c.args.generation (Put c.args.generation c.args.name.now c.args.text.now) c.put.result c.put.ensures.puts

pub returns-clause-effect : goal.returns-clause-effect
returns-clause-effect g c =
    let sees = g.L.Link.sees in
    let desk = desk_view g.W.Work.sees g.K.Keeper.sees sees c.args.desk.now in
    let lanes = c.args.desk.now.lanes.items in
    let lane = c.index_mut.result.now in
    effect_of sees desk lanes lane c.args.service.0 c.requires.desk refl c.index_mut.ensures.value c.requires.service c.index_mut-link.result.now c.index_mut-link.ensures.value c.put.new.pass c.put.new.self (record { links = with_item lane.links c.args.service.0 c.put.new.self }) refl c.put.ensures.pass c.put.ensures.link

pub returns-clause-desk : goal.returns-clause-desk
returns-clause-desk g c =
    let sees = g.L.Link.sees in
    let desk = desk_view g.W.Work.sees g.K.Keeper.sees sees c.args.desk.now in
    let lanes = c.args.desk.now.lanes.items in
    let lane = c.index_mut.result.now in
    desk_of sees desk lanes lane c.args.service.0 c.requires.desk refl c.index_mut.ensures.value c.requires.service c.index_mut-link.result.now c.index_mut-link.ensures.value c.put.new.pass c.put.new.self (record { links = with_item lane.links c.args.service.0 c.put.new.self }) refl c.put.ensures.pass c.put.ensures.link
