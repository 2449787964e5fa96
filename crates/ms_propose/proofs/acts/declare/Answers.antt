use Rattle.ms_local.specs.Desks.{desk_view}
use Rattle.ms_propose.proofs.Acting.{closed_offer, desk_offered}
use Rattle.ms_propose.proofs.acts.declare.Goals as goal

pub tell-requires-clause-closed : goal.tell-requires-clause-closed
tell-requires-clause-closed g c =
    closed_offer (desk_view g.W.Work.sees g.K.Keeper.sees g.L.Link.sees c.args.desk.now) c.args.offer c.requires.desk c.requires.may c.recall.ensures.closed c.recall.ensures.owners c.declare.ensures

pub returns-clause-desk : goal.returns-clause-desk
returns-clause-desk g c =
    desk_offered (desk_view g.W.Work.sees g.K.Keeper.sees g.L.Link.sees c.args.desk.now) c.args.offer c.tell.new.pass c.push.new.self c.declared.result c.requires.desk c.requires.may c.desks_stay.ensures.offer c.desks_stay.ensures.deed
    c.tell.ensures.told c.in_ok-push.ensures.ok
