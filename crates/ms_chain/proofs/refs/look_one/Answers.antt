use Rattle.std.proofs.Common.{◌+◌, refl}
use Rattle.ms_local.specs.Desks.{desk_view}
use Rattle.ms_record.specs.declared.log.ListId.{ListId}
use Rattle.ms_chain.proofs.RefRounds.{lists_learn, looked}
use Rattle.ms_chain.proofs.refs.look_one.Goals as goal

pub returns-clause-looks : goal.returns-clause-looks
returns-clause-looks g c =
    let sees = desk_view g.W.Work.sees g.K.Keeper.sees g.L.Link.sees in
    let old = sees c.args.desk.now in
    let new = sees c.list_noted-texts.new.desk in
    let list : ListId = record { 0 = 1 + c.args.client.0 } in
    looked old new c.args.client.0 c.args.service list c.list_noted-texts.result c.views_grow.ensures.texts
    (lists_learn old new c.args.service list 0 c.list_noted-texts.result c.list_noted-texts.ensures.lists) refl c.list_noted-texts.ensures.lists

pub returns-clause-told : goal.returns-clause-told
returns-clause-told g c = λ setting told.
    let sees = desk_view g.W.Work.sees g.K.Keeper.sees g.L.Link.sees in
    let old = sees c.args.desk.now in
    let new = sees c.list_noted-texts.new.desk in
    c.tellings_stay.ensures.on old new.pass setting c.recall.ensures.closed
    (lists_learn old new c.args.service (record { 0 = 1 + c.args.client.0 }) 0 c.list_noted-texts.result c.list_noted-texts.ensures.lists) told
