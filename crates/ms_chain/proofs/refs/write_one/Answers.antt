use Rattle.std.proofs.Common.{◌+◌, refl}
use Rattle.ms_local.specs.declared.deed.Message.TheVariants.{Ref}
use Rattle.ms_local.specs.Desks.{desk_view}
use Rattle.ms_chain.proofs.RefRounds.{appends_learn, wrote}
use Rattle.ms_chain.proofs.refs.write_one.Goals as goal

pub returns-clause-writes : goal.returns-clause-writes
returns-clause-writes g c =
    let sees = desk_view g.W.Work.sees g.K.Keeper.sees g.L.Link.sees in
    wrote (sees c.args.desk.now) (sees c.append_noted-written.new.desk) c.args.mark.now c.args.service (record { 0 = 1 + c.args.desk.now.client.0 }) c.in_ok-text_of.field-0 c.append_noted-written.result refl
    c.in_ok-text_of.ensures.0 c.append_noted-written.ensures.appends

pub returns-clause-told : goal.returns-clause-told
returns-clause-told g c = λ setting told.
    let sees = desk_view g.W.Work.sees g.K.Keeper.sees g.L.Link.sees in
    let old = sees c.args.desk.now in
    let new = sees c.append_noted-written.new.desk in
    c.tellings_stay.ensures.on old new.pass setting c.recall.ensures.closed
    (appends_learn old new c.args.service (record { 0 = 1 + c.args.desk.now.client.0 }) (Ref c.in_ok-text_of.field-0) c.append_noted-written.result c.append_noted-written.ensures.appends) told
