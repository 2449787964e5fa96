use Rattle.std.proofs.Common.{Ok, sym, subst}
use Rattle.ms_local.specs.Desks.{desk_view}
use Rattle.ms_upload.specs.declared.visit.Met.{Met}
use Rattle.ms_upload.specs.Asking.{PutsThere}
use Rattle.ms_upload.proofs.Visiting.{put_cut, put_met}
use Rattle.ms_upload.proofs.visit.put_there.Goals as goal

pub returns-in-Ok : goal.returns-in-Ok
returns-in-Ok g c =
    let sees = desk_view g.W.Work.sees g.K.Keeper.sees g.L.Link.sees in
    let old = sees c.args.desk.now in
    let new = sees c.put_noted-answer.new.desk in
    subst (λ (met : Met). PutsThere old new c.args.service c.args.generation c.args.name.now (Ok met)) (sym c.met_by.ensures)
    (put_met old new c.desks_lay.ensures.called c.desks_lay.ensures.noted c.requires.desk c.put_noted-answer.ensures.desk c.recall.ensures.closed
    c.args.service c.args.generation c.args.name.now c.args.text.now c.in-Ok.answer c.in-Ok.ensures.puts)

pub returns-in-Err : goal.returns-in-Err
returns-in-Err g c =
    let sees = desk_view g.W.Work.sees g.K.Keeper.sees g.L.Link.sees in
    put_cut (sees c.args.desk.now) (sees c.put_noted-answer.new.desk) c.desks_lay.ensures.called c.desks_lay.ensures.noted c.requires.desk c.put_noted-answer.ensures.desk c.recall.ensures.closed
    c.args.service c.in-Err.ensures.puts
