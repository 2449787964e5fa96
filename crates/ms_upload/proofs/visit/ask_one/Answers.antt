use Rattle.ms_local.specs.Desks.{desk_view}
use Rattle.ms_upload.proofs.Visiting.{asked}
use Rattle.ms_upload.proofs.visit.ask_one.Goals as goal

pub returns : goal.returns
returns g c =
    let sees = desk_view g.W.Work.sees g.K.Keeper.sees g.L.Link.sees in
    asked (sees c.args.desk.now) (sees c.has_noted-answer.new.desk) c.desks_lay.ensures.called c.desks_lay.ensures.noted c.requires.desk c.has_noted-answer.ensures.desk c.recall.ensures.closed
    c.args.service c.args.generation c.args.name.now c.has_noted-answer.result c.has_noted-answer.ensures.has
