use Rattle.std.proofs.Common.{◌∙◌, Bool, Result, Ok, ap, subst}
use Rattle.ms_local.specs.declared.objects.Miss.{Miss}
use Rattle.ms_local.specs.Desks.{desk_view}
use Rattle.ms_upload.specs.Asking.{AsksOne}
use Rattle.ms_upload.proofs.Visiting.{both}
use Rattle.ms_upload.proofs.visit.visit.Goals as goal

pub returns-in-Ok-false : goal.returns-in-Ok-false
returns-in-Ok-false g c =
    let sees = desk_view g.W.Work.sees g.K.Keeper.sees g.L.Link.sees in
    let old = sees c.args.desk.now in
    let mid = sees c.ask_one.new.desk in
    both old mid (sees c.put_there.new.desk) c.args.service c.args.generation c.args.name.now c.put_there.result c.desks_lay.ensures.on
    (subst (λ (a : Result Bool Miss). AsksOne old mid c.args.service c.args.generation c.args.name.now (Ok a)) (c.in-Ok-false.is ∙ ap (λ (b : Bool). Ok b) c.in-Ok-false.field-0-test) c.in-Ok.ensures)
    c.put_there.ensures
