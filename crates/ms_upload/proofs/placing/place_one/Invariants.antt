use Rattle.ms_local.specs.Desks.{desk_view}
use Rattle.ms_upload.specs.Jobs.{VisitedTo}
use Rattle.ms_upload.proofs.placing.place_one.Given as goal

abbrev pub invariant-loop-service : goal.invariant-loop-service
invariant-loop-service g l = VisitedTo l.plan l.name (desk_view g.W.Work.sees g.K.Keeper.sees g.L.Link.sees l.fn.desk) (desk_view g.W.Work.sees g.K.Keeper.sees g.L.Link.sees l.desk) l.service-index l.tally
