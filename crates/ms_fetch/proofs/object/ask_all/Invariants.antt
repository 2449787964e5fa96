use Rattle.ms_local.specs.Desks.{desk_view}
use Rattle.ms_fetch.specs.Fetching.{AskedTo}
use Rattle.ms_fetch.proofs.object.ask_all.Given as goal

abbrev pub invariant-loop-service : goal.invariant-loop-service
invariant-loop-service g l =
    AskedTo l.generation l.order l.name (desk_view g.W.Work.sees g.K.Keeper.sees g.L.Link.sees l.fn.desk) (desk_view g.W.Work.sees g.K.Keeper.sees g.L.Link.sees l.desk) l.service-index l.asked
