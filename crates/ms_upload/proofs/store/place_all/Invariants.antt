use Rattle.ms_local.specs.Desks.{desk_view}
use Rattle.ms_object.specs.Stores.{names_in}
use Rattle.ms_upload.specs.Placings.{PlacedTo}
use Rattle.ms_upload.proofs.store.place_all.Given as goal

abbrev pub invariant-loop-place : goal.invariant-loop-place
invariant-loop-place g l = PlacedTo l.plan (names_in l.objects) (desk_view g.W.Work.sees g.K.Keeper.sees g.L.Link.sees l.fn.desk) (desk_view g.W.Work.sees g.K.Keeper.sees g.L.Link.sees l.desk) l.place l.placed
