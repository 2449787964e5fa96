use Rattle.ms_local.specs.Desks.{IsDesk, desk_view}
use Rattle.bid_tests.proofs.mark_tests.have_written.Given as goal

abbrev pub invariant-loop-service : goal.invariant-loop-service
invariant-loop-service g l = IsDesk (desk_view g.W.Work.sees g.K.Keeper.sees g.L.Link.sees l.desk)
