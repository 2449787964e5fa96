use Rattle.ms_local.specs.Desks.{IsDesk, desk_view}
use Rattle.ms_local.specs.Learning.{IsOfDesk}
use Rattle.bid_tests.proofs.learning_tests.learn_again.Given as goal

abbrev pub invariant-loop-time : goal.invariant-loop-time
invariant-loop-time g l =
    IsDesk (desk_view g.W.Work.sees g.K.Keeper.sees g.L.Link.sees l.desk) × IsOfDesk l.chain (desk_view g.W.Work.sees g.K.Keeper.sees g.L.Link.sees l.desk)
