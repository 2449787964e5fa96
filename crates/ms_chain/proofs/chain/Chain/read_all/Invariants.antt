use Rattle.std.proofs.Common.{◌≡◌}
use Rattle.ms_local.specs.Desks.{desk_view}
use Rattle.ms_chain.proofs.ReadingAll.{HasReadOn}
use Rattle.ms_chain.proofs.chain.Chain.read_all.Given as goal

abbrev pub invariant-loop-service : goal.invariant-loop-service
invariant-loop-service g l = record {
  reads :
      HasReadOn l.fn.self l.self (desk_view g.W.Work.sees g.K.Keeper.sees g.L.Link.sees l.fn.desk) (desk_view g.W.Work.sees g.K.Keeper.sees g.L.Link.sees l.desk) l.service l.failed;
  end : l.service-end ≡ l.fn.desk.services;
}
