use Rattle.ms_local.specs.Desks.{desk_view}
use Rattle.ms_chain.proofs.RefRounds.{WritesOn}
use Rattle.ms_chain.proofs.refs.write_all.Given as goal

abbrev pub invariant-loop-service : goal.invariant-loop-service
invariant-loop-service g l = WritesOn (desk_view g.W.Work.sees g.K.Keeper.sees g.L.Link.sees l.fn.desk) (desk_view g.W.Work.sees g.K.Keeper.sees g.L.Link.sees l.desk) l.mark l.service l.failed
