use Rattle.std.proofs.Common.{◌≡◌, sym, subst, true, false}
use Rattle.ms_local.specs.Desks.{desk_view}
use Rattle.ms_local.specs.Learning.{HasHalf}
use Rattle.ms_chain.specs.Refs.{HasFailed}
use Rattle.ms_chain.proofs.RefRounds.{fresh}
use Rattle.ms_chain.proofs.refs.read_ref.Goals as goal

pub returns-clause-fresh : goal.returns-clause-fresh
returns-clause-fresh g c = λ setting told mark known.
    let sees = desk_view g.W.Work.sees g.K.Keeper.sees g.L.Link.sees in
    let few : HasFailed (sees c.args.desk.now) c.in_ok-failed.failed → ⊥ =
    λ half. (let q : false ≡ true = c.if-has_half.ensures.1 (subst (HasHalf c.in_ok-failed.failed) (sym c.all.ensures.are) half) in cc) in
    fresh (sees c.args.desk.now) (sees c.read_all.new.desk) c.args.client.0 c.in_ok-failed.failed c.in_ok-failed.best c.in_ok-failed.ensures.looks few setting told mark known
