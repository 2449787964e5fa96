use Rattle.std.specs.Prelude.{◌-◌, length}
use Rattle.ms_base.specs.declared.limits.TheConstants.{GREATEST_NUMBER}
use Rattle.ms_local.specs.Desks.{IsDesk, desk_view}
use Rattle.ms_local.specs.Learning.{IsOfDesk}
use Rattle.ms_propose.specs.Catching.{Catches, ChainGoesOn}
use Rattle.ms_propose.proofs.catching.catch_up.Given as goal

abbrev pub invariant-learn : goal.invariant-learn
invariant-learn g l = record {
  desk : IsDesk (desk_view g.W.Work.sees g.K.Keeper.sees g.L.Link.sees l.desk);
  leaves : Catches 0 (desk_view g.W.Work.sees g.K.Keeper.sees g.L.Link.sees l.fn.desk) (desk_view g.W.Work.sees g.K.Keeper.sees g.L.Link.sees l.desk) l.fn.kept l.kept;
  grows : ChainGoesOn (g.R.Learner.sees l.fn.chain) (g.R.Learner.sees l.chain);
  of_desk : IsOfDesk (g.R.Learner.sees l.chain) (desk_view g.W.Work.sees g.K.Keeper.sees g.L.Link.sees l.desk);
}

abbrev pub decreases-learn : goal.decreases-learn
decreases-learn g l = GREATEST_NUMBER - length (g.R.Learner.sees l.chain).members
