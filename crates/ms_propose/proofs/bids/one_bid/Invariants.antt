use Rattle.ms_bid.specs.Bids.{acts_left}
use Rattle.ms_local.specs.Desks.{desk_view}
use Rattle.ms_propose.specs.Bidding.{intent_of}
use Rattle.ms_propose.proofs.OneBid.{BidGoes}
use Rattle.ms_propose.proofs.bids.one_bid.Given as goal

abbrev pub invariant-acts : goal.invariant-acts
invariant-acts g l =
    BidGoes (intent_of l.fn.want l.fn.voters l.fn.position) l.aim (desk_view g.W.Work.sees g.K.Keeper.sees g.L.Link.sees l.fn.desk) (desk_view g.W.Work.sees g.K.Keeper.sees g.L.Link.sees l.desk) l.fn.kept l.kept l.proposer

abbrev pub decreases-acts : goal.decreases-acts
decreases-acts g l = acts_left l.proposer
