use Rattle.std.proofs.Common.{◌≡◌, length}
use Rattle.ms_local.specs.Desks.{IsDesk, desk_view}
use Rattle.ms_local.specs.Rules.{Bidding}
use Rattle.ms_propose.specs.Bidding.{intent_of}
use Rattle.ms_propose.specs.Leaving.{Bids}
use Rattle.ms_propose.specs.Proposing.{BidsMade}
use Rattle.ms_propose.proofs.proposal.propose.Given as goal

abbrev pub invariant-loop-bid : goal.invariant-loop-bid
invariant-loop-bid g l = record {
  desk : IsDesk (desk_view g.W.Work.sees g.K.Keeper.sees g.L.Link.sees l.desk);
  leaves : Bids 0 (desk_view g.W.Work.sees g.K.Keeper.sees g.L.Link.sees l.fn.desk) (desk_view g.W.Work.sees g.K.Keeper.sees g.L.Link.sees l.desk) l.fn.kept l.kept;
  made : (s : Bidding) → s.top ≡ l.fn.kept.round → length s.failed ≡ l.fn.desk.services
      → BidsMade l.fn.desk.client.0 l.fn.desk.services (intent_of l.fn.want l.fn.voters l.fn.position) l.fn.desk.deeds l.desk.deeds s l.kept.round l.rivals;
  count : length l.rivals ≡ l._bid;
}
