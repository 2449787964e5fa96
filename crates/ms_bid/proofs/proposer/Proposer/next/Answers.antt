use Rattle.std.proofs.Common.{subst}
use Rattle.ms_bid.specs.declared.bid.Bid.{Bid}
use Rattle.ms_bid.specs.Truths.{IsOfferJustified, IsDecidedTaken}
use Rattle.ms_bid.proofs.Deciding.{bid_justified, bid_decided}
use Rattle.ms_bid.proofs.proposer.Proposer.next.Goals as goal

pub returns-clause-justified : goal.returns-clause-justified
returns-clause-justified c = subst (λ (b : Bid). IsOfferJustified b) c.self.view_is (bid_justified c.self.inside.bid c.self.invariant)

pub returns-clause-decided : goal.returns-clause-decided
returns-clause-decided c = subst (λ (b : Bid). IsDecidedTaken b) c.self.view_is (bid_decided c.self.inside.bid c.self.invariant)
