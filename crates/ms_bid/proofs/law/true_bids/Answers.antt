use Rattle.ms_bid.proofs.Deciding.{bid_justified, bid_decided}
use Rattle.ms_bid.proofs.Running.{not_again}
use Rattle.ms_bid.proofs.law.true_bids.Goals as goal

pub returns-clause-justified : goal.returns-clause-justified
returns-clause-justified c = bid_justified

pub returns-clause-decided : goal.returns-clause-decided
returns-clause-decided c = bid_decided

pub returns-clause-not_again : goal.returns-clause-not_again
returns-clause-not_again c = not_again
