use Rattle.std.proofs.Common.{ℕ, List, Contains, subst}
use Rattle.ms_record.specs.Voters.{voter_below}
use Rattle.bid_tests.proofs.bidding.voters_of.Goals as goal

pub returns-clause-below : goal.returns-clause-below
returns-clause-below c = λ s in_all. voter_below c.args.services s (subst (λ (all : List ℕ). Contains all s) c.all.ensures.are in_all)
