use Rattle.ms_world.proofs.ReachedLaws.{chosen_goes_on, full_chain, linked_short, none_longer, one_chain, reached_inv}
use Rattle.ms_world.proofs.reached.chains_go_on.Goals as goal

pub returns-clause-short : goal.returns-clause-short
returns-clause-short c = λ setting w chain set is. linked_short setting w chain (reached_inv c.chain_laws.ensures setting w set is)

pub returns-clause-goes_on : goal.returns-clause-goes_on
returns-clause-goes_on c = λ setting w chain e set is. chosen_goes_on c.chain_laws.ensures setting w chain e (reached_inv c.chain_laws.ensures setting w set is)

pub returns-clause-ends : goal.returns-clause-ends
returns-clause-ends c = λ setting w chain set is. none_longer c.chain_laws.ensures setting w chain (reached_inv c.chain_laws.ensures setting w set is)

pub returns-clause-full : goal.returns-clause-full
returns-clause-full c = λ setting w chain set is. full_chain c.chain_laws.ensures setting w chain (reached_inv c.chain_laws.ensures setting w set is)

pub returns-clause-one : goal.returns-clause-one
returns-clause-one c = λ setting w a b set is. one_chain c.chain_laws.ensures setting w a b (reached_inv c.chain_laws.ensures setting w set is)
