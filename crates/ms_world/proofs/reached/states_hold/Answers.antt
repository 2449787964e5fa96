use Rattle.ms_world.proofs.ReachedLaws.{known_one, reached_inv, state_of}
use Rattle.ms_world.proofs.reached.states_hold.Goals as goal

pub returns-clause-state : goal.returns-clause-state
returns-clause-state c = λ setting w set is. state_of setting w set (reached_inv c.chain_laws.ensures setting w set is)

pub returns-clause-present : goal.returns-clause-present
returns-clause-present c = λ setting w set is. (reached_inv c.chain_laws.ensures setting w set is).present

pub returns-clause-known_one : goal.returns-clause-known_one
returns-clause-known_one c = λ setting w set is client x at e f. known_one c.chain_laws.ensures setting w client x e f (reached_inv c.chain_laws.ensures setting w set is) at
