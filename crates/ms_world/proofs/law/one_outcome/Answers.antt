use Rattle.ms_world.proofs.Outcomes.{one_world}
use Rattle.ms_world.proofs.FirstFailing.{no_refusal, one_refusal}
use Rattle.ms_world.proofs.law.one_outcome.Goals as goal

pub returns-clause-step : goal.returns-clause-step
returns-clause-step c = λ setting w event a b set is. one_world setting w event a b (c.states_hold.ensures.known_one setting w set is)

pub returns-clause-refusal : goal.returns-clause-refusal
returns-clause-refusal c = one_refusal

pub returns-clause-apart : goal.returns-clause-apart
returns-clause-apart c = no_refusal
