use Rattle.ms_tree.proofs.Weighed.{weighed_rows, judged_alike}
use Rattle.ms_tree.proofs.sizes.size_laws.Goals as goal

pub returns-clause-weighed : goal.returns-clause-weighed
returns-clause-weighed c = λ format left store before rows whole. weighed_rows format left store before rows whole

pub returns-clause-judged : goal.returns-clause-judged
returns-clause-judged c = judged_alike
