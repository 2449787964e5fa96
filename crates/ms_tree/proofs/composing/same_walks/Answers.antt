use Rattle.ms_tree.proofs.SameWalks.{one_walk}
use Rattle.ms_tree.proofs.composing.same_walks.Goals as goal

pub returns : goal.returns
returns c = λ one other root names here agree closed. one_walk one other names agree closed root here
