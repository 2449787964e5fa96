use Rattle.ms_tree.proofs.OneTree.{rising_same}
use Rattle.ms_tree.proofs.TwoStores.{tree_in_more, tree_in_two}
use Rattle.ms_tree.proofs.gathering.one_tree.Goals as goal

pub returns-clause-one : goal.returns-clause-one
returns-clause-one c = λ store root one other p q s t. rising_same one other p q (λ f h. (t.found f).1 ((s.found f).0 h)) (λ f h. (s.found f).1 ((t.found f).0 h))

pub returns-clause-two : goal.returns-clause-two
returns-clause-two c = λ store beside root one other named names p q s t. tree_in_two store beside root one other named names p q s t

pub returns-clause-stays : goal.returns-clause-stays
returns-clause-stays c = λ old new root files has tree. tree_in_more old new root files has tree
