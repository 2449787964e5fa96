use Rattle.std.proofs.Common.{rules, tests, eqb}
use Rattle.std.proofs.lemmas.Iterator.Splits.{YieldsList-from_slice_split}
use Rattle.std.proofs.lemmas.Iterator.Consumers.{count_from_yields_List}
use Rattle.ms_tree.proofs.path.levels.Goals as goal

pub returns : goal.returns
returns c = count_from_yields_List _ _ c.count.ensures.ran (YieldsList-from_slice_split _ (λ b. eqb b 47) c.args.path.now (cc) c.split.ensures.done c.split.ensures.closure (λ x b q k. search (rules, tests)))
