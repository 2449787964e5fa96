use Rattle.std.proofs.Common.{◌∙◌, arith}
use Rattle.ms_base.proofs.LastItem.{last_set}
use Rattle.ms_base.proofs.items.Items.set_last.Goals as goal

pub returns : goal.returns
returns g c = λ front last is. last_set c.self.inside.items.items front last c.args.item c.len-last.result (c.self.view_is ∙ is) (c.len-last.ensures ∙ omega arith)
