use Rattle.std.proofs.Common.{sym, ◌∙◌}
use Rattle.ms_object.specs.Stores.{text_of}
use Rattle.ms_tree.proofs.Looked.{root_walk}
use Rattle.ms_tree.proofs.looking.root_rows.Goals as goal

pub returns-in-Some-clause-walk : goal.returns-in-Some-clause-walk
returns-in-Some-clause-walk c = root_walk c.args.format (text_of c.args.store.now) c.args.name.now c.in_ok-object.object c.in-Some.rows c.in_ok-object.ensures.exact (sym c.in_ok-rows.ensures.rows ∙ c.in-Some.is)
