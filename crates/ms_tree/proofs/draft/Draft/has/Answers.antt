use Rattle.ms_tree.proofs.DraftLaws.{has_it}
use Rattle.ms_tree.proofs.draft.Draft.has.Goals as goal

pub returns : goal.returns
returns c = has_it c.self.inside.map.entries c.args.self.now c.args.path.now _ c.self.view_is c.contains_key.ensures
