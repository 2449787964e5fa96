use Rattle.std.proofs.Common.{◌≡◌, Bool, IfOk, subst}
use Rattle.ms_tree.proofs.InsideLaws.{same_text}
use Rattle.ms_tree.proofs.EntryLaws.{any_shown}
use Rattle.ms_tree.proofs.files.Files.is_directory.Goals as goal

pub returns : goal.returns
returns c = subst (λ (b : Bool). IfOk c.is_above.result (λ r. r ≡ b)) (any_shown same_text c.self.inside.map.entries c.args.self.now c.args.path.now c.self.view_is) c.is_above.ensures
