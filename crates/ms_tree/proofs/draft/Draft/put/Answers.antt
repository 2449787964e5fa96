use Rattle.std.proofs.Common.{◌≡◌, ap, ◌∙◌, refl}
use Rattle.ms_tree.specs.Files.{FileList, text_at, with_file}
use Rattle.ms_tree.proofs.FileLaws.{text_at-with_file}
use Rattle.ms_tree.proofs.EntryLaws.{entry_inserted, files_of}
use Rattle.ms_tree.proofs.DraftLaws.{lent, rises}
use Rattle.ms_tree.proofs.draft.Draft.put.Goals as goal

pub invariant_of-self-2 : goal.invariant_of-self-2
invariant_of-self-2 c = rises _ c.in_ok-insert.ensures.ordered

pub returns-clause-ok : goal.returns-clause-ok
returns-clause-ok c = entry_inserted lent c.self.inside.map.entries c.insert.new.self.entries c.args.self.now c.in_ok-key.key c.args.path.now c.args.text.now c.args.text c.self.view_is c.in_ok-key.ensures.ok refl c.in_ok-insert.ensures.entries

pub returns-clause-there : goal.returns-clause-there
returns-clause-there c =
    let after : files_of lent c.insert.new.self.entries ≡ with_file c.args.self.now c.args.path.now c.args.text.now =
    entry_inserted lent c.self.inside.map.entries c.insert.new.self.entries c.args.self.now c.in_ok-key.key c.args.path.now c.args.text.now c.args.text c.self.view_is c.in_ok-key.ensures.ok refl c.in_ok-insert.ensures.entries in
    λ q. ap (λ (files : FileList). text_at files q) after ∙ text_at-with_file c.args.path.now c.args.text.now q c.args.self.now
