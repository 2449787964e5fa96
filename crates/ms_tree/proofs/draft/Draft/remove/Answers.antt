use Rattle.std.proofs.Common.{◌≡◌, ap, ◌∙◌, subst}
use Rattle.std.specs.Ordering.{nat_cmp}
use Rattle.std.specs.Cmp.Lexicographic.{slice_cmp}
use Rattle.std.specs.List.Sorted.{IsStrictlySortedBy}
use Rattle.std.specs.Map.{keys_of}
use Rattle.ms_tree.specs.Files.{FileList, text_at, without}
use Rattle.ms_tree.proofs.FileLaws.{text_at-without}
use Rattle.ms_tree.proofs.EntryLaws.{entry_removed, files_of}
use Rattle.ms_tree.proofs.DraftLaws.{lent, rises}
use Rattle.ms_tree.proofs.draft.Draft.remove.Goals as goal

pub invariant_of-self : goal.invariant_of-self
invariant_of-self c = rises _ c.remove.ensures.ordered

pub returns-clause-after : goal.returns-clause-after
returns-clause-after c = entry_removed lent c.self.inside.map.entries c.remove.new.self.entries c.args.self.now c.args.path.now c.self.view_is c.remove.ensures.entries

pub returns-clause-there : goal.returns-clause-there
returns-clause-there c =
    let after : files_of lent c.remove.new.self.entries ≡ without c.args.self.now c.args.path.now =
    entry_removed lent c.self.inside.map.entries c.remove.new.self.entries c.args.self.now c.args.path.now c.self.view_is c.remove.ensures.entries in
    let rising : IsStrictlySortedBy (slice_cmp nat_cmp) (keys_of c.args.self.now) = subst (λ (files : FileList). IsStrictlySortedBy (slice_cmp nat_cmp) (keys_of files)) c.self.view_is c.self.invariant.rising in
    λ q. ap (λ (files : FileList). text_at files q) after ∙ text_at-without c.args.path.now q c.args.self.now rising
