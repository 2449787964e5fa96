use Rattle.std.proofs.Common.{ℕ, List, None, if◌then◌else◌, ap, ◌∙◌}
use Rattle.std.specs.Str.{bytes_eq}
use Rattle.ms_tree.specs.DraftFiles.{drafted}
use Rattle.ms_tree.specs.Files.{text_at}
use Rattle.ms_merge.proofs.Steps.{removes_none, removes_more, removes_all, shown_item}
use Rattle.ms_merge.proofs.merging.remove.Goals as goal

pub loop-file-init : goal.loop-file-init
loop-file-init c = removes_none _

pub loop-file-preserved : goal.loop-file-preserved
loop-file-preserved c =
    removes_more _ _ _ _ _ (drafted c.file-item.result) c.loop-file.invariant (shown_item drafted c.args.files.now c.loop-file.file-index c.file-item.result c.loop-file-test.true c.file-item.is)
    (λ path. c.remove.ensures.there path ∙ ap (λ (n : List ℕ). if bytes_eq n path then None else text_at c.loop-file.draft path) c.as_str.ensures.value)

pub returns : goal.returns
returns c = removes_all _ _ c.args.files.now c.loop-file.file-index c.loop-file.invariant c.loop-file-test.false
