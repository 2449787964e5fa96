use Rattle.std.proofs.Common.{List, map, ap, ◌∙◌}
use Rattle.ms_tree.specs.declared.files.FileRef.{FileRef}
use Rattle.ms_merge.proofs.Steps.{shown}
use Rattle.ms_merge.proofs.Merged.{settled_rows}
use Rattle.ms_merge.proofs.merging.settled.Goals as goal

pub returns : goal.returns
returns c =
    settled_rows c.args.sides.now.base.now c.args.sides.now.ours.now c.args.sides.now.theirs.now (map shown c.deref.result.now) (map shown c.deref-2.result.now) c.new-draft.result c.settle.new.draft c.settle-2.new.draft
    c.new-draft.ensures
    (ap (λ (rows : List FileRef). map shown rows) c.deref.ensures.value ∙ c.in_ok-rows.ensures.rows)
    (ap (λ (rows : List FileRef). map shown rows) c.deref-2.ensures.value ∙ c.in_ok-rows-2.ensures.rows)
    c.in_ok-settle.ensures c.in_ok-settle-2.ensures
