use Rattle.std.proofs.Common.{ℕ, List, map, get_or, true, false, ap, ◌∙◌}
use Rattle.ms_tree.specs.declared.files.FileRef.{FileRef}
use Rattle.ms_tree.specs.DraftFiles.{drafted}
use Rattle.ms_merge.proofs.Steps.{conflicts_none, conflicts_more, conflicts_other, conflicts_all, conflict_is, shown_more, shown, no_row}
use Rattle.ms_merge.proofs.sides.conflicts.Goals as goal
use Rattle.ms_merge.proofs.sides.conflicts.Goals.{then-is_conflict+in_ok-path+in_ok-push, else-is_conflict}

pub loop-row-init : goal.loop-row-init
loop-row-init c = conflicts_none c.args.sides.now.base.now c.args.sides.now.theirs.now c.new-found.result.items c.new-found.ensures.items

pub loop-row-preserved : goal.loop-row-preserved
loop-row-preserved c =
    let row : FileRef = get_or c.deref-row-items.result.now c.loop-row.row-index no_row in
    let grown = shown_more shown c.deref-row-items.result.now c.loop-row.row-index _ c.loop-row-test.true in
    elim c.if-is_conflict.branch [
      | then-is_conflict+in_ok-path+in_ok-push w ↦
          ap (λ v. map drafted v.items) w.found-is
          ∙ conflicts_more c.args.sides.now.base.now c.args.sides.now.theirs.now _ _ _ c.loop-row.found.items w.push.new.self.items _ c.loop-row.invariant grown
          (conflict_is c.args.sides.now.base.now c.args.sides.now.theirs.now row.path.now row.text.now _ _ c.is_conflict.result true c.is_conflict.ensures c.get.ensures c.get-in-loop-row.ensures w.if-is_conflict.true)
          (ap (λ (p : List ℕ). (p, _)) w.in_ok-path.ensures.ok) w.in_ok-push.ensures.items
      | else-is_conflict w ↦
          ap (λ v. map drafted v.items) w.found-is
          ∙ conflicts_other c.args.sides.now.base.now c.args.sides.now.theirs.now _ _ _ c.loop-row.found.items c.loop-row.invariant grown
          (conflict_is c.args.sides.now.base.now c.args.sides.now.theirs.now row.path.now row.text.now _ _ c.is_conflict.result false c.is_conflict.ensures c.get.ensures c.get-in-loop-row.ensures w.if-is_conflict.false)
    ]

pub returns : goal.returns
returns c =
    conflicts_all c.args.sides.now.base.now c.args.sides.now.ours.now c.args.sides.now.theirs.now c.loop-row.found.items c.deref-row-items.result.now c.loop-row.row-index c.loop-row.invariant
    (ap (λ (rows : List FileRef). map shown rows) c.deref-row-items.ensures.value ∙ c.in_ok-rows.ensures.rows) c.loop-row-test.false
