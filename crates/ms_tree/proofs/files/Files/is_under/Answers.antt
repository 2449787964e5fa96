use Rattle.std.proofs.Common.{ℕ, ◌<◌, List, true, false, length, get_or, below_more, ap, sym, subst, ◌∙◌, arith}
use Rattle.ms_tree.proofs.InsideLaws.{looked, none_of}
use Rattle.ms_tree.proofs.ClashLaws.{none_above, some_above}
use Rattle.ms_tree.proofs.files.Files.is_under.Goals as goal
use Rattle.ms_tree.proofs.files.Files.is_under.Goals.{else-byte-eq47-via-then-byte-eq47+else-contains_key, else-byte-eq47-via-else-byte-eq47}

pub returns-then-contains_key : goal.returns-then-contains_key
returns-then-contains_key c =
    let same = c.as_bytes-byte-items.ensures.value in
    sym (some_above c.args.self.now c.args.path.now c.loop-at.at
    (subst (λ (p : List ℕ). c.loop-at.at < length p) same c.loop-at-test.true)
    (ap (λ (p : List ℕ). get_or p c.loop-at.at 0) (sym same) ∙ c.if-byte-eq47.true)
    (sym (looked c.self.inside.map.entries c.args.self.now c.args.path.now c.range.result.now c.loop-at.at true c.self.view_is c.range.ensures.value (sym c.if-contains_key.true ∙ c.contains_key.ensures))))

pub loop-at-preserved : goal.loop-at-preserved
loop-at-preserved c = below_more _ _ c.loop-at.invariant
    (elim c.else-byte-eq47.branch [
      | else-byte-eq47-via-then-byte-eq47+else-contains_key w ↦ λ _.
          none_of _ (looked c.self.inside.map.entries c.args.self.now c.args.path.now w.range.result.now c.loop-at.at false c.self.view_is w.range.ensures.value (sym w.if-contains_key.false ∙ w.contains_key.ensures))
      | else-byte-eq47-via-else-byte-eq47 w ↦ λ e. absurd (w.if-byte-eq47.false (ap (λ (p : List ℕ). get_or p c.loop-at.at 0) c.as_bytes-byte-items.ensures.value ∙ e))
    ])

pub returns : goal.returns
returns c = sym (none_above c.args.self.now c.args.path.now (λ k l e. c.loop-at.invariant k (let n = ap length c.as_bytes-byte-items.ensures.value in omega arith) e))
