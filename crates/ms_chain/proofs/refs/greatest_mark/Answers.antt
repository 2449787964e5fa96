use Rattle.std.proofs.Common.{◌≡◌, ℕ, ◌+◌, List, [], ◌∷◌, ◌++◌, sym, ap, ◌∙◌, subst, take, take_all, append_assoc, arith}
use Rattle.ms_record.specs.declared.mark.RefMark.{RefMark}
use Rattle.ms_chain.specs.Refs.{IsFirstGreatest, marks_of}
use Rattle.ms_record.specs.Marks.{mark_at}
use Rattle.ms_chain.proofs.Marking.{marks_more, marks_none, none_of}
use Rattle.ms_chain.proofs.refs.greatest_mark.Goals as goal
use Rattle.ms_chain.proofs.refs.greatest_mark.Goals.{in-Some, in_default}

pub loop-text-preserved : goal.loop-text-preserved
loop-text-preserved c = λ before h.
    let items = c.as_slice-text-items.result.now in
    let marks = marks_of (take c.loop-text.text-index items) in
    elim c.match-parse_mark.branch [
      | in-Some w ↦
          (let e : marks_of (take (c.loop-text.text-index + 1) items) ≡ marks ++ w.in-Some.mark ∷ [] =
          marks_more items c.loop-text.text-index c.text-item.result w.in-Some.mark c.loop-text-test.true c.text-item.is (sym (ap mark_at c.as_slice.ensures) ∙ (sym c.parse_mark.ensures.exact ∙ w.in-Some.is)) in
          subst (λ (ms : List RefMark). IsFirstGreatest ms c.match-parse_mark.best) (append_assoc before marks (w.in-Some.mark ∷ []) ∙ ap (λ (ms : List RefMark). before ++ ms) (sym e))
          (subst (IsFirstGreatest ((before ++ marks) ++ w.in-Some.mark ∷ [])) (sym w.best-is) (w.better_of-best.ensures (before ++ marks) (c.loop-text.invariant before h))))
      | in_default w ↦
          (let e : marks_of (take (c.loop-text.text-index + 1) items) ≡ marks = marks_none items c.loop-text.text-index c.text-item.result c.loop-text-test.true c.text-item.is (none_of (mark_at c.text-item.result) (λ mark is. w.in_default.not-Some mark (c.parse_mark.ensures.exact ∙ (ap mark_at c.as_slice.ensures ∙ is)))) in
          subst (λ (ms : List RefMark). IsFirstGreatest (before ++ ms) c.match-parse_mark.best) (sym e) (subst (IsFirstGreatest (before ++ marks)) (sym w.best-is) (c.loop-text.invariant before h)))
    ]

pub returns : goal.returns
returns c = λ before h.
    let items = c.as_slice-text-items.result.now in
    let all : take c.loop-text.text-index items ≡ c.args.texts.now = take_all c.loop-text.text-index items (omega (arith, c.loop-text-test.false)) ∙ c.as_slice-text-items.ensures in
    subst (λ (t : List (List ℕ)). IsFirstGreatest (before ++ marks_of t) c.loop-text.best) all (c.loop-text.invariant before h)
