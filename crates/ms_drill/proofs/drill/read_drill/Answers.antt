use Rattle.std.proofs.Common.{◌≡◌, ◌≤◌, ◌∙◌, ℕ, List, Result, Ok, Err, sym, ap, subst, length, arith}
use Rattle.std.specs.Result.{IsErrAnd}
use Rattle.ms_drill.specs.declared.drill.Drill.{Drill}
use Rattle.ms_drill.specs.Drills.{ReadsDrill, drill_at, drill_of, most_events}
use Rattle.ms_record.specs.declared.refusal.Refusal.{Refusal}
use Rattle.ms_text.specs.Lines.{lines_of}
use Rattle.ms_drill.proofs.WrongLines.{behind_head, wrong_line_is}
use Rattle.ms_drill.proofs.drill.read_drill.Goals as goal

pub returns-clause-first : goal.returns-clause-first
returns-clause-first c = λ line e. wrong_line_is (lines_of c.args.text.now) line e

pub returns-in_err-events-clause-first : goal.returns-in_err-events-clause-first
returns-in_err-events-clause-first c = λ line e. wrong_line_is (lines_of c.args.text.now) line e

err_is : (r : Result Drill Refusal) (x : Refusal) → IsErrAnd r (λ e. e ≡ x) → r ≡ Err x
err_is (Ok drill) x h = absurd h
err_is (Err e) x h = ap (λ (y : Refusal). Err y) h

pub returns-in_err-events-clause-exact : goal.returns-in_err-events-clause-exact
returns-in_err-events-clause-exact c =
    let given = c.from_residual.result in
    let refusal = c.in_err-events.field-0.0 in
    let first = c.next_line.result.0.now in
    let lines = lines_of c.next_line.result.1.now in
    let few : length lines ≤ most_events = omega (arith, c.count_lines-count.ensures) in
    let behind = behind_head first lines c.in-Some.head refusal (sym c.in-Some.is ∙ c.read_head.ensures.is) few c.in_err-events.ensures.read in
    subst (λ (r : Result Drill Refusal). ReadsDrill (drill_at c.args.text.now) r) (sym (err_is given refusal c.from_residual.ensures.1))
    (subst (λ (ls : List (List ℕ)). ReadsDrill (drill_of ls) (Err refusal)) (sym c.next_line.ensures.lines) behind)
