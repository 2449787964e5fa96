use Rattle.std.proofs.Common.{ℕ, List, sym, ap, ◌∙◌, subst}
use Rattle.std.specs.Prelude.{IfSome}
use mathlib.Core.List.{IsPrefix}
use Rattle.atomic_table.specs.Table.{Me}
use Rattle.ms_ken.specs.declared.view.View.{View}
use Rattle.ms_ken.specs.Lists.{list_at, Begins}
use Rattle.ms_ken.specs.Known.{Known}
use Rattle.ms_ken.specs.Rest.{IsAtRest}
use Rattle.ms_ken.specs.Rows.{agree_within}
use Rattle.ms_ken.proofs.Passing.{rest_taken, behind_taken}
use Rattle.ms_ken.proofs.board.Board.take.Goals as goal

pub invariant_of-pass : goal.invariant_of-pass
invariant_of-pass g c =
    let E = g.row.C-Event.Denot in
    let mine = c.pass.invariant in
    let theirs = c.note.invariant in
    let told = c.take.ensures in
    let one_board = ap (λ k. k.board) c.pass.view_is ∙ (c.requires.board.0 ∙ sym (ap (λ k. k.board) c.note.view_is ∙ c.requires.board.1)) in
    let wide = theirs.0.wide ∙ sym (ap (λ t. t.words) one_board) in (
      subst (λ t. IsAtRest c.pass.inside.word t.words c.take.new.seat.me) (sym told.board) (rest_taken _ _ _ _ _ mine.0 wide told.longer),
      subst (λ (m : Me ℕ (View E)). g.C.Closed.closed m.0.lists) (sym told.longer) (g.C.Closed.of_longer _ _ (mine.0.wide ∙ sym wide) mine.1 theirs.1 (agree_within _ _ _ told.spans.mine told.spans.theirs)),
    )

pub returns-clause-keeps : goal.returns-clause-keeps
returns-clause-keeps g c =
    let E = g.row.C-Event.Denot in
    subst (λ (l : List (List E)). Begins l c.take.new.seat.me.0.lists) (ap (λ k. k.lists) c.pass.view_is) c.take.ensures.spans.mine

pub returns-clause-learns : goal.returns-clause-learns
returns-clause-learns g c =
    let E = g.row.C-Event.Denot in
    subst (λ (l : List (List E)). Begins l c.take.new.seat.me.0.lists) (ap (λ k. k.lists) c.note.view_is) c.take.ensures.spans.theirs

pub returns-clause-behind : goal.returns-clause-behind
returns-clause-behind g c =
    let E = g.row.C-Event.Denot in
    let told = c.take.ensures in
    subst (λ (p : Known E × Known E). IfSome p.0.word (λ k. IsPrefix (list_at p.1.lists k) (list_at p.0.lists k))) (λ i. (c.pass.view_is i, c.note.view_is i)) (behind_taken _ _ _ _ _ c.pass.invariant.0 told.longer told.spans)
