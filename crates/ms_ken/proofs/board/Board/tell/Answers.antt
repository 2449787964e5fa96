use Rattle.std.proofs.Common.{ℕ, sym, subst}
use Rattle.atomic_table.specs.Table.{Me}
use Rattle.ms_ken.specs.declared.view.View.{View}
use Rattle.ms_ken.specs.Known.{Known}
use Rattle.ms_ken.specs.Lists.{Begins}
use Rattle.ms_ken.specs.Rows.{begins_item}
use Rattle.ms_ken.proofs.board.Board.tell.Goals as goal

pub returns-in-Some-clause-keeps : goal.returns-in-Some-clause-keeps
returns-in-Some-clause-keeps g c =
    let E = g.row.C-Event.Denot in
    subst (λ (k : Known E). Begins k.lists c.tell.new.seat.me.0.lists) c.pass.view_is (subst (λ (m : Me ℕ (View E)). Begins c.pass.inside.seat.me.0.lists m.0.lists) (sym c.tell.ensures.told) (begins_item _ _ _))
