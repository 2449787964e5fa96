use Rattle.std.proofs.Common.{◌≡◌, [], replicate, rules, sym, subst}
use Rattle.atomic_table.specs.Table.{opening}
use Rattle.ms_ken.specs.Rule.{fresh, Keeps}
use Rattle.ms_ken.proofs.Keeping.{opens}
use Rattle.ms_ken.proofs.board.Board.new.Goals as goal

pub of_words-requires : goal.of_words-requires
of_words-requires g c =
    let zeros : c.as_slice.result.now ≡ replicate c.args.owners 0 = search rules in
    subst (λ ws. Keeps {E = g.row.C-Event.Denot} c.args.owners (opening ws [] (fresh c.args.owners))) (sym zeros) (opens c.args.owners)
