use Rattle.std.proofs.Common.{◌≡◌, List, map, sym, subst, rules}
use Rattle.ms_object.specs.declared.object.SizedRow.{SizedRow}
use Rattle.ms_object.specs.Objects.{IsSizedDir}
use Rattle.ms_object.specs.Trees.{unsized}
use Rattle.ms_tree.proofs.PlainRows.{dir_unsized}
use Rattle.ms_tree.proofs.looking.without_sizes.Goals as goal

pub returns-clause-dir : goal.returns-clause-dir
returns-clause-dir c =
    let all : c.from_vec.result ≡ map unsized c.args.rows = search rules in
    subst (λ (rows : List SizedRow). IsSizedDir rows) (sym all) (dir_unsized c.args.rows c.requires)
