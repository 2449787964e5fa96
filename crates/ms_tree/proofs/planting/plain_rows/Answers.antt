use Rattle.std.proofs.Common.{◌≡◌, List, map, sym, subst, rules}
use Rattle.ms_object.specs.declared.object.Row.{Row}
use Rattle.ms_object.specs.Objects.{IsDir}
use Rattle.ms_tree.specs.Planting.{plain}
use Rattle.ms_tree.proofs.PlainRows.{dir_plain}
use Rattle.ms_tree.proofs.planting.plain_rows.Goals as goal

pub returns-clause-dir : goal.returns-clause-dir
returns-clause-dir c =
    let all : c.from_vec.result ≡ map plain c.args.rows = search rules in
    subst (λ (rows : List Row). IsDir rows) (sym all) (dir_plain c.args.rows c.requires)
