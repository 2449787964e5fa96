use Rattle.ms_tree.proofs.Building.{IsBuilt}
use Rattle.ms_tree.proofs.files.Files.from_rows.Given as goal

abbrev pub invariant-loop-row : goal.invariant-loop-row
invariant-loop-row l = IsBuilt l.rows l.row-index l.map.entries l.total
