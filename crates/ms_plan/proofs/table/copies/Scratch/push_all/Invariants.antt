use Rattle.std.proofs.Common.{◌≡◌, ◌++◌, map, take}
use Rattle.std.specs.List.{flat_map}
use Rattle.ms_plan.specs.Mapping.{copies_of}
use Rattle.ms_plan.specs.TableInside.{keyed}
use Rattle.ms_plan.proofs.table.copies.Scratch.push_all.Given as goal

abbrev pub invariant-loop-row : goal.invariant-loop-row
invariant-loop-row l = l.self.copies.items ≡ l.initial.self.copies.items ++ map (keyed l.slot) (flat_map (copies_of l.plan.unit) (take l.row-index l.plan.rows))
