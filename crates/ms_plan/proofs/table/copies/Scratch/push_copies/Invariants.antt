use Rattle.std.proofs.Common.{◌≡◌, ◌++◌, map}
use Rattle.std.specs.List.{range_with_len}
use Rattle.ms_plan.specs.TableInside.{keyed}
use Rattle.ms_plan.proofs.table.copies.Scratch.push_copies.Given as goal

abbrev pub invariant-loop-copy : goal.invariant-loop-copy
invariant-loop-copy l = l.self.copies.items ≡ l.initial.self.copies.items ++ map (keyed l.slot) (map (λ n. record { service = l.row.service; copy = n }) (range_with_len 0 l.copy))
