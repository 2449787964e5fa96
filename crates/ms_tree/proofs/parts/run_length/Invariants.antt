use Rattle.std.proofs.Common.{◌≡◌, ◌+◌, drop, bytes_eq}
use Rattle.std.specs.List.{prefix_len}
use Rattle.ms_tree.specs.Planting.{first_part}
use Rattle.ms_tree.specs.Folders.{shown_from}
use Rattle.ms_tree.proofs.parts.run_length.Given as goal

abbrev pub invariant-loop-count : goal.invariant-loop-count
invariant-loop-count l = l.count + prefix_len (λ file. bytes_eq (first_part file.0) l.label) (drop l.count (shown_from l.skip l.files)) ≡ prefix_len (λ file. bytes_eq (first_part file.0) l.label) (shown_from l.skip l.files)
