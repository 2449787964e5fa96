use Rattle.std.proofs.Common.{length, ◌-◌, ◌≤◌, ℕ, map, take, drop}
use Rattle.ms_object.specs.declared.format.Format.{Format}
use Rattle.ms_tree.specs.Folders.{IsFolder, shown_from, shown_part}
use Rattle.ms_tree.proofs.Runs.{AreGroups}
use Rattle.ms_tree.proofs.parts.split_parts.Given as goal

abbrev pub invariant-loop-start : goal.invariant-loop-start
invariant-loop-start l = record {
  within : l.start ≤ length l.files;
  groups : (format : Format) (left : ℕ) → IsFolder format left (shown_from l.skip l.files) → AreGroups (shown_from l.skip l.files) (take l.start (shown_from l.skip l.files)) (drop l.start (shown_from l.skip l.files)) (map (shown_part l.skip) l.parts.items);
}

abbrev pub decreases-loop-start : goal.decreases-loop-start
decreases-loop-start l = length l.files - l.start
