use Rattle.std.proofs.Common.{◌+◌, ◌*◌}
use Rattle.ms_object.specs.Stores.{text_of}
use Rattle.ms_tree.specs.Folders.{shown_from}
use Rattle.ms_tree.proofs.Below.{ArePlanted}
use Rattle.ms_tree.proofs.planting.+planting.Given as goal

abbrev pub decreases-plant_dir : goal.decreases-plant_dir
decreases-plant_dir l = 2 * l.left

abbrev pub decreases-plant_part : goal.decreases-plant_part
decreases-plant_part l = 2 * l.left + 1

abbrev pub invariant-plant_dir-loop-part : goal.invariant-plant_dir-loop-part
invariant-plant_dir-loop-part l = ArePlanted l.format l.left (shown_from l.skip l.files) l.part-index l.rows (text_of l.initial.store) (text_of l.store)
