use Rattle.std.proofs.Common.{◌≡◌, ℕ, ◌<◌, false, map}
use Rattle.std.specs.Map.{keys_of}
use Rattle.ms_tree.specs.DraftFiles.{drafted}
use Rattle.ms_tree.specs.Merging.{tagged, is_free}
use Rattle.ms_merge.proofs.naming.first_free.Given as goal

abbrev pub invariant-loop-number : goal.invariant-loop-number
invariant-loop-number l =
    (k : ℕ) → k < l.number → is_free l.sides.base.now l.sides.ours.now l.sides.theirs.now (keys_of (map drafted l.given.order.items)) (tagged l.tag l.path k) ≡ false
