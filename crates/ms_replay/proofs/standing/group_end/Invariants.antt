use Rattle.std.proofs.Common.{◌≡◌, ℕ, ◌-◌, ◌<◌, ◌≤◌, Some, slice_get, length}
use Rattle.ms_replay.specs.declared.voted.Voted.{Voted}
use Rattle.ms_replay.proofs.standing.group_end.Given as goal

abbrev pub invariant-loop-to : goal.invariant-loop-to
invariant-loop-to l = record {
  some : l.from < l.to;
  within : l.to ≤ length l.part;
  same : (i : ℕ) (v w : Voted) → l.from ≤ i → i < l.to → slice_get l.part i ≡ Some v → slice_get l.part l.from ≡ Some w → v.text ≡ w.text;
}

abbrev pub decreases-loop-to : goal.decreases-loop-to
decreases-loop-to l = length l.part - l.to
