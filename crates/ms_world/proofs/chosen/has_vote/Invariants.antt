use Rattle.std.proofs.Common.{◌≡◌, ◌≢◌, ℕ, ◌<◌, Some, slice_get}
use Rattle.ms_record.specs.declared.ballot.Vote.{Vote}
use Rattle.ms_world.proofs.chosen.has_vote.Given as goal

abbrev pub invariant-loop-other : goal.invariant-loop-other
invariant-loop-other l = (i : ℕ) (v : Vote) → i < l.other-index → slice_get l.rest i ≡ Some v → v ≢ l.vote
