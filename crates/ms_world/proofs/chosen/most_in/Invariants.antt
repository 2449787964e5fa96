use Rattle.std.proofs.Common.{◌≡◌, ℕ, ◌<◌, Some, slice_get}
use Rattle.ms_world.specs.Passes.{HaveMost}
use Rattle.ms_record.specs.declared.ballot.Vote.{Vote}
use Rattle.ms_world.proofs.chosen.most_in.Given as goal

abbrev pub invariant-loop-vote : goal.invariant-loop-vote
invariant-loop-vote l = (i : ℕ) (v : Vote) → i < l.vote-index → slice_get l.list i ≡ Some v → HaveMost l.lists v → ⊥
