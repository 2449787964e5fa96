use Rattle.std.proofs.Common.{ℕ, [], ◌<◌, get_or, Contains}
use Rattle.ms_world.specs.Passes.{HaveMost}
use Rattle.ms_record.specs.declared.ballot.Vote.{Vote}
use Rattle.ms_world.proofs.chosen.most.Given as goal

abbrev pub invariant-loop-list : goal.invariant-loop-list
invariant-loop-list l = (i : ℕ) (v : Vote) → i < l.list-index → Contains (get_or l.lists i []) v → HaveMost l.lists v → ⊥
