use Rattle.std.proofs.Common.{◌≡◌, ℕ, ◌<◌, [], replicate, Some, slice_get, vec_len}
use Rattle.ms_ken.specs.Known.{known}
use Rattle.ms_ken.specs.Rule.{view}
use Rattle.ms_ken.proofs.board.hand_all.Given as goal

abbrev pub invariant-loop-word : goal.invariant-loop-word
invariant-loop-word g l = record {
  board : l.first.table_id ≡ l.words.table_id;
  left : l.first.me ≡ (view (replicate l.count []) l.word l.count, []);
  count : vec_len l.passes ≡ l.word;
  given : (k : ℕ) → k < l.word → slice_get l.passes.items k ≡ Some (known l.words.table_id (Some k) (replicate l.count []));
}
