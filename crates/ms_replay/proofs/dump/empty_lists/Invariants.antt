use Rattle.std.proofs.Common.{◌≡◌, [], replicate, vec_len}
use Rattle.ms_replay.proofs.dump.empty_lists.Given as goal

abbrev pub invariant-loop : goal.invariant-loop
invariant-loop l = record {
  empty : l.lists.items ≡ replicate l.counter [];
  count : vec_len l.lists ≡ l.counter;
}
