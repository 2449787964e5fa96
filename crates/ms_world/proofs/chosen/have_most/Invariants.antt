use Rattle.std.proofs.Common.{◌≤◌}
use Rattle.ms_world.proofs.Majorities.{IsVoteCount}
use Rattle.ms_world.proofs.chosen.have_most.Given as goal

abbrev pub invariant-loop-list : goal.invariant-loop-list
invariant-loop-list l = record {
  few : l.count ≤ l.list-index;
  counted : IsVoteCount l.lists l.vote l.list-index l.count;
}
