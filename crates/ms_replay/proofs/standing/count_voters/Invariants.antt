use Rattle.std.proofs.Common.{◌≡◌, ◌≤◌, count_by, take}
use Rattle.ms_record.specs.Services.{numbers_of}
use Rattle.ms_replay.specs.Winners.{has_voted}
use Rattle.ms_replay.proofs.standing.count_voters.Given as goal

abbrev pub invariant-loop-voter : goal.invariant-loop-voter
invariant-loop-voter l = record {
  is : l.count ≡ count_by (has_voted l.group) (numbers_of (take l.voter-index l.voter-items));
  few : l.count ≤ l.voter-index;
}
