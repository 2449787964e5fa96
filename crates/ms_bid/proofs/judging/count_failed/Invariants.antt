use Rattle.std.proofs.Common.{◌≡◌, ◌≤◌, count_by, take}
use Rattle.ms_record.specs.Services.{numbers_of}
use Rattle.ms_bid.specs.Ends.{flag_at}
use Rattle.ms_bid.proofs.judging.count_failed.Given as goal

abbrev pub invariant-loop-voter : goal.invariant-loop-voter
invariant-loop-voter l = record {
  is : l.count ≡ count_by (flag_at l.failed) (numbers_of (take l.voter-index l.voter-items));
  few : l.count ≤ l.voter-index;
}
