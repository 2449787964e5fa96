use Rattle.std.proofs.Common.{◌≡◌, ◌≤◌, ℕ, count_by, take}
use Rattle.ms_record.specs.Services.{numbers_of}
use Rattle.ms_bid.specs.Shown.{shows, sight_at}
use Rattle.ms_bid.proofs.judging.count_showing.Given as goal

abbrev pub invariant-loop-voter : goal.invariant-loop-voter
invariant-loop-voter l = record {
  is : l.count ≡ count_by (λ (s : ℕ). shows l.sought (sight_at l.sights s)) (numbers_of (take l.voter-index l.voter-items));
  few : l.count ≤ l.voter-index;
}
