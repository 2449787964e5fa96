use Rattle.std.proofs.Common.{◌≡◌, ◌≤◌, ◌==◌, count_by, take}
use Rattle.std.specs.List.{list_any}
use Rattle.ms_record.specs.Services.{numbers_of}
use Rattle.ms_chain.proofs.line.count_among.Given as goal

abbrev pub invariant-loop-voter : goal.invariant-loop-voter
invariant-loop-voter l = record {
  is : l.count ≡ count_by (λ v. list_any (λ s. s == v) l.failed) (numbers_of (take l.voter-index l.voter-items));
  few : l.count ≤ l.voter-index;
}
