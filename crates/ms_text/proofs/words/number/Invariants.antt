use Rattle.std.proofs.Common.{◌≡◌, ◌≤◌, drop}
use Rattle.ms_text.specs.Words.{digits_on}
use Rattle.ms_text.proofs.words.number.Given as goal

abbrev pub invariant-loop-b : goal.invariant-loop-b
invariant-loop-b l = record {
  same : digits_on l.most l.n (drop l.b-index l.word) ≡ digits_on l.most 0 l.word;
  capped : l.n ≤ l.most;
}
