use Rattle.std.proofs.Common.{ℕ, ◌<◌}
use Rattle.ms_bid.specs.Ends.{IsMissing}
use Rattle.ms_bid.proofs.judging.least_missing.Given as goal

abbrev pub invariant-loop-number : goal.invariant-loop-number
invariant-loop-number l = (s : ℕ) → s < l.number → IsMissing l.sought l.sights l.voters l.sent l.failed s → ⊥
