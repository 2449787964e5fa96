use Rattle.std.proofs.Common.{◌≡◌, ℕ, ◌<◌, ◌≤◌, true}
use Rattle.std.specs.Prelude.{Contains}
use Rattle.ms_bid.specs.Ends.{flag_at}
use Rattle.ms_bid.proofs.judging.next_free.Given as goal

abbrev pub invariant-loop-number : goal.invariant-loop-number
invariant-loop-number l = (s : ℕ) → l.from ≤ s → s < l.number → Contains l.voters s → flag_at l.failed s ≡ true
