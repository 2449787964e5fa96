use Rattle.std.proofs.Common.{◌≡◌, ◌<◌, ℕ, take, get_or, None}
use Rattle.ms_tree.specs.Files.{text_at}
use Rattle.ms_tree.proofs.files.Files.is_under.Given as goal

abbrev pub invariant-loop-at : goal.invariant-loop-at
invariant-loop-at l = (k : ℕ) → k < l.at → get_or l.path k 0 ≡ 47 → text_at l.self (take k l.path) ≡ None
