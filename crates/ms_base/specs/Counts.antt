-- Counts of calls and of faults: they never fall, and stand still at their type's end.
use Rattle.std.specs.Prelude.{ℕ, ◌+◌, ◌-◌, ◌^◌, ◌≤◌, min}

-- one more, as far as the type goes
abbrev pub one_more : ℕ → ℕ
one_more n = min (n + 1) (2 ^ 64 - 1)

-- the count rose, as far as it can
abbrev pub Rose : ℕ → ℕ → Type 0
Rose before now = one_more before ≤ now

-- the count does not fall, and a failure comes only where it rose
pub record Causes (fails : Type 0) (before now : ℕ) : Type 0 where
  pub later : before ≤ now
  pub rose : fails → Rose before now
