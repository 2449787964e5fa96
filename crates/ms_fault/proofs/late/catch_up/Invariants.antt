use Rattle.std.proofs.Common.{◌≡◌, ℕ, ◌≤◌, slice_index_or}
use Rattle.ms_fault.specs.declared.late.LateChange.{LateChange}
use Rattle.ms_fault.specs.Late.{waiting}
use Rattle.ms_link.specs.Links.{Stays}
use Rattle.ms_fault.proofs.late.catch_up.Given as goal

-- the changes from the place on are as they were, and the same wait; nobody was asked where all wait
abbrev pub invariant-loop-change : goal.invariant-loop-change
invariant-loop-change g l = ((k : ℕ) (d : LateChange) → l.change-index ≤ k → slice_index_or l.change-items k d ≡ slice_index_or l.fn.late.items k d)
    × (waiting l.call l.change-items ≡ waiting l.call l.fn.late.items)
    × Stays (g.L.Link.sees l.fn.link) (g.L.Link.sees l.link)
    × (waiting l.call l.fn.late.items ≡ l.fn.late.items → g.L.Link.sees l.link ≡ g.L.Link.sees l.fn.link)
