-- The greatest floor below which a service dropped.
use Rattle.std.proofs.Common.{◌≡◌, ℕ, ◌≤◌, ◌⊎◌, inl, inr, List, Contains, arith}
use Rattle.ms_record.specs.declared.log.LogEvent.{LogEvent}
use Rattle.ms_record.specs.declared.log.LogEvent.TheVariants.{Drop}
use Rattle.ms_record.specs.Logs.{NoDropAbove}

-- it is the greatest of a log, or 0 where there is none
pub record IsFloor (log : List LogEvent) (floor : ℕ) : Type 0 where
  pub there : (floor ≡ 0) ⊎ Contains log (Drop floor)
  pub greatest : NoDropAbove log floor

-- the log has no drop above a generation exactly where its floor is not above it
pub above_floor : (log : List LogEvent) (floor generation : ℕ) → IsFloor log floor → NoDropAbove log generation → floor ≤ generation
above_floor log floor generation h above = elim h.there [ inl none ↦ omega arith | inr there ↦ above floor there ]

pub none_above : (log : List LogEvent) (floor generation : ℕ) → IsFloor log floor → floor ≤ generation → NoDropAbove log generation
none_above log floor generation h le other there = let low = h.greatest other there in omega arith
