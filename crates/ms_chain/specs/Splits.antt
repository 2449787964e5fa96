-- What stands behind a chain by what it has read, and where it is split.
use Rattle.std.specs.Prelude.{◌≡◌, ℕ, ◌+◌, ◌<◌, ◌≤◌, List, Option, Some, None, Result, Ok, Err, length}
use Rattle.ms_base.specs.declared.limits.TheConstants.{LAST_NUMBER}
use Rattle.ms_chain.specs.Lines.{LineView}
use Rattle.ms_chain.specs.declared.split.Next.{Next}
use Rattle.ms_chain.specs.declared.split.Next.TheVariants.{Member, Two, End}
use Rattle.ms_chain.specs.declared.split.Split.{Split}
use Rattle.ms_local.specs.Learning.{ChainView, IsNextRead, IsSeen, IsSplit, IsWhole, LacksMajority}
use Rattle.ms_local.specs.declared.learner.Learnt.{Learnt}
use Rattle.ms_record.specs.declared.refusal.Refusal.{Refusal}
use Rattle.ms_record.specs.declared.refusal.Refusal.TheVariants as refusals

-- the chain of a line that has read these lists
abbrev pub chain_of : LineView → List (List (List ℕ)) → ChainView
chain_of line lists = record { setting = line.setting; members = line.members; lists = lists }

-- the chain is split there
abbrev pub SplitsAt : ChainView → ℕ → Type 0
SplitsAt chain position = (first second : List ℕ) × IsSplit chain position first second

abbrev pub IsSplitOf : ChainView → Split → Type 0
IsSplitOf chain split = IsSplit chain split.position split.first.0 split.second.0

-- the split that is known: none where no position up to the end is split
abbrev pub SplitIs : ChainView → Option Split → Type 0
SplitIs chain None = (k : ℕ) → k ≤ length chain.members → SplitsAt chain k → ⊥
SplitIs chain (Some split) = IsSplitOf chain split

-- the split behind the end: none where that position is not split
abbrev pub BehindIs : ChainView → Option Split → Type 0
BehindIs chain None = SplitsAt chain (length chain.members + 1) → ⊥
BehindIs chain (Some split) = IsSplitOf chain split × (split.position ≡ length chain.members + 1)

-- the one entry that is chosen behind the end, where it links on and there is room; a split there; or neither
abbrev pub IsNextOf : ChainView → Next → Type 0
IsNextOf chain (Member entry) = (length chain.members < LAST_NUMBER) × IsNextRead chain chain.members entry
IsNextOf chain (Two split) = IsWhole chain × BehindIs chain (Some split)
IsNextOf chain End = IsWhole chain × BehindIs chain None

-- what a chain answers behind its readings, where these services failed
abbrev pub AnswersOf : ChainView → List ℕ → Result Learnt Refusal → Type 0
AnswersOf chain failed (Ok learnt) =
    (LacksMajority chain failed → ⊥) × ((position : ℕ) (first second : List ℕ) → IsSplit chain position first second → ⊥) × (learnt.end ≡ length chain.members) × IsSeen chain learnt.seen
AnswersOf chain failed (Err (refusals.NoMajority services)) = (services ≡ failed) × LacksMajority chain failed
AnswersOf chain failed (Err (refusals.Split position first second)) = (LacksMajority chain failed → ⊥) × IsSplit chain position first.0 second.0
AnswersOf chain failed (Err refusal) = ⊥
