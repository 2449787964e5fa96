-- What reading and keeping the state leave, by the answer.
use Rattle.std.specs.Prelude.{◌≡◌, ◌⊎◌, ◌≤◌, ℕ, List, Option, Some, None, Result, Ok, Err, IfSome}
use Rattle.ms_base.specs.Counts.{Rose}
use Rattle.ms_base.specs.declared.limits.TheConstants.{LAST_NUMBER}
use Rattle.ms_base.specs.declared.names.Name.{Name}
use Rattle.ms_base.specs.declared.outside.OutsideError.{OutsideError}
use Rattle.ms_base.specs.declared.outside.OutsideError.TheVariants as errors
use Rattle.ms_local.specs.declared.kept.Kept.{Kept}
use Rattle.ms_record.specs.declared.key.Key.TheVariants.{State, Object}
use Rattle.ms_record.specs.declared.refusal.Place.TheVariants.{Keep}
use Rattle.ms_record.specs.declared.refusal.Refusal.{Refusal}
use Rattle.ms_record.specs.declared.refusal.Refusal.TheVariants.{LocalDamaged, NoMemory, OutsideFault}
use Rattle.ms_local.specs.Outside.{KeeperView, KeptTexts, WhereTold}
use Rattle.ms_local.specs.States.{kept_at}

-- the numbers are in their ranges
pub record HasRanges (kept : Kept) : Type 0 where
  pub round : kept.round ≤ LAST_NUMBER
  pub number : kept.number ≤ LAST_NUMBER
  pub position : kept.base.position ≤ LAST_NUMBER
  pub target : IfSome kept.todo (λ todo. todo.target.position ≤ LAST_NUMBER)

-- the state that a text spells; an absent text spells none
abbrev pub state_of : Option (List ℕ) → Option Kept
state_of None = None
state_of (Some text) = kept_at text

abbrev pub state_in : KeptTexts → Option Kept
state_in texts = state_of (texts State)

-- the kept state; or it is damaged; no other refusal comes
abbrev pub ReadsKept : KeeperView → KeeperView → Result Kept Refusal → Type 0
ReadsKept old new (Ok kept) = WhereTold old.told (state_in old.texts ≡ Some kept)
ReadsKept old new (Err (LocalDamaged key)) = (key ≡ State) × WhereTold old.told (state_in old.texts ≡ None)
ReadsKept old new (Err (OutsideFault Keep)) = Rose old.faults new.faults
ReadsKept old new (Err NoMemory) = Unit {0}
ReadsKept old new (Err error) = ⊥

-- the count of faults is as before after each answer but a failure
abbrev pub IsKeptSteady : {X : Type 0} → ℕ → ℕ → Result X Refusal → Type 0
IsKeptSteady before now (Err (OutsideFault place)) = Unit {0}
IsKeptSteady before now (Err error) = now ≡ before
IsKeptSteady before now (Ok x) = now ≡ before

-- the state is this one, and the objects are as before
pub record HasState (kept : Kept) (old new : KeptTexts) : Type 0 where
  pub state : state_in new ≡ Some kept
  pub objects : (name : Name) → new (Object name) ≡ old (Object name)

-- the texts are as before, or with this state
abbrev pub MayHaveState : Kept → KeptTexts → KeptTexts → Type 0
MayHaveState kept old new = (new ≡ old) ⊎ HasState kept old new

-- the state is kept, and no other refusal comes
abbrev pub WritesKept : Kept → KeeperView → KeeperView → Result Unit Refusal → Type 0
WritesKept kept old new (Ok _) = WhereTold old.told (HasState kept old.texts new.texts)
WritesKept kept old new (Err (OutsideFault Keep)) = Rose old.faults new.faults × WhereTold old.told (MayHaveState kept old.texts new.texts)
WritesKept kept old new (Err NoMemory) = WhereTold old.told (MayHaveState kept old.texts new.texts)
WritesKept kept old new (Err error) = ⊥
