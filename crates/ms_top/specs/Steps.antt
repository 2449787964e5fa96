-- Steps of a run: each gives a value, or is refused.
use Rattle.std.specs.Prelude.{◌≡◌, ◌⊎◌, Result, Ok, Err}
use Rattle.ms_base.specs.Outside.{OutsideView}
use Rattle.ms_record.specs.declared.refusal.Refusal.{Refusal}
use Rattle.ms_record.specs.declared.refusal.Refusal.TheVariants as refusals

-- the first step is refused, and so is the whole; or the rest goes on with what the first gave, from where it left the outside
abbrev pub Then : {A B : Type 0} → (OutsideView → OutsideView → Result A Refusal → Type 0) → (A → OutsideView → OutsideView → Result B Refusal → Type 0) → OutsideView → OutsideView → Result B Refusal → Type 0
Then {A} {B} First Rest old new result =
    ((refusal : Refusal) × First old new (Err refusal) × (result ≡ Err refusal))
    ⊎ ((a : A) × (mid : OutsideView) × First old mid (Ok a) × Rest a mid new result)

-- a step that touches nothing outside
abbrev pub Inside : {A : Type 0} → (Result A Refusal → Type 0) → OutsideView → OutsideView → Result A Refusal → Type 0
Inside {A} Says old new result = (new ≡ old) × Says result

-- what is read has a fault, and that is the answer; or the answer is of the value that is read
abbrev pub OfValue : {A B : Type 0} → Result A Refusal → (A → Result B Refusal → Type 0) → Result B Refusal → Type 0
OfValue {A} {B} read Says result =
    ((fault : Refusal) × (read ≡ Err fault) × (result ≡ Err fault))
    ⊎ ((a : A) × (read ≡ Ok a) × Says a result)

-- memory runs out, or this
abbrev pub OrNoMemory : {A : Type 0} → Result A Refusal → Type 0 → Type 0
OrNoMemory result P = (result ≡ Err refusals.NoMemory) ⊎ P

-- memory runs out, as it may, or this
abbrev pub OrLacks : {A : Type 0} → Result A Refusal → Type 0 → Type 0 → Type 0
OrLacks result May P = ((result ≡ Err refusals.NoMemory) × May) ⊎ P
