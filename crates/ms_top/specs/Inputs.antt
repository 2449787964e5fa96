-- A command over one input.
use Rattle.std.specs.Prelude.{◌≡◌, ◌⊎◌, ℕ, ◌+◌, ◌≤◌, true, false, List, length, Result, Ok, Err}
use Rattle.ms_base.specs.Counts.{Rose, one_more}
use Rattle.ms_base.specs.Outside.{InputsView, OutsideView, HasText}
use Rattle.ms_base.specs.Reading.{HasLongText}
use Rattle.ms_base.specs.declared.limits.TheConstants.{INPUT_BYTES}
use Rattle.ms_base.specs.declared.names.Quantity.TheVariants as quantities
use Rattle.ms_record.specs.declared.refusal.Place.TheVariants as places
use Rattle.ms_record.specs.declared.refusal.Refusal.{Refusal}
use Rattle.ms_record.specs.declared.refusal.Refusal.TheVariants as refusals
use Rattle.ms_words.specs.declared.report.Report.{Report}
use Rattle.ms_top.specs.Steps.{Then, Inside, OfValue, OrLacks}

-- the text of that name was read to its end
pub record InputIs (name : List ℕ) (old new : InputsView) (text : List ℕ) : Type 0 where
  pub text_of : HasText old name text
  pub short : length text ≤ INPUT_BYTES
  pub ended : new.ended ≡ true
  pub steady : new.faults ≡ old.faults

abbrev pub InputGives : List ℕ → InputsView → InputsView → Result (List ℕ) Refusal → Type 0
InputGives name old new (Ok text) = InputIs name old new text
InputGives name old new (Err refusal) =
    ((refusal ≡ refusals.OutsideFault places.Input) × Rose old.faults new.faults)
    ⊎ (((refusal ≡ refusals.Limit quantities.Input (INPUT_BYTES + 1)) × HasLongText old name INPUT_BYTES × (new.faults ≡ old.faults))
    ⊎ ((refusal ≡ refusals.NoMemory) × (new.ended ≡ false) × (new.faults ≡ old.faults)))

-- an input is read once: the texts stay, and the count of faults does not fall
pub record ReadsInput (name : List ℕ) (old new : OutsideView) (result : Result (List ℕ) Refusal) : Type 0 where
  pub gives : InputGives name old.inputs new.inputs result
  pub texts : new.inputs.texts ≡ old.inputs.texts
  pub reads : new.inputs.reads ≡ one_more old.inputs.reads
  pub later : old.inputs.faults ≤ new.inputs.faults

-- the answer on a text is of the value that it spells; or memory runs out, where it may for this text
abbrev pub TextSays : {A : Type 0} → (List ℕ → Result A Refusal) → (A → Result Report Refusal → Type 0) → (List ℕ → Type 0) → List ℕ → Result Report Refusal → Type 0
TextSays spelled Says MayLack text result = OrLacks result (MayLack text) (OfValue (spelled text) Says result)

-- the input of that name is read, and the answer is of its text
abbrev pub OnInput : (List ℕ → Result Report Refusal → Type 0) → List ℕ → OutsideView → OutsideView → Result Report Refusal → Type 0
OnInput Says name = Then (ReadsInput name) (λ text. Inside (Says text))
