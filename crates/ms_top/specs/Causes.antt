-- Why each answer comes, by cases on the report. A row of the table of statuses is a line of `CauseOf`.
use Rattle.std.specs.Prelude.{◌≡◌, ◌⊎◌, ℕ, ◌+◌, List, Option, Some, None, IsSome, Result, Ok, Err}
use Rattle.ms_base.specs.Counts.{Rose}
use Rattle.ms_base.specs.Outside.{OutsideView, HasText}
use Rattle.ms_base.specs.Reading.{HasLongText}
use Rattle.ms_base.specs.declared.limits.TheConstants.{INPUT_BYTES}
use Rattle.ms_base.specs.declared.names.Quantity.{Quantity}
use Rattle.ms_base.specs.declared.names.Quantity.TheVariants as quantities
use Rattle.ms_drill.specs.Drills.{drill_at}
use Rattle.ms_record.specs.declared.refusal.Place.TheVariants as places
use Rattle.ms_record.specs.declared.refusal.Refusal.{Refusal}
use Rattle.ms_record.specs.declared.refusal.Refusal.TheVariants as refusals
use Rattle.ms_tree.specs.Listings.{listing_at}
use Rattle.ms_words.specs.declared.command.Command.{Command}
use Rattle.ms_words.specs.declared.command.Command.TheVariants.{Audit, Drill, Hash}
use Rattle.ms_words.specs.declared.report.Report.{Report}
use Rattle.ms_words.specs.declared.report.Report.TheVariants as reports
use Rattle.ms_top.specs.Audits.{DumpSays, spelled_dump}
use Rattle.ms_top.specs.Drills.{RunSays}
use Rattle.ms_top.specs.Hashes.{FilesSay}

-- the name of a command's input
abbrev pub file_of : Command → List ℕ
file_of (Audit file) = file
file_of (Drill file) = file
file_of (Hash file) = file

-- a text that the command reads has this fault, and no earlier one
abbrev pub HasFault : Command → List ℕ → Refusal → Type 0
HasFault (Audit file) text fault = spelled_dump text ≡ Err fault
HasFault (Drill file) text fault = drill_at text ≡ Err fault
HasFault (Hash file) text fault = listing_at text ≡ Err fault

-- the input of the command that is asked for has this fault
pub record FaultOf (command : Option Command) (old : OutsideView) (fault : Refusal) : Type 0 where
  pub asked : Command
  pub is : command ≡ Some asked
  pub text : List ℕ
  pub text_of : HasText old.inputs (file_of asked) text
  pub fault_is : HasFault asked text fault

-- the input of the command that is asked for is longer than it may be
pub record LongInput (command : Option Command) (old : OutsideView) : Type 0 where
  pub asked : Command
  pub is : command ≡ Some asked
  pub long : HasLongText old.inputs (file_of asked) INPUT_BYTES

-- the input of that command has a text that spells a value, of which this is the answer
pub record HasAnswer {A : Type 0} (command_on : List ℕ → Command) (spelled : List ℕ → Result A Refusal) (Says : A → Result Report Refusal → Type 0) (command : Option Command) (old : OutsideView) (result : Result Report Refusal) : Type 0 where
  pub file : List ℕ
  pub is : command ≡ Some (command_on file)
  pub text : List ℕ
  pub text_of : HasText old.inputs file text
  pub value : A
  pub spells : spelled text ≡ Ok value
  pub says : Says value result

abbrev pub Audited : Option Command → OutsideView → Result Report Refusal → Type 0
Audited = HasAnswer Audit spelled_dump DumpSays

abbrev pub Drilled : Option Command → OutsideView → Result Report Refusal → Type 0
Drilled = HasAnswer Drill drill_at RunSays

abbrev pub Hashed : Option Command → OutsideView → Result Report Refusal → Type 0
Hashed = HasAnswer Hash listing_at FilesSay

abbrev pub CauseOf : Option Command → OutsideView → OutsideView → Report → Type 0
CauseOf command old new (reports.Audit genesis entries) = Audited command old (Ok (reports.Audit genesis entries))
CauseOf command old new (reports.Drill genesis entries known) = Drilled command old (Ok (reports.Drill genesis entries known))
CauseOf command old new (reports.Hash files objects root) = Hashed command old (Ok (reports.Hash files objects root))
CauseOf command old new (reports.Refused refusals.Usage) = command ≡ None
CauseOf command old new (reports.Refused (refusals.BadInput place line)) = (place ≡ places.Input) × FaultOf command old (refusals.BadInput places.Input line)
CauseOf command old new (reports.Refused (refusals.OutsideFault place)) = (place ≡ places.Input) × IsSome command × Rose old.inputs.faults new.inputs.faults
CauseOf command old new (reports.Refused refusals.NoMemory) = IsSome command
CauseOf command old new (reports.Refused (refusals.Split position first second)) = Audited command old (Err (refusals.Split position first second))
CauseOf command old new (reports.Refused (refusals.Limit what value)) = ((what ≡ quantities.Input) × (value ≡ INPUT_BYTES + 1) × LongInput command old) ⊎ (FaultOf command old (refusals.Limit what value) ⊎ Hashed command old (Err (refusals.Limit what value)))
CauseOf command old new (reports.Refused (refusals.NotEnabled number why)) = Drilled command old (Err (refusals.NotEnabled number why))
CauseOf command old new (reports.Refused refusal) = ⊥
