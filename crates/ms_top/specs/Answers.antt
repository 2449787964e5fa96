-- What a command answers; none is asked for where the words are outside the grammar. A command adds one line to `ByCommand`.
use Rattle.std.specs.Prelude.{◌≡◌, ◌⊎◌, Option, Some, None, IsSome, Result, Err}
use Rattle.ms_base.specs.Counts.{one_more}
use Rattle.ms_base.specs.Outside.{OutsideView}
use Rattle.ms_record.specs.declared.refusal.Refusal.{Refusal}
use Rattle.ms_record.specs.declared.refusal.Refusal.TheVariants as refusals
use Rattle.ms_words.specs.declared.command.Command.{Command}
use Rattle.ms_words.specs.declared.command.Command.TheVariants.{Audit, Drill, Hash}
use Rattle.ms_words.specs.declared.report.Report.{Report}
use Rattle.ms_top.specs.Inputs.{OnInput}
use Rattle.ms_top.specs.Audits.{AuditSays}
use Rattle.ms_top.specs.Drills.{DrillSays}
use Rattle.ms_top.specs.Hashes.{HashSays}
use Rattle.ms_top.specs.Telling.{NeedsMemory, report_of}

-- words that are no command touch nothing
abbrev pub ByCommand : Option Command → OutsideView → OutsideView → Result Report Refusal → Type 0
ByCommand None old new result = (new ≡ old) × (result ≡ Err refusals.Usage)
ByCommand (Some (Audit file)) old new result = OnInput AuditSays file old new result
ByCommand (Some (Drill file)) old new result = OnInput DrillSays file old new result
ByCommand (Some (Hash file)) old new result = OnInput HashSays file old new result

-- memory runs out for the words of a command, and nothing is touched; or the command is answered
abbrev pub Carries : Option Command → OutsideView → OutsideView → Result Report Refusal → Type 0
Carries command old new result = (IsSome command × (result ≡ Err refusals.NoMemory) × (new ≡ old)) ⊎ ByCommand command old new result

-- the command has an answer, and memory runs out for telling it
pub record Untold (command : Option Command) (old new : OutsideView) (result : Result Report Refusal) : Type 0 where
  pub answer : Result Report Refusal
  pub by_command : ByCommand command old new answer
  pub needs : NeedsMemory (report_of answer)
  pub none_left : result ≡ Err refusals.NoMemory

-- memory runs out for the words or for telling the answer, or the command is answered
abbrev pub Answers : Option Command → OutsideView → OutsideView → Result Report Refusal → Type 0
Answers command old new result = Untold command old new result ⊎ Carries command old new result

-- wrong words read nothing, and a command reads its input once; memory may run out before that
abbrev pub ReadsOnce : Option Command → OutsideView → OutsideView → Result Report Refusal → Type 0
ReadsOnce None old new result = new.inputs.reads ≡ old.inputs.reads
ReadsOnce (Some command) old new (Err refusals.NoMemory) = (new.inputs.reads ≡ old.inputs.reads) ⊎ (new.inputs.reads ≡ one_more old.inputs.reads)
ReadsOnce (Some command) old new result = new.inputs.reads ≡ one_more old.inputs.reads
