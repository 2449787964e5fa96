-- What a run says.
use Rattle.std.specs.Prelude.{Option, ℕ, Result}
use Rattle.ms_base.specs.Outside.{OutsideView, SinkView}
use Rattle.ms_record.specs.declared.refusal.Refusal.{Refusal}
use Rattle.ms_words.specs.declared.command.Command.{Command}
use Rattle.ms_words.specs.declared.report.Report.{Report}
use Rattle.ms_top.specs.Answers.{Answers, ReadsOnce}
use Rattle.ms_top.specs.Causes.{CauseOf}
use Rattle.ms_top.specs.Telling.{Faulted, GoesOn, SinkGoesOn, Tells, report_of}

-- a command, or none, is answered, and the answer is told
pub record Runs (command : Option Command) (old new : OutsideView) (before after : SinkView) (status : ℕ) : Type 0 where
  pub result : Result Report Refusal
  pub answers : Answers command old new result
  pub reads : ReadsOnce command old new result
  pub cause : CauseOf command old new (report_of result)
  pub tells : Tells (report_of result) before after status
  pub goes_on : GoesOn old new
  pub sink : SinkGoesOn before after
  pub faulted : Faulted old new before after status
