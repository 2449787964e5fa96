-- How an answer is told: its lines go to the sink, and its status is answered.
use Rattle.std.specs.Prelude.{◌≡◌, ℕ, ◌<◌, ◌≤◌, List, length, take, ◌⊎◌, Result, Ok, Err}
use Rattle.std.specs.Io.KnownBytes.{Appends}
use Rattle.ms_base.specs.Counts.{Rose}
use Rattle.ms_base.specs.Outside.{OutsideView, SinkView, StaysTold}
use Rattle.ms_record.specs.declared.refusal.Refusal.{Refusal}
use Rattle.ms_record.specs.declared.refusal.Refusal.TheVariants as refusals
use Rattle.ms_words.specs.declared.report.Report.{Report}
use Rattle.ms_words.specs.declared.report.Report.TheVariants as reports
use Rattle.ms_words.specs.Texts.{HasManyLines, status_of, text_of}

-- the report that tells an answer
abbrev pub report_of : Result Report Refusal → Report
report_of (Ok report) = report
report_of (Err refusal) = reports.Refused refusal

-- the sink failed, and a front of the lines was written
pub record SinkFails (lines : List ℕ) (before after : SinkView) : Type 0 where
  pub rose : Rose before.faults after.faults
  pub count : ℕ
  pub within : count ≤ length lines
  pub front : Appends before.contents after.contents (take count lines)

-- all of the report's lines were written
pub record Writes (report : Report) (before after : SinkView) : Type 0 where
  pub lines : Appends before.contents after.contents (text_of report)
  pub steady : after.faults ≡ before.faults

-- the report's lines and its status; or the sink failed
abbrev pub Tells : Report → SinkView → SinkView → ℕ → Type 0
Tells report before after status =
    ((status ≡ status_of report) × Writes report before after)
    ⊎ ((status ≡ 3) × SinkFails (text_of report) before after)

abbrev pub no_memory : Report
no_memory = reports.Refused refusals.NoMemory

-- the report is told, or that memory ran out for its lines
abbrev pub PrintsOrNoMemory : Report → SinkView → SinkView → ℕ → Type 0
PrintsOrNoMemory report before after status = Tells report before after status ⊎ Tells no_memory before after status

-- its lines are told with memory: those of a command's answer, and of a refusal that has many
abbrev pub NeedsMemory : Report → Type 0
NeedsMemory (reports.Refused refusal) = HasManyLines refusal
NeedsMemory report = Unit {0}

-- the same; memory runs out for no report that is told without
abbrev pub TellsOrNoMemory : Report → SinkView → SinkView → ℕ → Type 0
TellsOrNoMemory report before after status = Tells report before after status ⊎ (NeedsMemory report × Tells no_memory before after status)

-- the texts of the inputs stay, and no count falls: the next run may come
pub record GoesOn (old new : OutsideView) : Type 0 where
  pub texts : new.inputs.texts ≡ old.inputs.texts
  pub later : old.inputs.faults ≤ new.inputs.faults

-- what the sink tells it goes on telling, and its count does not fall
pub record SinkGoesOn (before after : SinkView) : Type 0 where
  pub told : StaysTold before.contents after.contents
  pub later : before.faults ≤ after.faults

-- status 3 comes exactly where a count rose, as far as it can
pub record Faulted (old new : OutsideView) (before after : SinkView) (status : ℕ) : Type 0 where
  pub caused : status ≡ 3 → Rose old.inputs.faults new.inputs.faults ⊎ Rose before.faults after.faults
  pub by_sink : before.faults < after.faults → status ≡ 3
  pub by_inputs : old.inputs.faults < new.inputs.faults → status ≡ 3
