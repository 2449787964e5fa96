-- What an answer that was told leaves.
use Rattle.std.proofs.Common.{◌≡◌, ◌≢◌, ℕ, ◌<◌, List, Option, Some, None, IsSome, Result, Ok, Err, ◌⊎◌, inl, inr, refl, sym, ap, ◌∙◌, subst, arith}
use Rattle.ms_base.specs.Counts.{Rose, one_more}
use Rattle.ms_base.specs.Outside.{InputsView, OutsideView, SinkView}
use Rattle.ms_record.specs.declared.refusal.Place.TheVariants as places
use Rattle.ms_record.specs.declared.refusal.Refusal.{Refusal}
use Rattle.ms_record.specs.declared.refusal.Refusal.TheVariants as refusals
use Rattle.ms_words.specs.declared.command.Command.{Command}
use Rattle.ms_words.specs.declared.command.Command.TheVariants.{Audit, Drill, Hash}
use Rattle.ms_words.specs.declared.report.Report.{Report}
use Rattle.ms_words.specs.declared.report.Report.TheVariants as reports
use Rattle.ms_words.specs.Texts.{status_of}
use Rattle.ms_top.specs.Answers.{Answers, ByCommand, Carries, ReadsOnce}
use Rattle.ms_top.specs.Audits.{AuditSays}
use Rattle.ms_top.specs.Causes.{CauseOf}
use Rattle.ms_top.specs.Drills.{DrillSays}
use Rattle.ms_top.specs.Hashes.{HashSays}
use Rattle.ms_top.specs.Inputs.{InputGives, OnInput}
use Rattle.ms_top.specs.Runs.{Runs}
use Rattle.ms_top.specs.Steps.{Then}
use Rattle.ms_top.specs.Telling.{GoesOn, NeedsMemory, SinkGoesOn, Tells, TellsOrNoMemory, report_of}
use Rattle.ms_top.specs.Verbs.{VerbSays}
use Rattle.ms_words.specs.Commands.{command_with}
use Rattle.ms_words.specs.declared.command.Verb.{Verb}
use Rattle.ms_words.specs.declared.command.Verb.TheVariants as verbs
use Rattle.ms_top.proofs.CauseLaws.{cause_of}

-- ---- the next run may come

stays : (old new : OutsideView) → new ≡ old → GoesOn old new
stays old new same = subst (GoesOn old) (sym same) (record { texts = refl; later = omega arith })

on_then : (old mid new : OutsideView) → GoesOn old mid → GoesOn mid new → GoesOn old new
on_then old mid new a b = record { texts = b.texts ∙ a.texts; later = omega (arith, a.later, b.later) }

-- a step of two parts: each leaves what the next one needs
then_on : {A B : Type 0} (First : OutsideView → OutsideView → Result A Refusal → Type 0) (Rest : A → OutsideView → OutsideView → Result B Refusal → Type 0) (old new : OutsideView) (result : Result B Refusal)
    → ((mid : OutsideView) (r : Result A Refusal) → First old mid r → GoesOn old mid)
    → ((a : A) (mid : OutsideView) → Rest a mid new result → GoesOn mid new)
    → Then First Rest old new result → GoesOn old new
then_on First Rest old new result first rest (inl h) = first new (Err h.0) h.1
then_on First Rest old new result first rest (inr h) = on_then old h.1 new (first h.1 (Ok h.0) h.2) (rest h.0 h.1 h.3)

input_on : (Says : List ℕ → Result Report Refusal → Type 0) (file : List ℕ) (old new : OutsideView) (result : Result Report Refusal) → OnInput Says file old new result → GoesOn old new
input_on Says file old new result (inl h) = record { texts = h.1.texts; later = h.1.later }
input_on Says file old new result (inr h) = on_then old h.1 new (record { texts = h.2.texts; later = h.2.later }) (stays h.1 new h.3.0)

command_on : (asked : Option Command) (old new : OutsideView) (result : Result Report Refusal) → ByCommand asked old new result → GoesOn old new
command_on None old new result h = stays old new h.0
command_on (Some (Audit file)) old new result h = input_on AuditSays file old new result h
command_on (Some (Drill file)) old new result h = input_on DrillSays file old new result h
command_on (Some (Hash file)) old new result h = input_on HashSays file old new result h

-- ---- an input is read once

input_once : (Says : List ℕ → Result Report Refusal → Type 0) (file : List ℕ) (old new : OutsideView) (result : Result Report Refusal) → OnInput Says file old new result
    → new.inputs.reads ≡ one_more old.inputs.reads
input_once Says file old new result (inl h) = h.1.reads
input_once Says file old new result (inr h) = ap (λ (v : OutsideView). v.inputs.reads) h.3.0 ∙ h.2.reads

once : (command : Command) (old new : OutsideView) (result : Result Report Refusal) → new.inputs.reads ≡ one_more old.inputs.reads → ReadsOnce (Some command) old new result
once command old new (Ok report) h = h
once command old new (Err refusals.Usage) h = h
once command old new (Err (refusals.BadInput place line)) h = h
once command old new (Err (refusals.OutsideFault place)) h = h
once command old new (Err refusals.NoMemory) h = inr h
once command old new (Err (refusals.Split position first second)) h = h
once command old new (Err (refusals.Limit what value)) h = h
once command old new (Err (refusals.NotEnabled number why)) h = h
once command old new (Err (refusals.NoMajority failed)) h = h
once command old new (Err (refusals.Contended rivals)) h = h
once command old new (Err (refusals.Unlisted service ballot)) h = h
once command old new (Err (refusals.LostObject name rows)) h = h
once command old new (Err (refusals.LocalDamaged key)) h = h
once command old new (Err (refusals.Collected floor)) h = h
once command old new (Err (refusals.TooFew name failed)) h = h
once command old new (Err (refusals.Broken name)) h = h

command_once : (asked : Option Command) (old new : OutsideView) (result : Result Report Refusal) → ByCommand asked old new result → ReadsOnce asked old new result
command_once None old new result h = ap (λ (v : OutsideView). v.inputs.reads) h.0
command_once (Some (Audit file)) old new result h = once (Audit file) old new result (input_once AuditSays file old new result h)
command_once (Some (Drill file)) old new result h = once (Drill file) old new result (input_once DrillSays file old new result h)
command_once (Some (Hash file)) old new result h = once (Hash file) old new result (input_once HashSays file old new result h)

-- memory ran out before the reading
unread : (asked : Option Command) (old new : OutsideView) (result : Result Report Refusal) → result ≡ Err refusals.NoMemory → new ≡ old → ReadsOnce asked old new result
unread None old new result is same = ap (λ (v : OutsideView). v.inputs.reads) same
unread (Some command) old new result is same = subst (ReadsOnce (Some command) old new) (sym is) (inl (ap (λ (v : OutsideView). v.inputs.reads) same))

-- memory ran out for telling the answer
untold : (asked : Option Command) (old new : OutsideView) (result : Result Report Refusal) → ReadsOnce asked old new result → ReadsOnce asked old new (Err refusals.NoMemory)
untold None old new result h = h
untold (Some command) old new (Ok report) h = inr h
untold (Some command) old new (Err refusals.Usage) h = inr h
untold (Some command) old new (Err (refusals.BadInput place line)) h = inr h
untold (Some command) old new (Err (refusals.OutsideFault place)) h = inr h
untold (Some command) old new (Err refusals.NoMemory) h = h
untold (Some command) old new (Err (refusals.Split position first second)) h = inr h
untold (Some command) old new (Err (refusals.Limit what value)) h = inr h
untold (Some command) old new (Err (refusals.NotEnabled number why)) h = inr h
untold (Some command) old new (Err (refusals.NoMajority failed)) h = inr h
untold (Some command) old new (Err (refusals.Contended rivals)) h = inr h
untold (Some command) old new (Err (refusals.Unlisted service ballot)) h = inr h
untold (Some command) old new (Err (refusals.LostObject name rows)) h = inr h
untold (Some command) old new (Err (refusals.LocalDamaged key)) h = inr h
untold (Some command) old new (Err (refusals.Collected floor)) h = inr h
untold (Some command) old new (Err (refusals.TooFew name failed)) h = inr h
untold (Some command) old new (Err (refusals.Broken name)) h = inr h

-- ---- a fault has its count

-- the input failed
abbrev IsFault : Result Report Refusal → Type 0
IsFault result = result ≡ Err (refusals.OutsideFault places.Input)

refused_rises : (file : List ℕ) (old new : InputsView) (refusal : Refusal) → InputGives file old new (Err refusal) → old.faults < new.faults → IsFault (Err refusal)
refused_rises file old new refusal (inl h) rises = ap (λ (r : Refusal). Err r) h.0
refused_rises file old new refusal (inr (inl h)) rises = let same = h.2 in absurd (omega (arith, same, rises))
refused_rises file old new refusal (inr (inr h)) rises = let same = h.2 in absurd (omega (arith, same, rises))

-- the count of the inputs rises with a fault alone
input_rises : (Says : List ℕ → Result Report Refusal → Type 0) (file : List ℕ) (old new : OutsideView) (result : Result Report Refusal) → OnInput Says file old new result
    → old.inputs.faults < new.inputs.faults → IsFault result
input_rises Says file old new result (inl h) rises = h.2 ∙ refused_rises file old.inputs new.inputs h.0 h.1.gives rises
input_rises Says file old new result (inr h) rises =
    let same : h.1.inputs.faults ≡ old.inputs.faults = h.2.gives.steady in
    let end : new.inputs.faults ≡ h.1.inputs.faults = ap (λ (v : OutsideView). v.inputs.faults) h.3.0 in
    absurd (omega (arith, same, end, rises))

command_rises : (asked : Option Command) (old new : OutsideView) (result : Result Report Refusal) → ByCommand asked old new result → old.inputs.faults < new.inputs.faults → IsFault result
command_rises None old new result h rises = let same : new.inputs.faults ≡ old.inputs.faults = ap (λ (v : OutsideView). v.inputs.faults) h.0 in absurd (omega (arith, same, rises))
command_rises (Some (Audit file)) old new result h rises = input_rises AuditSays file old new result h rises
command_rises (Some (Drill file)) old new result h rises = input_rises DrillSays file old new result h rises
command_rises (Some (Hash file)) old new result h rises = input_rises HashSays file old new result h rises

module _ (command : Option Command) (old new : OutsideView) where
  rose : (report : Report) → CauseOf command old new report → status_of report ≡ 3 → Rose old.inputs.faults new.inputs.faults
  rose (reports.Audit genesis entries) c e = absurd (omega (arith, e))
  rose (reports.Drill genesis entries known) c e = absurd (omega (arith, e))
  rose (reports.Hash files objects root) c e = absurd (omega (arith, e))
  rose (reports.Refused refusals.Usage) c e = absurd (omega (arith, e))
  rose (reports.Refused (refusals.BadInput place line)) c e = absurd (omega (arith, e))
  rose (reports.Refused (refusals.OutsideFault place)) c e = c.2
  rose (reports.Refused refusals.NoMemory) c e = absurd (omega (arith, e))
  rose (reports.Refused (refusals.Split position first second)) c e = absurd (omega (arith, e))
  rose (reports.Refused (refusals.Limit what value)) c e = absurd (omega (arith, e))
  rose (reports.Refused (refusals.NotEnabled number why)) c e = absurd (omega (arith, e))
  rose (reports.Refused (refusals.NoMajority failed)) c e = absurd c
  rose (reports.Refused (refusals.Contended rivals)) c e = absurd c
  rose (reports.Refused (refusals.Unlisted service ballot)) c e = absurd c
  rose (reports.Refused (refusals.LostObject name rows)) c e = absurd c
  rose (reports.Refused (refusals.LocalDamaged key)) c e = absurd c
  rose (reports.Refused (refusals.Collected floor)) c e = absurd c
  rose (reports.Refused (refusals.TooFew name failed)) c e = absurd c
  rose (reports.Refused (refusals.Broken name)) c e = absurd c

  caused : (report : Report) (before after : SinkView) (status : ℕ) → CauseOf command old new report → Tells report before after status → status ≡ 3
      → Rose old.inputs.faults new.inputs.faults ⊎ Rose before.faults after.faults
  caused report before after status cause (inl t) e = inl (rose report cause (sym t.0 ∙ e))
  caused report before after status cause (inr t) e = inr t.1.rose

  by_sink : (report : Report) (before after : SinkView) (status : ℕ) → Tells report before after status → before.faults < after.faults → status ≡ 3
  by_sink report before after status (inl t) rises = let same = t.1.steady in absurd (omega (arith, same, rises))
  by_sink report before after status (inr t) rises = t.0

  by_inputs : (result : Result Report Refusal) (before after : SinkView) (status : ℕ) → Tells (report_of result) before after status → IsFault result → status ≡ 3
  by_inputs result before after status (inl t) fault = t.0 ∙ ap (λ (r : Result Report Refusal). status_of (report_of r)) fault
  by_inputs result before after status (inr t) fault = t.0

  -- an answer that was told, where the count of the inputs rose with a fault alone
  told : (result : Result Report Refusal) (before after : SinkView) (status : ℕ) → ReadsOnce command old new result → GoesOn old new → (old.inputs.faults < new.inputs.faults → IsFault result) → Answers command old new result
      → Tells (report_of result) before after status → SinkGoesOn before after → Runs command old new before after status
  told result before after status reads goes_on rises answers tells sink =
      let cause = cause_of command old new result answers in
      record {
        result = result;
        answers = answers;
        reads = reads;
        cause = cause;
        tells = tells;
        goes_on = goes_on;
        sink = sink;
        faulted = record {
          caused = caused (report_of result) before after status cause tells;
          by_sink = by_sink (report_of result) before after status tells;
          by_inputs = λ r. by_inputs result before after status tells (rises r);
        };
      }

  -- an answer, or that memory ran out for its lines, is told
  runs : (result : Result Report Refusal) (before after : SinkView) (status : ℕ) → ReadsOnce command old new result → GoesOn old new → (old.inputs.faults < new.inputs.faults → IsFault result) → Carries command old new result
      → TellsOrNoMemory (report_of result) before after status → SinkGoesOn before after → Runs command old new before after status
  runs result before after status reads goes_on rises carries (inl tells) sink = told result before after status reads goes_on rises (inr carries) tells sink
  runs result before after status reads goes_on rises carries (inr tells) sink =
      told (Err refusals.NoMemory) before after status (untold command old new result reads) goes_on
      (λ r. absurd (subst (λ (x : Result Report Refusal). NeedsMemory (report_of x)) (rises r) tells.0)) (by carries) tells.1 sink
    where
      by : Carries command old new result → Answers command old new (Err refusals.NoMemory)
      by (inl h) = inr (inl (h.0, refl, h.2))
      by (inr h) = inl (record { answer = result; by_command = h; needs = tells.0; none_left = refl })

pub runs_carried : (command : Option Command) (old new : OutsideView) (result : Result Report Refusal) (before after : SinkView) (status : ℕ) → Carries command old new result → TellsOrNoMemory (report_of result) before after status
    → SinkGoesOn before after → Runs command old new before after status
runs_carried command old new result before after status (inl h) tells sink =
    runs command old new result before after status (unread command old new result h.1 h.2) (stays old new h.2)
    (λ rises. let same : new.inputs.faults ≡ old.inputs.faults = ap (λ (v : OutsideView). v.inputs.faults) h.2 in absurd (omega (arith, same, rises))) (inl h) tells sink
runs_carried command old new result before after status (inr by) tells sink =
    runs command old new result before after status (command_once command old new result by) (command_on command old new result by) (command_rises command old new result by) (inr by) tells sink

pub judged : (verb : Verb) (name : List ℕ) (old new : OutsideView) (result : Result Report Refusal) → OnInput (VerbSays verb) name old new result → Carries (Some (command_with verb name)) old new result
judged verbs.Audit name old new result h = inr h
judged verbs.Drill name old new result h = inr h
judged verbs.Hash name old new result h = inr h
