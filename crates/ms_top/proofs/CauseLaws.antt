-- Each answer has its cause.
use Rattle.std.proofs.Common.{◌≡◌, ℕ, List, Option, Some, None, IsSome, Result, Ok, Err, inl, inr, refl, sym, ap, subst}
use Rattle.ms_base.specs.Outside.{OutsideView, HasText}
use Rattle.ms_drill.specs.Drills.{drill_at}
use Rattle.ms_record.specs.declared.refusal.Refusal.{Refusal}
use Rattle.ms_replay.specs.declared.audit.Audit.{Audit as Audit_}
use Rattle.ms_replay.specs.declared.audit.Audit.TheVariants as audits
use Rattle.ms_tree.specs.Listings.{listing_at}
use Rattle.ms_words.specs.declared.command.Command.{Command}
use Rattle.ms_words.specs.declared.command.Command.TheVariants.{Audit, Drill, Hash}
use Rattle.ms_words.specs.declared.report.Report.{Report}
use Rattle.ms_words.specs.declared.report.Report.TheVariants as reports
use Rattle.ms_top.specs.Answers.{Answers, ByCommand}
use Rattle.ms_top.specs.Audits.{DumpSays, MayLackDump, spelled_dump, told_audit}
use Rattle.ms_top.specs.Causes.{CauseOf, FaultOf, HasFault, Audited, Drilled, Hashed, file_of}
use Rattle.ms_top.specs.Drills.{MayLackDrill, RunSays}
use Rattle.ms_top.specs.Hashes.{FilesSay, MayLackListing}
use Rattle.ms_top.specs.Inputs.{InputGives, OnInput, TextSays}
use Rattle.ms_top.specs.Telling.{NeedsMemory, report_of}
use Rattle.ms_top.proofs.TextFaults.{IsTextFault, dump_is, drill_is, listing_is}

is_some_of : {A : Type 0} (o : Option A) (a : A) → o ≡ Some a → IsSome o
is_some_of o a e = subst (λ x. IsSome x) (sym e) refl

module _ (command : Option Command) (old : OutsideView) where
  moved : (new : OutsideView) (result other : Result Report Refusal) → result ≡ other → CauseOf command old new (report_of other) → CauseOf command old new (report_of result)
  moved new result other e h = subst (λ (r : Result Report Refusal). CauseOf command old new (report_of r)) (sym e) h

  by_refusal : (new : OutsideView) (refusal other : Refusal) → refusal ≡ other → CauseOf command old new (reports.Refused other) → CauseOf command old new (reports.Refused refusal)
  by_refusal new refusal other e h = subst (λ (r : Refusal). CauseOf command old new (reports.Refused r)) (sym e) h

  input_cause : (asked : Command) (new : OutsideView) (refusal : Refusal) → command ≡ Some asked → InputGives (file_of asked) old.inputs new.inputs (Err refusal) → CauseOf command old new (reports.Refused refusal)
  input_cause asked new refusal q (inl h) = by_refusal new refusal _ h.0 (refl, is_some_of command asked q, h.1)
  input_cause asked new refusal q (inr (inl h)) = by_refusal new refusal _ h.0 (inl (refl, refl, record { asked = asked; is = q; long = h.1 }))
  input_cause asked new refusal q (inr (inr h)) = by_refusal new refusal _ h.0 (is_some_of command asked q)

  fault_cause : (new : OutsideView) (fault : Refusal) → FaultOf command old fault → IsTextFault fault → CauseOf command old new (reports.Refused fault)
  fault_cause new fault of (inl h) = by_refusal new fault _ h.1 (refl, subst (λ (f : Refusal). FaultOf command old f) h.1 of)
  fault_cause new fault of (inr h) = by_refusal new fault _ h.2 (inr (inl (subst (λ (f : Refusal). FaultOf command old f) h.2 of)))

  module _ {A : Type 0} (asked : Command) (spelled : List ℕ → Result A Refusal) (Says : A → Result Report Refusal → Type 0) (MayLack : List ℕ → Type 0)
      (into : (text : List ℕ) (fault : Refusal) → spelled text ≡ Err fault → HasFault asked text fault) (faults : (text : List ℕ) (fault : Refusal) → spelled text ≡ Err fault → IsTextFault fault) where
    input_has_cause : (new : OutsideView) (result : Result Report Refusal) → command ≡ Some asked
        → ((text : List ℕ) (value : A) → HasText old.inputs (file_of asked) text → spelled text ≡ Ok value → Says value result → CauseOf command old new (report_of result))
        → OnInput (TextSays spelled Says MayLack) (file_of asked) old new result → CauseOf command old new (report_of result)
    input_has_cause new result q answered (inl h) = moved new result _ h.2 (input_cause asked new h.0 q h.1.gives)
    input_has_cause new result q answered (inr (text, mid, reads, (same, inl e))) = moved new result _ e.0 (is_some_of command asked q)
    input_has_cause new result q answered (inr (text, mid, reads, (same, inr (inl f)))) =
        moved new result _ f.2 (fault_cause new f.0 (record { asked = asked; is = q; text = text; text_of = reads.gives.text_of; fault_is = into text f.0 f.1 }) (faults text f.0 f.1))
    input_has_cause new result q answered (inr (text, mid, reads, (same, inr (inr a)))) = answered text a.0 reads.gives.text_of a.1 a.2

  audit_cause : (new : OutsideView) (result : Result Report Refusal) → Audited command old result → CauseOf command old new (report_of result)
  audit_cause new result h = by h.says.0 h.says.2
    where
      by : (audit : Audit_) → result ≡ told_audit h.value audit → CauseOf command old new (report_of result)
      by (audits.Linked entries) e = moved new result _ e (subst (Audited command old) e h)
      by (audits.Split position first second) e = moved new result _ e (subst (Audited command old) e h)

  drill_cause : (new : OutsideView) (result : Result Report Refusal) → Drilled command old result → CauseOf command old new (report_of result)
  drill_cause new result h = by h.says
    where
      by : RunSays h.value result → CauseOf command old new (report_of result)
      by (inl whole) = moved new result _ whole.4 (subst (Drilled command old) whole.4 h)
      by (inr stops) = moved new result _ stops.3 (subst (Drilled command old) stops.3 h)

  hash_cause : (new : OutsideView) (result : Result Report Refusal) → Hashed command old result → CauseOf command old new (report_of result)
  hash_cause new result h = by h.says
    where
      by : FilesSay h.value result → CauseOf command old new (report_of result)
      by (inl whole) = moved new result _ whole.4 (subst (Hashed command old) whole.4 h)
      by (inr large) = moved new result _ large.is (inr (inr (subst (Hashed command old) large.is h)))

  command_cause : (asked : Option Command) (new : OutsideView) (result : Result Report Refusal) → command ≡ asked → ByCommand asked old new result → CauseOf command old new (report_of result)
  command_cause None new result q h = moved new result _ h.1 q
  command_cause (Some (Audit file)) new result q h =
      input_has_cause (Audit file) spelled_dump DumpSays MayLackDump (λ text f e. e) dump_is new result q
      (λ text value at spells says. audit_cause new result (record { file = file; is = q; text = text; text_of = at; value = value; spells = spells; says = says })) h
  command_cause (Some (Drill file)) new result q h =
      input_has_cause (Drill file) drill_at RunSays MayLackDrill (λ text f e. e) drill_is new result q
      (λ text value at spells says. drill_cause new result (record { file = file; is = q; text = text; text_of = at; value = value; spells = spells; says = says })) h
  command_cause (Some (Hash file)) new result q h =
      input_has_cause (Hash file) listing_at FilesSay MayLackListing (λ text f e. e) listing_is new result q
      (λ text value at spells says. hash_cause new result (record { file = file; is = q; text = text; text_of = at; value = value; spells = spells; says = says })) h

  -- an answer that needs memory to be told is that of a command
  is_asked : (asked : Option Command) (new : OutsideView) (answer : Result Report Refusal) → ByCommand asked old new answer → NeedsMemory (report_of answer) → IsSome asked
  is_asked None new answer h needs = absurd (subst (λ (r : Result Report Refusal). NeedsMemory (report_of r)) h.1 needs)
  is_asked (Some asked) new answer h needs = refl

  pub cause_of : (new : OutsideView) (result : Result Report Refusal) → Answers command old new result → CauseOf command old new (report_of result)
  cause_of new result (inl h) = moved new result _ h.none_left (is_asked command new h.answer h.by_command h.needs)
  cause_of new result (inr (inl h)) = moved new result _ h.1 h.0
  cause_of new result (inr (inr h)) = command_cause command new result refl h
