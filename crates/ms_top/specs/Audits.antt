-- What the command `audit` answers: the chain that a dump shows, or its split, or the first wrong line.
use Rattle.std.specs.Prelude.{◌≡◌, ◌≢◌, ℕ, List, Result, Ok, Err}
use Rattle.ms_record.specs.declared.refusal.Place.TheVariants as places
use Rattle.ms_record.specs.declared.refusal.Refusal.{Refusal}
use Rattle.ms_record.specs.declared.refusal.Refusal.TheVariants as refusals
use Rattle.ms_replay.specs.Audits.{IsAudit}
use Rattle.ms_replay.specs.Dumps.{dump_at}
use Rattle.ms_replay.specs.declared.audit.Audit.{Audit}
use Rattle.ms_replay.specs.declared.audit.Audit.TheVariants as audits
use Rattle.ms_replay.specs.declared.dump.Dump.{Dump}
use Rattle.ms_words.specs.declared.report.Report.{Report}
use Rattle.ms_words.specs.declared.report.Report.TheVariants as reports
use Rattle.ms_top.specs.Inputs.{TextSays}

-- the dump, or its first wrong line
abbrev pub of_input : Result Dump ℕ → Result Dump Refusal
of_input (Ok dump) = Ok dump
of_input (Err line) = Err (refusals.BadInput places.Input line)

abbrev pub spelled_dump : List ℕ → Result Dump Refusal
spelled_dump text = of_input (dump_at text)

-- the chain behind the dump's genesis, or the split of least position
abbrev pub told_audit : Dump → Audit → Result Report Refusal
told_audit dump (audits.Linked entries) = Ok (reports.Audit dump.genesis entries)
told_audit dump (audits.Split position first second) = Err (refusals.Split position first second)

abbrev pub DumpSays : Dump → Result Report Refusal → Type 0
DumpSays dump result = (audit : Audit) × IsAudit dump audit × (result ≡ told_audit dump audit)

-- memory may run out for a dump whose head is right
abbrev pub MayLackDump : List ℕ → Type 0
MayLackDump text = dump_at text ≢ Err 1

-- what the text of a dump is answered with
abbrev pub AuditSays : List ℕ → Result Report Refusal → Type 0
AuditSays = TextSays spelled_dump DumpSays MayLackDump
