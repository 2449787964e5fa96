-- What an input is answered with, by what the words ask for.
use Rattle.std.specs.Prelude.{ℕ, List, Result}
use Rattle.ms_record.specs.declared.refusal.Refusal.{Refusal}
use Rattle.ms_words.specs.declared.command.Verb.{Verb}
use Rattle.ms_words.specs.declared.command.Verb.TheVariants.{Audit, Drill, Hash}
use Rattle.ms_words.specs.declared.report.Report.{Report}
use Rattle.ms_top.specs.Audits.{AuditSays}
use Rattle.ms_top.specs.Drills.{DrillSays}
use Rattle.ms_top.specs.Hashes.{HashSays}

abbrev pub VerbSays : Verb → List ℕ → Result Report Refusal → Type 0
VerbSays Audit = AuditSays
VerbSays Drill = DrillSays
VerbSays Hash = HashSays
