use Rattle.ms_record.specs.declared.record.Record.TheVariants.{Accept}
use Rattle.ms_local.specs.Rules.{begun_at}
use Rattle.ms_local.proofs.Showing.{rounds_rise, decided_shown, promised_shown, taken_shown}
use Rattle.ms_local.proofs.deed_law.deeds_show.Goals as goal

pub returns-clause-rounds : goal.returns-clause-rounds
returns-clause-rounds c = λ n who read own deeds t round ok h there. rounds_rise who (begun_at n read) t own deeds round ok h there

pub returns-clause-declared : goal.returns-clause-declared
returns-clause-declared c = λ n who read own deeds t position entry h decided. decided_shown n who read own deeds t position (Accept position decided.ballot entry) h decided.offered

pub returns-clause-taken : goal.returns-clause-taken
returns-clause-taken c = λ n who read own deeds t voters offer service h told e. taken_shown n who read own deeds t voters offer service h told e

pub returns-clause-promised : goal.returns-clause-promised
returns-clause-promised c = λ n who read own deeds t voters round service h kept e. promised_shown n who read own deeds t voters round service h kept e
