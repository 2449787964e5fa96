use Rattle.std.proofs.Common.{List, All, sym, subst}
use Rattle.ms_world.specs.PutTexts.{ArePutsNamed}
use Rattle.ms_record.specs.declared.log.LogEvent.{LogEvent}
use Rattle.ms_world.proofs.placing.tests.answer.Goals as goal

pub is_placed-requires : goal.is_placed-requires
is_placed-requires c = record { named = subst (λ (logs : List (List LogEvent)). All ArePutsNamed logs) (sym c.deref.ensures.value) c.in_ok-logs.ensures }
