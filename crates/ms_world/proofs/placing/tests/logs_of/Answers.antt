use Rattle.std.proofs.Common.{List, All, sym, subst}
use Rattle.std.proofs.lemmas.List.Elements.{All-push}
use Rattle.ms_world.specs.PutTexts.{ArePutsNamed}
use Rattle.ms_record.specs.declared.log.LogEvent.{LogEvent}
use Rattle.ms_world.proofs.placing.tests.logs_of.Goals as goal

pub loop-service-preserved : goal.loop-service-preserved
loop-service-preserved c =
    subst (λ (logs : List (List LogEvent)). All ArePutsNamed logs) (sym c.in_ok-push.ensures.items)
    (All-push ArePutsNamed c.loop-service.logs.items c.in_ok-log_of.field-0 c.loop-service.invariant c.in_ok-log_of.ensures)
