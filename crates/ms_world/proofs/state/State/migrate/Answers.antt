use Rattle.std.proofs.Common.{◌∙◌, All, List, ap, sym, subst}
use Rattle.ms_world.specs.PutTexts.{ArePutsNamed}
use Rattle.ms_world.specs.Worlds.{WorldView}
use Rattle.ms_record.specs.declared.log.LogEvent.{LogEvent}
use Rattle.ms_world.proofs.state.State.migrate.Goals as goal

pub is_placed-requires : goal.is_placed-requires
is_placed-requires c = record {
  named = subst (λ (logs : List (List LogEvent)). All ArePutsNamed logs) (sym (c.deref.ensures.value ∙ ap (λ (w : WorldView). w.logs) c.self.view_is)) c.requires.named;
}
