use Rattle.std.proofs.Common.{List, sym, subst}
use Rattle.ms_record.specs.Floors.{IsFloor}
use Rattle.ms_record.specs.declared.log.LogEvent.{LogEvent}
use Rattle.ms_world.proofs.service.Log.push.Goals as goal

pub invariant_of-self-2 : goal.invariant_of-self-2
invariant_of-self-2 c =
    subst (λ (log : List LogEvent). IsFloor log c.floor_behind-floor.result) (sym c.in_ok-push.ensures.items) (c.floor_behind-floor.ensures c.self.inside.events.items c.self.invariant)
