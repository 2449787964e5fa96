use Rattle.std.proofs.Common.{◌∙◌, All, List, ap, sym, subst}
use Rattle.ms_world.proofs.Wanting.{want_placed}
use Rattle.ms_world.specs.PutTexts.{ArePutsNamed}
use Rattle.ms_world.specs.Worlds.{WorldView}
use Rattle.ms_record.specs.declared.log.LogEvent.{LogEvent}
use Rattle.ms_world.proofs.state.State.is_want_placed.Goals as goal

pub is_placed-requires : goal.is_placed-requires
is_placed-requires c = record {
  named = subst (λ (logs : List (List LogEvent)). All ArePutsNamed logs) (sym (c.deref.ensures.value ∙ ap (λ (w : WorldView). w.logs) c.self.view_is)) c.requires.named;
}

pub returns : goal.returns
returns c =
    want_placed c.args.setting.now c.args.self.now c.args.c.now c.args.want c.in-Some.push c.plan-plan.result c.deref.result.now c.is_placed.result
    c.in-Some.is (c.deref.ensures.value ∙ ap (λ (w : WorldView). w.logs) c.self.view_is) c.plan-plan.ensures c.is_placed.ensures
