use Rattle.std.proofs.Common.{Option, IfOk, sym, subst}
use Rattle.ms_object.specs.declared.format.Format.{Format}
use Rattle.ms_world.specs.Reaching.{MeetsText}
use Rattle.ms_world.proofs.placing.meet_text.Goals as goal

pub returns-in-Some : goal.returns-in-Some
returns-in-Some c = subst (λ (format : Option Format). IfOk c.meet_of.result (MeetsText format c.args.wanted c.args.text.now c.args.met.now c.meet_of.new.met)) (sym c.in-Some.is) c.meet_of.ensures
