use Rattle.std.proofs.Common.{ℕ, List, inr, refl, subst}
use Rattle.ms_base.specs.Outside.{outside}
use Rattle.ms_top.specs.Verbs.{VerbSays}
use Rattle.ms_top.proofs.input.on_input.Goals as goal

pub returns-in-Ok : goal.returns-in-Ok
returns-in-Ok g c =
    inr (
      c.in-Ok.text,
      outside g.I.Inputs.seen c.read_input.new.inputs,
      c.in-Ok.ensures,
      (refl, subst (λ (t : List ℕ). VerbSays c.args.verb t c.on_text.result) c.as_slice.ensures c.on_text.ensures),
    )
