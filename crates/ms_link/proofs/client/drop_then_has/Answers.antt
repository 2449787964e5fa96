use Rattle.std.proofs.Common.{◌∙◌}
use Rattle.ms_link.proofs.InTurn.{drop_has}
use Rattle.ms_link.specs.Composing.{learns_on}
use Rattle.ms_link.proofs.client.drop_then_has.Goals as goal

pub returns-clause-refused : goal.returns-clause-refused
returns-clause-refused g c =
    c.is_err.ensures.value
    ∙ drop_has (g.L.Link.sees c.args.link.now) (g.L.Link.sees c.drop_below.new.self) (g.L.Link.sees c.has.new.self) c.args.pass.now c.drop_below.new.pass c.has.new.pass c.args.floor c.args.generation c.args.name.now c.has.result
    c.drop_below.ensures.link c.requires.lists c.requires.objects c.requires.below c.in_ok-drop_below.ensures.tells c.has.ensures.pass c.has.ensures.has

pub returns-clause-pass : goal.returns-clause-pass
returns-clause-pass g c = learns_on c.args.pass.now c.drop_below.new.pass c.has.new.pass c.drop_below.ensures.pass c.has.ensures.pass
