use Rattle.ms_link.proofs.InTurn.{get_has}
use Rattle.ms_link.specs.Composing.{learns_on}
use Rattle.ms_link.proofs.client.get_then_has.Goals as goal

pub returns-clause-there : goal.returns-clause-there
returns-clause-there g c =
    get_has (g.L.Link.sees c.args.link.now) (g.L.Link.sees c.get.new.self) (g.L.Link.sees c.has.new.self) c.get.new.pass c.has.new.pass c.args.generation c.args.name.now c.in_ok-get.field-0 c.is_none.result c.has.result
    c.get.ensures.link c.requires.lists c.requires.objects c.is_none.ensures c.if-is_none.false c.in_ok-get.ensures.gets c.has.ensures.pass c.has.ensures.has

pub returns-clause-pass : goal.returns-clause-pass
returns-clause-pass g c = learns_on c.args.pass.now c.get.new.pass c.has.new.pass c.get.ensures.pass c.has.ensures.pass
