use Rattle.ms_link.proofs.InTurn.{put_has}
use Rattle.ms_link.specs.Composing.{learns_on}
use Rattle.ms_link.proofs.client.put_then_has.Goals as goal

pub returns-clause-there : goal.returns-clause-there
returns-clause-there g c =
    put_has (g.L.Link.sees c.args.link.now) (g.L.Link.sees c.put.new.self) (g.L.Link.sees c.has.new.self) c.args.pass.now c.put.new.pass c.has.new.pass c.args.generation c.args.name.now c.args.text.now c.has.result
    c.put.ensures.link c.requires.lists c.requires.objects c.in_ok-put.ensures.puts.0 c.has.ensures.pass c.has.ensures.has

pub returns-clause-pass : goal.returns-clause-pass
returns-clause-pass g c = learns_on c.args.pass.now c.put.new.pass c.has.new.pass c.put.ensures.pass c.has.ensures.pass
