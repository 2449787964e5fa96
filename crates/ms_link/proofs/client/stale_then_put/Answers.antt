use Rattle.std.proofs.Common.{Err, ap, ◌∙◌}
use Rattle.ms_link.proofs.InTurn.{stale_is, stale_put}
use Rattle.ms_link.specs.Composing.{follows_on, learns_on}
use Rattle.ms_link.specs.declared.fault.LinkError.{LinkError}
use Rattle.ms_record.specs.declared.log.LogEvent.TheVariants.{Put}
use Rattle.ms_link.proofs.client.stale_then_put.Goals as goal

pub put-requires-clause-closed : goal.put-requires-clause-closed
put-requires-clause-closed g c =
    follows_on g.C.Closed.closed (g.L.Link.sees c.args.link.now) (g.L.Link.sees c.has.new.self) c.args.pass.now c.has.new.pass (Put c.args.generation c.args.name.now c.args.text.now)
    c.has.ensures.link c.has.ensures.pass.more c.requires.closed

pub returns-in-Stale-clause-refused : goal.returns-in-Stale-clause-refused
returns-in-Stale-clause-refused g c =
    let link = g.L.Link.sees c.args.link.now in
    let stale = stale_is link (g.L.Link.sees c.has.new.self) c.has.new.pass c.args.generation c.in-Stale.floor c.args.name.now c.has.result (c.in-Err.is ∙ ap (λ (e : LinkError). Err e) c.in-Stale.is) c.has.ensures.has in
    c.is_err.ensures.value
    ∙ stale_put link (g.L.Link.sees c.has.new.self) (g.L.Link.sees c.put.new.self) c.has.new.pass c.put.new.pass c.args.generation c.in-Stale.floor (Put c.args.generation c.args.name.now c.args.text.now)
    c.put.result c.has.ensures.link c.requires.lists c.requires.objects stale c.put.ensures.pass c.put.ensures.puts

pub returns-in-Stale-clause-pass : goal.returns-in-Stale-clause-pass
returns-in-Stale-clause-pass g c = learns_on c.args.pass.now c.has.new.pass c.put.new.pass c.has.ensures.pass c.put.ensures.pass
