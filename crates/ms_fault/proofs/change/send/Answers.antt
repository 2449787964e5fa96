use Rattle.std.proofs.Common.{subst}
use Rattle.ms_core.specs.Views.{IsClosed}
use Rattle.ms_fault.specs.Changes.{event_of}
use Rattle.ms_fault.specs.declared.change.Change.{Change}
use Rattle.ms_ken.specs.Lists.{MayFollow}
use Rattle.ms_record.specs.declared.item.Item.TheVariants.{Log}
use Rattle.ms_fault.proofs.change.send.Goals as goal

pub append-requires-clause-closed : goal.append-requires-clause-closed
append-requires-clause-closed g c =
    let link = g.L.Link.sees c.args.link.now in
    subst (λ (change : Change). MayFollow IsClosed link.board.words c.args.pass.now.lists link.service (Log (event_of change))) c.in-Append.is c.requires.closed

pub put-requires-clause-closed : goal.put-requires-clause-closed
put-requires-clause-closed g c =
    let link = g.L.Link.sees c.args.link.now in
    subst (λ (change : Change). MayFollow IsClosed link.board.words c.args.pass.now.lists link.service (Log (event_of change))) c.in-Put.is c.requires.closed

pub drop_below-requires-clause-closed : goal.drop_below-requires-clause-closed
drop_below-requires-clause-closed g c =
    let link = g.L.Link.sees c.args.link.now in
    subst (λ (change : Change). MayFollow IsClosed link.board.words c.args.pass.now.lists link.service (Log (event_of change))) c.in-DropBelow.is c.requires.closed
