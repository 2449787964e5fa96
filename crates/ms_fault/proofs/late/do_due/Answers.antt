use Rattle.std.proofs.Common.{sym, subst}
use Rattle.ms_core.specs.Views.{IsClosed}
use Rattle.ms_ken.specs.Lists.{MayFollow}
use Rattle.ms_record.specs.declared.item.Item.TheVariants.{Log}
use Rattle.ms_record.specs.declared.log.LogEvent.{LogEvent}
use Rattle.ms_fault.proofs.late.do_due.Goals as goal

pub send-requires-clause-closed : goal.send-requires-clause-closed
send-requires-clause-closed g c =
    let link = g.L.Link.sees c.args.link.now in
    subst (λ (event : LogEvent). MayFollow IsClosed link.board.words c.args.change.now.note.lists link.service (Log event)) (sym c.change_of.ensures) c.requires.due.follows
