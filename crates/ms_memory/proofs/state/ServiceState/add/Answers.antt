use Rattle.std.proofs.Common.{sym, subst}
use Rattle.ms_core.specs.Views.{IsClosed}
use Rattle.ms_ken.specs.Lists.{MayFollow}
use Rattle.ms_record.specs.declared.item.Item.TheVariants.{Log}
use Rattle.ms_record.specs.declared.log.LogEvent.{LogEvent}
use Rattle.ms_memory.proofs.state.ServiceState.add.Goals as goal

pub take-requires-clause-closed : goal.take-requires-clause-closed
take-requires-clause-closed g c =
    subst (λ (e : LogEvent). MayFollow IsClosed g.J.Naming.board.words c.args.pass.now.lists c.args.self.now.service (Log e)) (sym c.in_ok-event.ensures) c.requires.closed
