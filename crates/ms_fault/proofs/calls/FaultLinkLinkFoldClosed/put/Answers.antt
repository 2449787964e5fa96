use Rattle.ms_fault.proofs.Passing.{changes_shown}
use Rattle.ms_fault.specs.Faults.{due}
use Rattle.ms_record.specs.declared.log.LogEvent.TheVariants.{Put as Stored}
use Rattle.ms_fault.proofs.calls.FaultLinkLinkFoldClosed.put.Goals as goal

pub returns-clause-puts : goal.returns-clause-puts
returns-clause-puts g c =
    changes_shown (due c.args.self.now) c.args.self.now c.change.new.self c.args.pass.now c.change.new.pass (Stored c.args.generation c.args.name.now c.args.text.now) c.change.result c.change.ensures.script c.change.ensures.counts
