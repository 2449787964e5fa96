use Rattle.ms_plan.proofs.Filling.{copies_more}
use Rattle.ms_plan.proofs.table.copies.Scratch.push_copies.Goals as goal

pub loop-copy-preserved : goal.loop-copy-preserved
loop-copy-preserved c =
    copies_more c.args.slot c.args.row.now.service c.loop-copy.copy c.args.self.now.copies.items c.loop-copy.self.copies.items c.key.new.self.copies.items c.push.new.self.items c.in_ok-key.key
    c.loop-copy.invariant c.key.ensures.copies c.in_ok-key.ensures.key c.in_ok-push.ensures.items
