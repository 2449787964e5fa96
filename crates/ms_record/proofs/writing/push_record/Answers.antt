use Rattle.std.proofs.lemmas.Result.{on_ok_weaker}
use Rattle.ms_record.proofs.Feeding.{prepare_joined, record_joined}
use Rattle.ms_record.proofs.writing.push_record.Goals as goal

pub returns-in-Prepare : goal.returns-in-Prepare
returns-in-Prepare c =
    on_ok_weaker c.push_head.result (λ e. prepare_joined c.args.message.now c.args.out.now.items _ c.in-Prepare.position c.in-Prepare.ballot c.in-Prepare.is e) c.push_head.ensures

pub returns-in_ok-push_head-in-Accept : goal.returns-in_ok-push_head-in-Accept
returns-in_ok-push_head-in-Accept c =
    on_ok_weaker c.push_entry.result (λ e. record_joined c.args.message.now c.args.out.now.items _ _ c.in-Accept.position c.in-Accept.ballot c.in-Accept.entry c.in-Accept.is c.in_ok-push_head-in-Accept.ensures e) c.push_entry.ensures
