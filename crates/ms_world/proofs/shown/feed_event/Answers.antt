use Rattle.std.proofs.Common.{sym, subst, [], List, Some}
use Rattle.ms_world.proofs.Counting.{event_adds, event_none}
use Rattle.ms_record.specs.declared.record.Record.{Record}
use Rattle.ms_record.specs.Logs.{votes_in}
use Rattle.ms_record.specs.Looks.{HasShown}
use Rattle.ms_world.proofs.shown.feed_event.Goals as goal

pub returns-in-Some-clause-goes_on : goal.returns-in-Some-clause-goes_on
returns-in-Some-clause-goes_on c = λ log h.
    subst (λ (zs : List Record). HasShown zs c.feed.new.self) (sym (event_adds log [] c.args.event.now (Some c.in-Some.message) c.in-Some.ensures)) (c.feed.ensures.goes_on (votes_in log) h)

pub returns-in_default-clause-goes_on : goal.returns-in_default-clause-goes_on
returns-in_default-clause-goes_on c = λ log h.
    subst (λ (zs : List Record). HasShown zs c.args.look.now) (sym (event_none log c.args.event.now c.in_default.ensures)) h
