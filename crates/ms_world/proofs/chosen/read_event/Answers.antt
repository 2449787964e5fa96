use Rattle.std.proofs.Common.{sym, subst, [], List, Some}
use Rattle.ms_world.specs.Passes.{IsReadOf}
use Rattle.ms_world.proofs.Counting.{on_ok, event_adds, event_none}
use Rattle.ms_record.specs.declared.record.Record.{Record}
use Rattle.ms_record.specs.Logs.{votes_in}
use Rattle.ms_world.proofs.chosen.read_event.Goals as goal

pub returns-in-Some-clause-read : goal.returns-in-Some-clause-read
returns-in-Some-clause-read c = λ log h.
    on_ok c.read_record.result (c.read_record.ensures.read (votes_in log) h) (λ read.
    subst (λ (zs : List Record). IsReadOf zs c.read_record.new.acceptor c.read_record.new.votes) (sym (event_adds log [] c.args.event.now (Some c.in-Some.message) c.in-Some.ensures)) read)

pub returns-in-None-clause-read : goal.returns-in-None-clause-read
returns-in-None-clause-read c = λ log h.
    subst (λ (zs : List Record). IsReadOf zs c.args.acceptor.now c.args.votes.now) (sym (event_none log c.args.event.now c.in-None.ensures)) h
