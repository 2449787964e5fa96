use Rattle.std.proofs.Common.{subst}
use Rattle.ms_world.proofs.Counting.{not_taken, on_ok, reads_accept, reads_nothing, takes_accept}
use Rattle.ms_record.specs.declared.acceptor.Verdict.{Verdict}
use Rattle.ms_record.specs.Acceptors.{IsVerdict}
use Rattle.ms_world.proofs.chosen.read_record.Goals as goal

pub returns-in-Taken-clause-read : goal.returns-in-Taken-clause-read
returns-in-Taken-clause-read c = λ xs h.
    let a = c.args.acceptor.now in
    let r = c.args.message.now in
    let t = subst (λ (v : Verdict). IsVerdict xs r a.position v) c.in-Taken.is (c.feed.ensures.verdict xs h.read) in
    on_ok c.push_accept.result (c.push_accept.ensures a.position t.ballot t.entry (takes_accept xs r a.position t)) (λ is.
    reads_accept xs r a c.feed.new.self c.args.votes.now c.push_accept.new.votes c.feed.ensures.position (c.feed.ensures.goes_on xs h.read) t is h)

pub returns-in_default-clause-read : goal.returns-in_default-clause-read
returns-in_default-clause-read c = λ xs h.
    let a = c.args.acceptor.now in
    let r = c.args.message.now in
    reads_nothing xs r a c.feed.new.self c.args.votes.now c.feed.ensures.position (c.feed.ensures.goes_on xs h.read)
    (not_taken xs r a.position c.feed.result (c.feed.ensures.verdict xs h.read) c.in_default.not-Taken) h
