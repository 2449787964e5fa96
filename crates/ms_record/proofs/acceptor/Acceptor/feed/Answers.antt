use Rattle.std.proofs.Common.{sym, ◌∙◌, subst}
use Rattle.ms_record.specs.declared.ballot.Ballot.{Ballot}
use Rattle.ms_record.specs.Ballots.{IsBelow}
use Rattle.ms_record.proofs.AcceptorLaws.{fed_elsewhere, fed_outbid, goes_on_prepare, goes_on_accept, prepare_is, accept_is}
use Rattle.ms_record.proofs.acceptor.Acceptor.feed.Goals as goal

pub returns-then-position-self-clause-goes_on : goal.returns-then-position-self-clause-goes_on
returns-then-position-self-clause-goes_on c =
    λ xs h. fed_elsewhere xs c.args.message.now c.args.self.now (λ e. c.if-position-self.true (c.position.ensures ∙ e)) h

pub returns-in-Some-clause-goes_on : goal.returns-in-Some-clause-goes_on
returns-in-Some-clause-goes_on c = λ xs h.
    let some = c.in-Some.ensures.some in
    (fed_outbid xs c.args.message.now c.args.self.now c.in-Some.top some.0 (subst (λ (b : Ballot). IsBelow b c.in-Some.top) c.ballot-ballot.ensures some.1) h).0

pub returns-in-Some-clause-verdict : goal.returns-in-Some-clause-verdict
returns-in-Some-clause-verdict c = λ xs h.
    let some = c.in-Some.ensures.some in
    let low = subst (λ (b : Ballot). IsBelow b c.in-Some.top) c.ballot-ballot.ensures some.1 in
    (sym c.position.ensures ∙ c.if-position-self.false, (fed_outbid xs c.args.message.now c.args.self.now c.in-Some.top some.0 low h).1, low)

pub returns-in-Prepare-clause-goes_on : goal.returns-in-Prepare-clause-goes_on
returns-in-Prepare-clause-goes_on c = λ xs h.
    (goes_on_prepare xs c.args.message.now c.args.self.now c.ballot-ballot.result
    (prepare_is _ _ _ _ _ c.in-Prepare.is (sym c.position.ensures ∙ c.if-position-self.false) c.ballot-ballot.ensures) c.in_default.ensures.none h).0

pub returns-in-Prepare-clause-verdict : goal.returns-in-Prepare-clause-verdict
returns-in-Prepare-clause-verdict c = λ xs h. (
  (goes_on_prepare xs c.args.message.now c.args.self.now c.ballot-ballot.result
      (prepare_is _ _ _ _ _ c.in-Prepare.is (sym c.position.ensures ∙ c.if-position-self.false) c.ballot-ballot.ensures) c.in_default.ensures.none h).1,
  h.best_is,
)

pub returns-in-Accept-clause-goes_on : goal.returns-in-Accept-clause-goes_on
returns-in-Accept-clause-goes_on c = λ xs h.
    (goes_on_accept xs c.args.message.now c.args.self.now c.ballot-ballot.result c.in-Accept.entry
    (accept_is _ _ _ _ _ _ c.in-Accept.is (sym c.position.ensures ∙ c.if-position-self.false) c.ballot-ballot.ensures) c.in_default.ensures.none h).0

pub returns-in-Accept-clause-verdict : goal.returns-in-Accept-clause-verdict
returns-in-Accept-clause-verdict c = λ xs h.
    (goes_on_accept xs c.args.message.now c.args.self.now c.ballot-ballot.result c.in-Accept.entry
    (accept_is _ _ _ _ _ _ c.in-Accept.is (sym c.position.ensures ∙ c.if-position-self.false) c.ballot-ballot.ensures) c.in_default.ensures.none h).1
