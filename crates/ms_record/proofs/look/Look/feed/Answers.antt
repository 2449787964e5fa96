use Rattle.std.proofs.Common.{◌≡◌, ◌++◌, ◌∷◌, [], true, false, sym, ◌∙◌, subst}
use Rattle.ms_record.specs.declared.look.Look.{Look}
use Rattle.ms_record.specs.Looks.{HasShown}
use Rattle.ms_record.proofs.LookingOn.{look_on, look_other}
use Rattle.ms_record.proofs.look.Look.feed.Goals as goal

pub returns-then-is_one-clause-goes_on : goal.returns-then-is_one-clause-goes_on
returns-then-is_one-clause-goes_on c = λ xs h.
    subst (λ (l : Look). HasShown (xs ++ c.args.message.now ∷ []) l) (sym c.note.ensures)
    (look_on xs c.args.message.now c.args.self.now c.feed-verdict.new.self c.feed-verdict.result c.feed-verdict.ensures.position (c.feed-verdict.ensures.goes_on xs h.acceptor) (c.feed-verdict.ensures.verdict xs h.acceptor)
    (sym c.ballot.ensures ∙ c.is_one.ensures.0 c.if-is_one.true) h)

pub returns-else-is_one-clause-goes_on : goal.returns-else-is_one-clause-goes_on
returns-else-is_one-clause-goes_on c = λ xs h.
    look_other xs c.args.message.now c.args.self.now c.feed-verdict.new.self c.feed-verdict.ensures.position (c.feed-verdict.ensures.goes_on xs h.acceptor)
    (λ e. let one : true ≡ false = sym (c.is_one.ensures.1 (c.ballot.ensures ∙ e)) ∙ c.if-is_one.false in cc) h
