use Rattle.ms_chain.proofs.Marking.{comes_first, stays_first}
use Rattle.ms_chain.proofs.refs.greater_of.Goals as goal

pub returns-then-mark-best : goal.returns-then-mark-best
returns-then-mark-best c = λ before h. comes_first before c.args.best c.args.mark c.if-mark-best.true h

pub returns-else-mark-best : goal.returns-else-mark-best
returns-else-mark-best c = λ before h. stays_first before c.args.best c.args.mark c.if-mark-best.false h
