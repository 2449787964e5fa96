use Rattle.ms_link.specs.Composing.{tells_out, puts_out, lists_out, has_out, gets_out}
use Rattle.ms_link.proofs.law.answers_pass_out.Goals as goal

pub returns-clause-tells : goal.returns-clause-tells
returns-clause-tells c = tells_out

pub returns-clause-puts : goal.returns-clause-puts
returns-clause-puts c = puts_out

pub returns-clause-lists : goal.returns-clause-lists
returns-clause-lists c = lists_out

pub returns-clause-has : goal.returns-clause-has
returns-clause-has c = has_out

pub returns-clause-gets : goal.returns-clause-gets
returns-clause-gets c = gets_out
