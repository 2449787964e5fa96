use Rattle.std.proofs.Common.{ap, arith}
use Rattle.ms_object.specs.Trees.{object_or_fault}
use Rattle.ms_tree.proofs.Named.{unread}
use Rattle.ms_tree.proofs.looking.read_object.Goals as goal

pub returns-in-Ok-clause-exact : goal.returns-in-Ok-clause-exact
returns-in-Ok-clause-exact c = ap (object_or_fault c.args.name.now) c.in-Ok.ensures.exact.1

pub returns-in-Err-NotAnObject-clause-exact : goal.returns-in-Err-NotAnObject-clause-exact
returns-in-Err-NotAnObject-clause-exact c = let h = rw c.in-Err-NotAnObject.field-0-is at c.in-Err-NotAnObject.ensures.exact in ap (object_or_fault c.args.name.now) h.1

pub returns-in-Err-TooLarge-clause-exact : goal.returns-in-Err-TooLarge-clause-exact
returns-in-Err-TooLarge-clause-exact c =
    let text = c.args.text.now in
    let h = rw c.in-Err-TooLarge.field-0-is at c.in-Err-TooLarge.ensures.exact in
    ap (object_or_fault c.args.name.now)
    (unread text (λ o e. c.one_spelling.ensures.read text o (λ i. omega (arith, c.type_inv.text i)) e) (λ o spelled. omega (arith, c.one_spelling.ensures.short text o spelled, h.0)))
