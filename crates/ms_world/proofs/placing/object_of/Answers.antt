use Rattle.std.proofs.Common.{arith}
use Rattle.ms_world.proofs.placing.object_of.Goals as goal

pub returns-in-Err-TooLarge : goal.returns-in-Err-TooLarge
returns-in-Err-TooLarge c = λ object spells.
    let e = rw c.in-Err-TooLarge.field-0-is at c.in-Err-TooLarge.ensures.exact in
    omega (arith, c.one_spelling.ensures.short c.args.text.now object spells, e.0)
