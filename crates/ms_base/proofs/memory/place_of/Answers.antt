use Rattle.std.proofs.Common.{◌≡◌, sym, ◌∙◌, true, false, get_or}
use Rattle.std.specs.Prelude.{bytes_eq}
use Rattle.ms_base.proofs.Naming.{named_here, named_on}
use Rattle.ms_base.proofs.memory.place_of.Goals as goal

pub returns-then-eq-clause-is : goal.returns-then-eq-clause-is
returns-then-eq-clause-is c =
    let test : bytes_eq (get_or c.args.inputs.now c.loop-i.i c.index-inputs-i.result).name c.args.name.now ≡ true = rw c.as_slice.ensures at (sym c.eq.ensures ∙ c.if-eq.true) in
    sym c.loop-i.invariant ∙ named_here c.args.inputs.now c.loop-i.i c.args.name.now c.index-inputs-i.result c.loop-i-test.true test

pub loop-i-preserved : goal.loop-i-preserved
loop-i-preserved c =
    let test : bytes_eq (get_or c.args.inputs.now c.loop-i.i c.index-inputs-i.result).name c.args.name.now ≡ false = rw c.as_slice.ensures at (sym c.eq.ensures ∙ c.if-eq.false) in
    named_on c.args.inputs.now c.loop-i.i c.args.name.now c.index-inputs-i.result c.loop-i-test.true test ∙ c.loop-i.invariant
