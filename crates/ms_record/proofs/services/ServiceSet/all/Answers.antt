use Rattle.std.proofs.Common.{ap, ◌∙◌, length, arith, refl}
use Rattle.std.proofs.lemmas.List.FromFn.{length-range_with_len}
use Rattle.ms_record.proofs.ServicesFilled.{all_more, whole_all}
use Rattle.ms_record.proofs.services.ServiceSet.all.Goals as goal

pub loop-i-init : goal.loop-i-init
loop-i-init c = refl

pub loop-i-preserved : goal.loop-i-preserved
loop-i-preserved c = all_more c.loop-i.i c.loop-i.all (omega (arith, c.loop-i-test.true, c.requires)) c.loop-i.invariant

pub invariant_of-result : goal.invariant_of-result
invariant_of-result c = (whole_all c.args.services c.loop-i.i c.loop-i.all c.requires c.loop-i-test.false c.loop-i.auto.i-end c.loop-i.invariant).kept

pub returns-clause-are : goal.returns-clause-are
returns-clause-are c = (whole_all c.args.services c.loop-i.i c.loop-i.all c.requires c.loop-i-test.false c.loop-i.auto.i-end c.loop-i.invariant).shows

pub returns-clause-many : goal.returns-clause-many
returns-clause-many c =
    let set = whole_all c.args.services c.loop-i.i c.loop-i.all c.requires c.loop-i-test.false c.loop-i.auto.i-end c.loop-i.invariant in
    ap length set.shows ∙ length-range_with_len 0 c.args.services
