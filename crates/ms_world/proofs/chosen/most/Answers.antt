use Rattle.std.proofs.Common.{◌∙◌, sym, arith}
use Rattle.ms_world.proofs.Choosing.{at_none, member_has, none_more}
use Rattle.ms_world.proofs.chosen.most.Goals as goal

pub loop-list-preserved : goal.loop-list-preserved
loop-list-preserved c =
    none_more c.args.lists.now c.loop-list.list-index c.list-item.result c.as_slice.result.now c.loop-list-test.true c.list-item.is c.as_slice.ensures c.loop-list.invariant
    (at_none c.most_in-found.result _ (sym c.if-is_some.false ∙ c.is_some.ensures) c.most_in-found.ensures.none)

pub returns-clause-none : goal.returns-clause-none
returns-clause-none c = λ vote most.
    let one = member_has c.args.lists.now vote most in
    c.loop-list.invariant one.0 vote (omega (arith, one.1)) one.2 most
