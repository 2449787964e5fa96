use Rattle.std.proofs.Common.{map, false, below_more, arith}
use Rattle.std.specs.Map.{keys_of}
use Rattle.ms_tree.specs.DraftFiles.{drafted}
use Rattle.ms_merge.proofs.FreeNames.{all_tried}
use Rattle.ms_merge.proofs.GivenNames.{free_is, tagged_first, length-names}
use Rattle.ms_merge.proofs.naming.first_free.Goals as goal

pub loop-number-preserved : goal.loop-number-preserved
loop-number-preserved c =
    below_more _ _ c.loop-number.invariant
    (free_is c.args.sides.now.base.now c.args.sides.now.ours.now c.args.sides.now.theirs.now (keys_of (map drafted c.args.given.now.order.items)) c.as_str.result.now _ _ c.in_ok-is_free.field-0 false
    c.in_ok-is_free.ensures c.as_str.ensures.value c.in_ok-name.ensures c.if-branch.false)

pub returns-then-branch : goal.returns-then-branch
returns-then-branch c =
    tagged_first c.args.sides.now.base.now c.args.sides.now.ours.now c.args.sides.now.theirs.now (keys_of (map drafted c.args.given.now.order.items)) c.args.tag.now c.args.path.now c.as_str.result.now _ c.loop-number.number
    c.in_ok-is_free.field-0 c.in_ok-is_free.ensures c.as_str.ensures.value c.in_ok-name.ensures c.if-branch.true c.loop-number.invariant

pub unreachable-requires : goal.unreachable-requires
unreachable-requires c =
    all_tried c.path_laws.ensures.directory c.requires.may (keys_of (map drafted c.args.given.now.order.items)) c.args.path.now c.loop-number.number (omega (arith, c.requires.few, length-names c.args.given.now.order.items)) c.loop-number-test.false
    c.loop-number.invariant
