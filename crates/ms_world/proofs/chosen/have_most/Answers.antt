use Rattle.std.proofs.Common.{◌≡◌, length, ap, arith}
use Rattle.ms_world.proofs.Majorities.{one_if, vote_count_push, vote_count_most, most_vote_count, more_than_half}
use Rattle.ms_world.proofs.chosen.have_most.Goals as goal
use Rattle.ms_world.proofs.chosen.have_most.Goals.{then-has_vote, else-has_vote}

pub loop-list-preserved : goal.loop-list-preserved
loop-list-preserved c =
    let h = c.loop-list.invariant in
    let on = vote_count_push c.args.lists.now c.args.vote.now c.loop-list.list-index c.loop-list.count c.if-has_vote.count c.list-item.result c.as_slice.result.now c.has_vote.result c.loop-list-test.true c.list-item.is
    c.as_slice.ensures c.has_vote.ensures in
    elim c.if-has_vote.branch [
      | then-has_vote w ↦ (let t = ap one_if w.if-has_vote.true in record { few = omega (arith, w.count-is, h.few); counted = on (omega (arith, w.count-is, t)) h.counted })
      | else-has_vote w ↦ (let t = ap one_if w.if-has_vote.false in record { few = omega (arith, w.count-is, h.few); counted = on (omega (arith, w.count-is, t)) h.counted })
    ]

pub returns : goal.returns
returns c =
    let h = c.loop-list.invariant in
    let half = more_than_half (length c.args.lists.now) c.loop-list.count in
    let all : c.loop-list.list-index ≡ length c.args.lists.now = omega arith in (
      λ so. vote_count_most c.args.lists.now c.args.vote.now c.loop-list.list-index c.loop-list.count all (omega (arith, half.0 so, all)) h.counted,
      λ most. half.1 (omega (arith, most_vote_count c.args.lists.now c.args.vote.now c.loop-list.list-index c.loop-list.count all h.counted most, all)),
    )
