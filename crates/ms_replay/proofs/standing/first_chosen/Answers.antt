use Rattle.std.proofs.Common.{◌≡◌, sym, refl, arith, length, Some, subst, slice_get}
use Rattle.std.proofs.lemmas.Option.{slice_get_read, slice_get_within}
use Rattle.ms_record.specs.declared.entry.Entry.{Entry}
use Rattle.ms_replay.specs.Standings.{IsGiven}
use Rattle.ms_replay.specs.Winners.{HasMajority}
use Rattle.ms_replay.proofs.Groups.{group_majority, first_winner, starts_next, passed_next, one_entry}
use Rattle.ms_replay.proofs.standing.first_chosen.Goals as goal

pub returns-then-is_another-clause-some : goal.returns-then-is_another-clause-some
returns-then-is_another-clause-some c =
    let part = c.args.part.now in
    let w = c.index-part-from.result in
    let gw : slice_get part c.loop-from.from ≡ Some w = slice_get_read part (length part) c.loop-from.from w refl c.loop-from-test.true c.index-part-from.is in
    let e = group_majority c.args.position c.args.voters.now part _ c.loop-from.from c.group_end-to.result w c.requires c.group_end-to.ensures c.loop-from.invariant.starts refl gw in
    let major : HasMajority part c.args.voters.now w.text = (let h = c.is_majority.ensures.0 c.if-is_majority.true in omega (arith, e)) in
    first_winner c.args.position c.args.voters.now part c.args.but.now c.loop-from.from w c.entry-entry.result c.requires gw c.entry-entry.ensures major (c.is_another.ensures.yes c.if-is_another.true) c.loop-from.invariant.none

pub loop-from-preserved-else-is_another : goal.loop-from-preserved-else-is_another
loop-from-preserved-else-is_another c =
    let part = c.args.part.now in
    let w = c.index-part-from.result in
    let gw : slice_get part c.loop-from.from ≡ Some w = slice_get_read part (length part) c.loop-from.from w refl c.loop-from-test.true c.index-part-from.is in
    record {
      within = c.group_end-to.ensures.within;
      starts = starts_next part c.loop-from.from c.group_end-to.result w c.group_end-to.ensures gw;
      none = passed_next part c.args.voters.now c.args.position c.args.but.now c.loop-from.from c.group_end-to.result w c.group_end-to.ensures gw c.loop-from.invariant.none
          (λ b e reads major.
          let one = one_entry w w c.args.position w.position b w.ballot e c.entry-entry.result refl reads c.entry-entry.ensures in
          subst (λ (x : Entry). IsGiven c.args.but.now x) (sym one.2) (c.is_another.ensures.no c.if-is_another.false));
    }

pub loop-from-preserved : goal.loop-from-preserved
loop-from-preserved c =
    let part = c.args.part.now in
    let w = c.index-part-from.result in
    let gw : slice_get part c.loop-from.from ≡ Some w = slice_get_read part (length part) c.loop-from.from w refl c.loop-from-test.true c.index-part-from.is in
    let same = group_majority c.args.position c.args.voters.now part _ c.loop-from.from c.group_end-to.result w c.requires c.group_end-to.ensures c.loop-from.invariant.starts refl gw in
    record {
      within = c.group_end-to.ensures.within;
      starts = starts_next part c.loop-from.from c.group_end-to.result w c.group_end-to.ensures gw;
      none = passed_next part c.args.voters.now c.args.position c.args.but.now c.loop-from.from c.group_end-to.result w c.group_end-to.ensures gw c.loop-from.invariant.none
          (λ b e reads major.
          let yes = c.is_majority.ensures.1 (omega (arith, same, major)) in
          let no = c.if-is_majority.false in absurd cc);
    }

pub returns-clause-none : goal.returns-clause-none
returns-clause-none c = λ b e w.
    let l = slice_get_within c.args.part.now w.place w.vote w.stands in
    c.loop-from.invariant.none w.place w.vote b e (omega arith) w.stands w.reads w.majority
