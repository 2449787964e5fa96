use Rattle.std.proofs.Common.{◌≡◌, ◌+◌, Ok, Err, refl, sym, ap, ◌∙◌, subst, length, length-append, arith}
use Rattle.ms_record.specs.declared.refusal.Refusal.{Refusal}
use Rattle.ms_record.specs.declared.refusal.Rival.{Rival}
use Rattle.std.proofs.Common.{List, ℕ}
use Rattle.ms_local.specs.Desks.{desk_view}
use Rattle.ms_local.specs.Rules.{Bidding}
use Rattle.ms_bid.specs.declared.act.Outcome.{Outcome}
use Rattle.ms_bid.specs.declared.act.Outcome.TheVariants.{Outbid}
use Rattle.ms_bid.specs.Bids.{ballot_of_round}
use Rattle.ms_propose.specs.Bidding.{BidMade, intent_of}
use Rattle.ms_propose.specs.Leaving.{Bids, slack_of}
use Rattle.ms_propose.specs.Proposing.{BidsMade, Proposed, slack_after}
use Rattle.ms_propose.proofs.Composing.{leaves_on, leaves_self}
use Rattle.ms_propose.proofs.Proposals.{answered, bids_none, contended, halted_there, last_position, last_round, leaves_looser, made_there, mine_of, no_memory, no_room, one_more, outbid_more, rose_back, says_of, seated_on, setting_on, slack_is, unlimited}
use Rattle.ms_propose.proofs.proposal.propose.Goals as goal

pub returns-then-position-gt-LAST_NUMBER-clause-deeds : goal.returns-then-position-gt-LAST_NUMBER-clause-deeds
returns-then-position-gt-LAST_NUMBER-clause-deeds g c = λ s top wide.
    last_position (intent_of c.args.want c.args.voters.now c.args.position) (desk_view g.W.Work.sees g.K.Keeper.sees g.L.Link.sees c.args.desk.now) s c.args.kept.now.round c.if-position-gt-LAST_NUMBER.true top wide

pub returns-then-position-gt-LAST_NUMBER-clause-leaves : goal.returns-then-position-gt-LAST_NUMBER-clause-leaves
returns-then-position-gt-LAST_NUMBER-clause-leaves g c =
    leaves_self (desk_view g.W.Work.sees g.K.Keeper.sees g.L.Link.sees c.args.desk.now) c.args.kept.now 0 c.requires.state c.requires.ranges

pub loop-bid-init : goal.loop-bid-init
loop-bid-init g c = record {
  desk = c.requires.desk;
  leaves = leaves_self (desk_view g.W.Work.sees g.K.Keeper.sees g.L.Link.sees c.args.desk.now) c.args.kept.now 0 c.requires.state c.requires.ranges;
  made = λ s top wide.
      subst (λ (rivals : List Rival). BidsMade c.args.desk.now.client.0 c.args.desk.now.services (intent_of c.args.want c.args.voters.now c.args.position) c.args.desk.now.deeds c.args.desk.now.deeds s c.args.kept.now.round rivals)
      (sym c.new-rivals.ensures)
      (bids_none c.args.desk.now.client.0 c.args.desk.now.services (intent_of c.args.want c.args.voters.now c.args.position) c.args.desk.now.deeds s c.args.desk.now.deeds c.args.kept.now.round refl top wide);
  count = ap length c.new-rivals.ensures;
}

pub returns-then-kept-clause-deeds : goal.returns-then-kept-clause-deeds
returns-then-kept-clause-deeds g c = λ s top wide.
    last_round (intent_of c.args.want c.args.voters.now c.args.position)
    (desk_view g.W.Work.sees g.K.Keeper.sees g.L.Link.sees c.args.desk.now) (desk_view g.W.Work.sees g.K.Keeper.sees g.L.Link.sees c.loop-bid.desk)
    s c.loop-bid.kept.round c.loop-bid.rivals c.if-kept.true (omega (arith, c.loop-bid.invariant.count, c.loop-bid-test.true)) (c.loop-bid.invariant.made s top wide)

pub one_bid-requires-clause-setting : goal.one_bid-requires-clause-setting
one_bid-requires-clause-setting g c =
    setting_on (desk_view g.W.Work.sees g.K.Keeper.sees g.L.Link.sees c.args.desk.now) (desk_view g.W.Work.sees g.K.Keeper.sees g.L.Link.sees c.loop-bid.desk) c.args.setting.now
    c.requires.desk c.loop-bid.invariant.leaves.effect c.requires.setting

pub one_bid-requires-clause-seated : goal.one_bid-requires-clause-seated
one_bid-requires-clause-seated g c =
    seated_on (desk_view g.W.Work.sees g.K.Keeper.sees g.L.Link.sees c.args.desk.now) (desk_view g.W.Work.sees g.K.Keeper.sees g.L.Link.sees c.loop-bid.desk) c.args.position c.args.voters.now c.args.want
    c.requires.desk c.loop-bid.invariant.leaves.effect c.requires.seated

pub returns-in-Err-push-clause-deeds : goal.returns-in-Err-push-clause-deeds
returns-in-Err-push-clause-deeds g c = λ s top wide.
    let first = desk_view g.W.Work.sees g.K.Keeper.sees g.L.Link.sees c.args.desk.now in
    let now = desk_view g.W.Work.sees g.K.Keeper.sees g.L.Link.sees c.loop-bid.desk in
    let new = desk_view g.W.Work.sees g.K.Keeper.sees g.L.Link.sees c.one_bid.new.desk in
    let intent = intent_of c.args.want c.args.voters.now c.args.position in
    let made = made_there first now _ intent now.deeds new.deeds c.loop-bid.kept.round c.one_bid.new.kept.round _ c.loop-bid.invariant.leaves.effect c.in-Ok-Outbid.ensures.made in
    let more = one_more first.client first.services intent first.deeds s now.deeds new.deeds _ c.loop-bid.kept.round c.one_bid.new.kept.round c.loop-bid.rivals _ (c.loop-bid.invariant.made s top wide) made in
    subst (λ (e : Refusal). Proposed intent first new s c.one_bid.new.kept.round (Err e)) (sym c.into.ensures)
    (no_room intent first new s c.one_bid.new.kept.round c.loop-bid.rivals (omega (arith, c.loop-bid.invariant.count, c.loop-bid-test.true)) now.deeds _ _ more)

pub returns-in-Err-push-clause-leaves : goal.returns-in-Err-push-clause-leaves
returns-in-Err-push-clause-leaves g c =
    let first = desk_view g.W.Work.sees g.K.Keeper.sees g.L.Link.sees c.args.desk.now in
    let now = desk_view g.W.Work.sees g.K.Keeper.sees g.L.Link.sees c.loop-bid.desk in
    let new = desk_view g.W.Work.sees g.K.Keeper.sees g.L.Link.sees c.one_bid.new.desk in
    subst (λ (e : Refusal). Bids (slack_after e) first new c.args.kept.now c.one_bid.new.kept) (sym c.into.ensures)
    (leaves_looser first new c.args.kept.now c.one_bid.new.kept (leaves_on first now new c.args.kept.now c.loop-bid.kept c.one_bid.new.kept 0 0 c.loop-bid.invariant.leaves
    (subst (λ (o : Outcome). Bids (slack_of (Ok o)) now new c.loop-bid.kept c.one_bid.new.kept) c.in-Ok-Outbid.field-0-is c.in-Ok-Outbid.ensures.leaves)))

pub returns-in-Ok : goal.returns-in-Ok
returns-in-Ok g c =
    let first = desk_view g.W.Work.sees g.K.Keeper.sees g.L.Link.sees c.args.desk.now in
    let now = desk_view g.W.Work.sees g.K.Keeper.sees g.L.Link.sees c.loop-bid.desk in
    let new = desk_view g.W.Work.sees g.K.Keeper.sees g.L.Link.sees c.one_bid.new.desk in
    let intent = intent_of c.args.want c.args.voters.now c.args.position in
    let goes = c.loop-bid.invariant.leaves.effect in
    record {
      deeds = λ s top wide.
          let made = made_there first now _ intent now.deeds new.deeds c.loop-bid.kept.round c.one_bid.new.kept.round c.in-Ok.outcome goes c.in-Ok.ensures.made in
          let more = one_more first.client first.services intent first.deeds s now.deeds new.deeds _ c.loop-bid.kept.round c.one_bid.new.kept.round c.loop-bid.rivals c.in-Ok.outcome (c.loop-bid.invariant.made s top wide) made in
          answered intent first new s c.one_bid.new.kept.round c.loop-bid.rivals c.requires.desk.few_services
          (λ x v. omega (arith, c.requires.voters x v, c.requires.setting.services)) (omega (arith, c.loop-bid.invariant.count, c.loop-bid-test.true)) now.deeds _ c.in-Ok.outcome c.answer_to.result more
          (rose_back first now new c.args.voters.now c.args.position c.in-Ok.outcome goes c.in-Ok.ensures.shows) c.answer_to.ensures;
      limit = (λ l. absurd (omega (arith, l, c.if-position-gt-LAST_NUMBER.false)), λ e. absurd (unlimited _ c.args.want c.in-Ok.outcome c.answer_to.result _ c.answer_to.ensures e));
      mine = mine_of _ c.args.want c.in-Ok.outcome c.answer_to.result c.answer_to.ensures;
      says = says_of first now new c.args.voters.now c.args.position _ c.args.want c.in-Ok.outcome c.answer_to.result goes c.in-Ok.ensures.shows c.answer_to.ensures;
      leaves = subst (λ (slack : ℕ). Bids slack first new c.args.kept.now c.one_bid.new.kept) (slack_is _ c.args.want c.in-Ok.outcome c.answer_to.result c.answer_to.ensures)
          (leaves_on first now new c.args.kept.now c.loop-bid.kept c.one_bid.new.kept 0 _ c.loop-bid.invariant.leaves c.in-Ok.ensures.leaves);
      desk = c.in-Ok.ensures.desk;
    }

pub returns-in-Err-clause-deeds : goal.returns-in-Err-clause-deeds
returns-in-Err-clause-deeds g c = λ s top wide.
    let first = desk_view g.W.Work.sees g.K.Keeper.sees g.L.Link.sees c.args.desk.now in
    let now = desk_view g.W.Work.sees g.K.Keeper.sees g.L.Link.sees c.loop-bid.desk in
    let new = desk_view g.W.Work.sees g.K.Keeper.sees g.L.Link.sees c.one_bid.new.desk in
    let intent = intent_of c.args.want c.args.voters.now c.args.position in
    let made = halted_there first now intent now.deeds new.deeds c.loop-bid.kept.round c.one_bid.new.kept.round c.loop-bid.invariant.leaves.effect c.in-Err.ensures.broken in
    subst (λ (e : Refusal). Proposed intent first new s c.one_bid.new.kept.round (Err e)) (sym c.into-in-Err.ensures)
    (no_memory intent first new s c.one_bid.new.kept.round c.loop-bid.rivals (omega (arith, c.loop-bid.invariant.count, c.loop-bid-test.true)) now.deeds c.loop-bid.kept.round (c.loop-bid.invariant.made s top wide) made)

pub returns-in-Err-clause-leaves : goal.returns-in-Err-clause-leaves
returns-in-Err-clause-leaves g c =
    let first = desk_view g.W.Work.sees g.K.Keeper.sees g.L.Link.sees c.args.desk.now in
    let now = desk_view g.W.Work.sees g.K.Keeper.sees g.L.Link.sees c.loop-bid.desk in
    let new = desk_view g.W.Work.sees g.K.Keeper.sees g.L.Link.sees c.one_bid.new.desk in
    subst (λ (e : Refusal). Bids (slack_after e) first new c.args.kept.now c.one_bid.new.kept) (sym c.into-in-Err.ensures)
    (leaves_on first now new c.args.kept.now c.loop-bid.kept c.one_bid.new.kept 0 1 c.loop-bid.invariant.leaves c.in-Err.ensures.leaves)

pub loop-bid-preserved : goal.loop-bid-preserved
loop-bid-preserved g c =
    let first = desk_view g.W.Work.sees g.K.Keeper.sees g.L.Link.sees c.args.desk.now in
    let now = desk_view g.W.Work.sees g.K.Keeper.sees g.L.Link.sees c.loop-bid.desk in
    let new = desk_view g.W.Work.sees g.K.Keeper.sees g.L.Link.sees c.one_bid.new.desk in
    let intent = intent_of c.args.want c.args.voters.now c.args.position in
    let ballot = ballot_of_round (c.loop-bid.kept.round + 1) c.loop-bid.desk.client in
    let outbid = Outbid c.in-Ok-Outbid.service c.in-Ok-Outbid.top in
    let made = made_there first now ballot intent now.deeds new.deeds c.loop-bid.kept.round c.one_bid.new.kept.round outbid c.loop-bid.invariant.leaves.effect
    (subst (λ (o : Outcome). (x : Bidding) → x.top ≡ c.loop-bid.kept.round → length x.failed ≡ now.services → BidMade now.client now.services ballot intent now.deeds new.deeds x c.one_bid.new.kept.round o) c.in-Ok-Outbid.field-0-is c.in-Ok-Outbid.ensures.made) in
    let pushed = c.in_default.ensures.ok in
    record {
      desk = c.in-Ok-Outbid.ensures.desk;
      leaves = leaves_on first now new c.args.kept.now c.loop-bid.kept c.one_bid.new.kept 0 0 c.loop-bid.invariant.leaves
          (subst (λ (o : Outcome). Bids (slack_of (Ok o)) now new c.loop-bid.kept c.one_bid.new.kept) c.in-Ok-Outbid.field-0-is c.in-Ok-Outbid.ensures.leaves);
      made = λ s top wide.
          subst (λ (rivals : List Rival). BidsMade first.client first.services intent first.deeds new.deeds s c.one_bid.new.kept.round rivals) (sym pushed)
          (outbid_more first.client first.services intent first.deeds s now.deeds new.deeds ballot c.one_bid.new.kept.round c.loop-bid.rivals c.in-Ok-Outbid.service c.in-Ok-Outbid.top
          (one_more first.client first.services intent first.deeds s now.deeds new.deeds ballot c.loop-bid.kept.round c.one_bid.new.kept.round c.loop-bid.rivals outbid (c.loop-bid.invariant.made s top wide) made));
      count = ap length pushed ∙ (length-append c.loop-bid.rivals _ ∙ ap (λ (k : ℕ). k + 1) c.loop-bid.invariant.count);
    }

pub returns-clause-deeds : goal.returns-clause-deeds
returns-clause-deeds g c = λ s top wide.
    contended (intent_of c.args.want c.args.voters.now c.args.position)
    (desk_view g.W.Work.sees g.K.Keeper.sees g.L.Link.sees c.args.desk.now) (desk_view g.W.Work.sees g.K.Keeper.sees g.L.Link.sees c.loop-bid.desk)
    s c.loop-bid.kept.round c.loop-bid.rivals (omega (arith, c.loop-bid.invariant.count, c.loop-bid-test.false, c.loop-bid.auto._bid-end)) (c.loop-bid.invariant.made s top wide)
