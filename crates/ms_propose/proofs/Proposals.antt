-- Bids one after another.
use Rattle.std.proofs.Common.{◌≡◌, ◌↔◌, ℕ, ◌+◌, ◌≤◌, ◌<◌, Bool, true, false, List, [], ◌∷◌, ◌++◌, Option, Some, Result, Ok, Err, inl, inr, refl, sym, ap, ◌∙◌, subst, length, length-append, append_assoc, arith}
use Rattle.std.specs.Prelude.{Contains, IfOk, IfSome, IsTrue}
use Rattle.std.proofs.lemmas.List.Elements.{All-append, All-push}
use Rattle.std.proofs.lemmas.List.{append-nil}
use mathlib.Core.List.{IsPrefix}
use Rattle.ms_base.specs.Counts.{Rose}
use Rattle.ms_base.specs.Places.{alone, append_cases}
use Rattle.ms_base.specs.declared.limits.TheConstants.{LAST_NUMBER, GREATEST_NUMBER}
use Rattle.ms_base.specs.declared.names.Quantity.TheVariants.{Position, Round}
use Rattle.ms_base.specs.declared.names.ServiceId.{ServiceId}
use Rattle.ms_bid.specs.declared.act.Act.{Act}
use Rattle.ms_bid.specs.declared.act.Outcome.{Outcome}
use Rattle.ms_bid.specs.declared.act.Outcome.TheVariants.{Decided as DecidedEnd, Nothing, Outbid, NoMajority as NoMajorityEnd, Unlisted as UnlistedEnd, KeepFault}
use Rattle.ms_bid.specs.Bids.{IsEnd, IsPending}
use Rattle.ms_core.specs.Closing.{logs_grow}
use Rattle.ms_core.specs.Views.{log_in, votes_told}
use Rattle.ms_link.specs.Composing.{rose_before}
use Rattle.ms_record.specs.declared.ballot.Ballot.{Ballot}
use Rattle.ms_record.specs.declared.entry.Entry.{Entry}
use Rattle.ms_record.specs.declared.record.Record.TheVariants.{Accept}
use Rattle.ms_record.specs.declared.refusal.Refusal.{Refusal}
use Rattle.ms_record.specs.declared.refusal.Refusal.TheVariants as refusals
use Rattle.ms_record.specs.declared.refusal.Rival.{Rival}
use Rattle.ms_record.specs.declared.setting.Setting.{Setting}
use Rattle.ms_record.specs.Growing.{chosen_grows, votes_grow}
use Rattle.ms_local.specs.declared.deed.Deed.{Deed}
use Rattle.ms_local.specs.declared.kept.Kept.{Kept}
use Rattle.ms_local.specs.Desks.{DeskView, IsDesk, KnowsTold}
use Rattle.ms_local.specs.Rules.{Bidding, Did, Intent, IsDecided}
use Rattle.ms_local.specs.Running.{did_nothing, did_on}
use Rattle.ms_propose.specs.declared.proposal.Decided.{Decided}
use Rattle.ms_propose.specs.Bidding.{BidBroken, BidHalted, BidMade, Ends, EndsAs, WasOutbid, offer_record}
use Rattle.ms_propose.specs.Going.{DeskBids}
use Rattle.ms_propose.specs.Leaving.{Bids, IsSettingOf, Shows, slack_of}
use Rattle.ms_propose.specs.Proposing.{AreOutbid, BidsMade, IsAnswer, IsAnswerTo, Proposed, Says, slack_at}
use Rattle.ms_propose.specs.TrueBids.{IsSeated}
use Rattle.ms_propose.proofs.Composing.{bids_client, bids_services, told_back}
use Rattle.ms_propose.proofs.Growing.{seated_more}
use Rattle.ms_propose.proofs.Offering.{taken_majority}

-- ---- what bids leave

-- with more slack
pub leaves_looser : (old new : DeskView) (before after : Kept) → Bids 0 old new before after → Bids 1 old new before after
leaves_looser old new before after h = record {
  effect = h.effect;
  history = h.history;
  truths = h.truths;
  kinds = h.kinds;
  kept_there = h.kept_there;
  stays_kept = h.stays_kept;
  state = λ told. let s = h.state told in (s.0, s.1, s.2, omega (arith, s.3));
  ranges = h.ranges;
  round = h.round;
}

-- where a linked list ends before the position and its voters vote there, it is so at each later moment of the desk
pub seated_on : (first now : DeskView) (position : ℕ) (voters : List ℕ) (want : Option Entry) → IsDesk first → DeskBids first now → ((setting : Setting) → KnowsTold first setting → IsSeated setting first.pass.lists position voters want)
    → (setting : Setting) → KnowsTold now setting → IsSeated setting now.pass.lists position voters want
seated_on first now position voters want desk goes seated setting told =
    seated_more setting first.pass.lists first.pass.lists now.pass.lists goes.more position voters want (seated setting (told_back first now setting desk goes told))

pub setting_on : (first now : DeskView) (setting : Setting) → IsDesk first → DeskBids first now → IsSettingOf setting first → IsSettingOf setting now
setting_on first now setting desk goes h = record {
  ranges = h.ranges;
  services = h.services ∙ sym (bids_services first now goes);
  client = omega (arith, h.client, bids_client first now goes);
  told = λ other told. h.told other (told_back first now other desk goes told);
}

-- ---- deeds

module _ (who n : ℕ) (intent : Intent) (old : List Deed) (s : Bidding) where
  wider : (now new : List Deed) → IsPrefix now new → (number : ℕ) (service : ServiceId) (top : Ballot) → WasOutbid who n intent old now s number service top → WasOutbid who n intent old new s number service top
  wider now new more number service top h = record {
    mid = h.mid;
    among = (h.among.0 ++ more.0, sym (append_assoc h.mid h.among.0 more.0) ∙ (ap (λ (xs : List Deed). xs ++ more.0) h.among.1 ∙ more.1));
    own = h.own;
    after = h.after;
    did = h.did;
    nth = h.nth;
    own_is = h.own_is;
    ballot = h.ballot;
    round = h.round;
    ends = h.ends;
  }

  all_wider : (now new : List Deed) → IsPrefix now new → (rivals : List Rival) → AreOutbid who n intent old now s rivals → AreOutbid who n intent old new s rivals
  all_wider now new more rivals h number r at = wider now new more number r.service r.top (h number r at)

  one_rival_more : (now : List Deed) (rivals : List Rival) (last : Rival) → AreOutbid who n intent old now s rivals → WasOutbid who n intent old now s (length rivals) last.service last.top
      → AreOutbid who n intent old now s (rivals ++ last ∷ [])
  one_rival_more now rivals last h w number r at = elim (append_cases rivals (last ∷ []) number r at) [
    | inl was ↦ h number r was
    | inr x ↦ (
        let o = alone last r x.0 x.2 in
        let same : length rivals ≡ number = omega (arith, o.0, x.1) in
        subst (λ (y : Rival). WasOutbid who n intent old now s number y.service y.top) o.1 (subst (λ (k : ℕ). WasOutbid who n intent old now s k last.service last.top) same w)
        )
  ]

  -- one bid more, behind these deeds
  pub record OneMore (now new : List Deed) (ballot : Ballot) (round : ℕ) (rivals : List Rival) (outcome : Outcome) : Type 0 where
    pub bids : BidBroken who n intent old new s round
    pub each : length bids.own ≡ length rivals + 1
    pub earlier : AreOutbid who n intent old new s rivals
    pub begins : IsPrefix old now
    pub ends : Ends who n ballot intent now new bids.after round outcome

  pub bids_none : (now : List Deed) (round : ℕ) → now ≡ old → s.top ≡ round → length s.failed ≡ n → BidsMade who n intent old now s round []
  bids_none now round same top wide = record {
    bids = record { own = []; after = s; did = subst (λ (xs : List Deed). Did who old xs s [] s) (sym same) (did_nothing who old s); own_is = λ k d l. absurd (omega (arith, l)); top_is = top; services_is = wide };
    each = refl;
    outbid = λ number r at. absurd cc;
  }

  pub one_more : (now new : List Deed) (ballot : Ballot) (round after : ℕ) (rivals : List Rival) (outcome : Outcome) → BidsMade who n intent old now s round rivals
      → ((x : Bidding) → x.top ≡ round → length x.failed ≡ n → BidMade who n ballot intent now new x after outcome) → OneMore now new ballot after rivals outcome
  one_more now new ballot round after rivals outcome h made =
      let m = made h.bids.after h.bids.top_is h.bids.services_is in
      record {
        bids = record {
          own = h.bids.own ++ intent ∷ [];
          after = m.after;
          did = did_on who old now new s h.bids.after m.after h.bids.own (intent ∷ []) h.bids.did m.did;
          own_is = All-push (λ (i : Intent). i ≡ intent) h.bids.own intent h.bids.own_is refl;
          top_is = m.top_is;
          services_is = m.services_is;
        };
        each = length-append h.bids.own (intent ∷ []) ∙ ap (λ (k : ℕ). k + 1) h.each;
        earlier = all_wider now new (m.did.deeds, sym m.did.grows) rivals h.outbid;
        begins = (h.bids.did.deeds, sym h.bids.did.grows);
        ends = m.ends;
      }

  pub outbid_more : (now new : List Deed) (ballot : Ballot) (round : ℕ) (rivals : List Rival) (service : ServiceId) (top : Ballot) → OneMore now new ballot round rivals (Outbid service top)
      → BidsMade who n intent old new s round (rivals ++ record { service = service; top = top } ∷ [])
  outbid_more now new ballot round rivals service top h = record {
    bids = h.bids;
    each = h.each ∙ sym (length-append rivals (record { service = service; top = top } ∷ []));
    outbid = one_rival_more new rivals (record { service = service; top = top }) h.earlier (record {
      mid = new;
      among = ([], append-nil new);
      own = h.bids.own;
      after = h.bids.after;
      did = h.bids.did;
      nth = h.each;
      own_is = h.bids.own_is;
      ballot = ballot;
      round = round;
      ends = h.ends;
    });
  }

-- a bid at a later moment of a desk, by the desk's client and services
pub made_there : (first now : DeskView) (ballot : Ballot) (intent : Intent) (old new : List Deed) (round after : ℕ) (outcome : Outcome) → DeskBids first now
    → ((x : Bidding) → x.top ≡ round → length x.failed ≡ now.services → BidMade now.client now.services ballot intent old new x after outcome)
    → (x : Bidding) → x.top ≡ round → length x.failed ≡ first.services → BidMade first.client first.services ballot intent old new x after outcome
made_there first now ballot intent old new round after outcome goes h =
    subst (λ (k : ℕ). (x : Bidding) → x.top ≡ round → length x.failed ≡ k → BidMade first.client k ballot intent old new x after outcome) (bids_services first now goes)
    (subst (λ (k : ℕ). (x : Bidding) → x.top ≡ round → length x.failed ≡ now.services → BidMade k now.services ballot intent old new x after outcome) (bids_client first now goes) h)

pub halted_there : (first now : DeskView) (intent : Intent) (old new : List Deed) (round after : ℕ) → DeskBids first now
    → ((x : Bidding) → x.top ≡ round → length x.failed ≡ now.services → BidHalted now.client now.services intent old new x after)
    → (x : Bidding) → x.top ≡ round → length x.failed ≡ first.services → BidHalted first.client first.services intent old new x after
halted_there first now intent old new round after goes h =
    subst (λ (k : ℕ). (x : Bidding) → x.top ≡ round → length x.failed ≡ k → BidHalted first.client k intent old new x after) (bids_services first now goes)
    (subst (λ (k : ℕ). (x : Bidding) → x.top ≡ round → length x.failed ≡ now.services → BidHalted k now.services intent old new x after) (bids_client first now goes) h)

-- ---- ends

end_is : (who n : ℕ) (ballot : Ballot) (intent : Intent) (t : Bidding) (round : ℕ) (outcome : Outcome) (e : EndsAs who n ballot intent t round outcome) → IsEnd e.bid outcome
end_is who n ballot intent t round outcome e = subst (λ (a : Act). IsPending e.bid a) e.act e.whole.pending

-- a decided bid is one by the rules of deeds
decided_rule : (who n : ℕ) (few : n ≤ 16) (ballot : Ballot) (intent : Intent) (t : Bidding) (round : ℕ) (entry : Entry) → ((s : ℕ) → Contains intent.voters s → s < n) → EndsAs who n ballot intent t round (DecidedEnd entry) → IsDecided t intent.position entry
decided_rule who n few ballot intent t round entry below e =
    let b = e.bid in
    let m = e.mirrors in
    let ends = end_is who n ballot intent t round (DecidedEnd entry) e in
    let under : (x : ℕ) → Contains b.voters x → x < n = λ x v. below x (subst (λ (xs : List ℕ). Contains xs x) e.voters_are v) in
    subst (λ (x : Bidding). IsDecided x intent.position entry) (sym m.is)
    (record {
      ballot = b.ballot;
      offered = ap (offer_record b.position b.ballot) ends.1 ∙ ap (λ (k : ℕ). Some (Accept k b.ballot entry)) e.position_is;
      majority = taken_majority n few b.voters under b.second_looks e.whole.framed.second_many e.whole.framed.second_of ends.2;
    })

-- ---- answers

module _ (intent : Intent) (old new : DeskView) (s : Bidding) (round : ℕ) (rivals : List Rival) where
  -- how the last bid ended, by its answer
  answer_is : old.services ≤ 16 → ((x : ℕ) → Contains intent.voters x → x < old.services) → (now : List Deed) (ballot : Ballot) (outcome : Outcome) (answer : Result (Option Decided) Refusal)
      → (h : OneMore old.client old.services intent old.deeds s now new.deeds ballot round rivals outcome) → (outcome ≡ KeepFault → Rose old.keep.faults new.keep.faults) → IsAnswerTo outcome ballot intent.want answer
      → IsAnswer intent old new s h.bids.own h.bids.after round answer
  answer_is few below now ballot (DecidedEnd entry) answer h rose (mine, is, wanted) =
      subst (λ (a : Result (Option Decided) Refusal). IsAnswer intent old new s h.bids.own h.bids.after round a) (sym is) (ballot, h.ends, decided_rule old.client old.services few ballot intent h.bids.after round entry below h.ends)
  answer_is few below now ballot Nothing answer h rose is =
      subst (λ (a : Result (Option Decided) Refusal). IsAnswer intent old new s h.bids.own h.bids.after round a) (sym is)
      (ballot, h.ends, sym h.ends.want_is ∙ (end_is old.client old.services ballot intent h.bids.after round Nothing h.ends).1.settles)
  answer_is few below now ballot (NoMajorityEnd flags) answer h rose (failed, is, are) =
      subst (λ (a : Result (Option Decided) Refusal). IsAnswer intent old new s h.bids.own h.bids.after round a) (sym is) (ballot, flags, h.ends, are)
  answer_is few below now ballot (UnlistedEnd service) answer h rose is = subst (λ (a : Result (Option Decided) Refusal). IsAnswer intent old new s h.bids.own h.bids.after round a) (sym is) h.ends
  answer_is few below now ballot KeepFault answer h rose is =
      subst (λ (a : Result (Option Decided) Refusal). IsAnswer intent old new s h.bids.own h.bids.after round a) (sym is)
      (rose refl, record { earlier = now; begins = h.begins; round = ballot.round; last = h.ends })
  answer_is few below now ballot (Outbid service top) answer h rose is = absurd is

  -- the last bid was not outbid
  pub answered : old.services ≤ 16 → ((x : ℕ) → Contains intent.voters x → x < old.services) → length rivals < 16 → (now : List Deed) (ballot : Ballot) (outcome : Outcome) (answer : Result (Option Decided) Refusal)
      → OneMore old.client old.services intent old.deeds s now new.deeds ballot round rivals outcome → (outcome ≡ KeepFault → Rose old.keep.faults new.keep.faults) → IsAnswerTo outcome ballot intent.want answer
      → Proposed intent old new s round answer
  answered few below less now ballot outcome answer h rose is = record {
    bids = h.bids;
    few = omega (arith, less, h.each);
    rivals = rivals;
    outbid = h.earlier;
    but_last = omega (arith, h.each);
    answer = answer_is few below now ballot outcome answer h rose is;
  }

  pub contended : length rivals ≡ 16 → BidsMade old.client old.services intent old.deeds new.deeds s round rivals → Proposed intent old new s round (Err (refusals.Contended rivals))
  contended full h = record { bids = h.bids; few = omega (arith, h.each, full); rivals = rivals; outbid = h.outbid; but_last = omega (arith, h.each); answer = (h.each ∙ full, full, h.outbid) }

  pub last_round : round ≡ LAST_NUMBER → length rivals < 16 → BidsMade old.client old.services intent old.deeds new.deeds s round rivals → Proposed intent old new s round (Err (refusals.Limit Round GREATEST_NUMBER))
  last_round last less h = record { bids = h.bids; few = omega (arith, h.each, less); rivals = rivals; outbid = h.outbid; but_last = omega (arith, h.each); answer = (refl, last, omega (arith, h.each, less)) }

  -- no memory for what outbid the last bid
  pub no_room : length rivals < 16 → (now : List Deed) (ballot : Ballot) (outcome : Outcome) → OneMore old.client old.services intent old.deeds s now new.deeds ballot round rivals outcome
      → Proposed intent old new s round (Err refusals.NoMemory)
  no_room less now ballot outcome h = record { bids = h.bids; few = omega (arith, less, h.each); rivals = rivals; outbid = h.earlier; but_last = omega (arith, h.each); answer = tt }

  -- no memory in the last bid
  pub no_memory : length rivals < 16 → (now : List Deed) (before : ℕ) → BidsMade old.client old.services intent old.deeds now s before rivals
      → ((x : Bidding) → x.top ≡ before → length x.failed ≡ old.services → BidHalted old.client old.services intent now new.deeds x round) → Proposed intent old new s round (Err refusals.NoMemory)
  no_memory less now before h made =
      let m = made h.bids.after h.bids.top_is h.bids.services_is in
      let own : List Intent = h.bids.own ++ m.broken.own in
      let many : length own ≤ length rivals + 1 = omega (arith, length-append h.bids.own m.broken.own, h.each, m.few) in
      record {
        bids = record {
          own = own;
          after = m.broken.after;
          did = did_on old.client old.deeds now new.deeds s h.bids.after m.broken.after h.bids.own m.broken.own h.bids.did m.broken.did;
          own_is = All-append (λ (i : Intent). i ≡ intent) h.bids.own m.broken.own h.bids.own_is m.broken.own_is;
          top_is = m.broken.top_is;
          services_is = m.broken.services_is;
        };
        few = omega (arith, many, less);
        rivals = rivals;
        outbid = all_wider old.client old.services intent old.deeds s now new.deeds (m.broken.did.deeds, sym m.broken.did.grows) rivals h.outbid;
        but_last = many;
        answer = tt;
      }

pub last_position : (intent : Intent) (desk : DeskView) (s : Bidding) (round : ℕ) → LAST_NUMBER < intent.position → s.top ≡ round → length s.failed ≡ desk.services → Proposed intent desk desk s round (Err (refusals.Limit Position GREATEST_NUMBER))
last_position intent desk s round last top wide = record {
  bids = record { own = []; after = s; did = did_nothing desk.client desk.deeds s; own_is = λ k d l. absurd (omega (arith, l)); top_is = top; services_is = wide };
  few = omega arith;
  rivals = [];
  outbid = λ number r at. absurd cc;
  but_last = omega arith;
  answer = (refl, last, refl);
}

-- the fault of the last keeping is one since the first bid
pub rose_back : (first now new : DeskView) (voters : List ℕ) (position : ℕ) (outcome : Outcome) → DeskBids first now → Shows now new voters position outcome → outcome ≡ KeepFault → Rose first.keep.faults new.keep.faults
rose_back first now new voters position outcome goes shows is = rose_before first.keep.faults now.keep.faults new.keep.faults goes.keep.later (subst (Shows now new voters position) is shows)

-- what the end of the last bid says of the services
pub says_of : (first now new : DeskView) (voters : List ℕ) (position : ℕ) (ballot : Ballot) (want : Option Entry) (outcome : Outcome) (answer : Result (Option Decided) Refusal) → DeskBids first now → Shows now new voters position outcome
    → IsAnswerTo outcome ballot want answer → Says first new voters position answer
says_of first now new voters position ballot want (DecidedEnd entry) answer goes h (mine, is, wanted) = subst (Says first new voters position) (sym is) (λ setting told. h setting (goes.told setting told))
says_of first now new voters position ballot want Nothing answer goes h is =
    subst (Says first new voters position) (sym is)
    (λ setting told e c. h setting (goes.told setting told) e (chosen_grows (votes_told first.pass.lists) (votes_told now.pass.lists) voters position e (votes_grow (log_in first.pass.lists) (log_in now.pass.lists) (logs_grow first.pass.lists now.pass.lists goes.more)) c))
says_of first now new voters position ballot want (NoMajorityEnd flags) answer goes h (failed, is, are) = subst (Says first new voters position) (sym is) tt
says_of first now new voters position ballot want (UnlistedEnd service) answer goes h is = subst (Says first new voters position) (sym is) (λ setting told. h setting (goes.told setting told))
says_of first now new voters position ballot want KeepFault answer goes h is = subst (Says first new voters position) (sym is) tt
says_of first now new voters position ballot want (Outbid service top) answer goes h is = absurd is

-- the slack of the answer is that of the last bid
pub slack_is : (ballot : Ballot) (want : Option Entry) (outcome : Outcome) (answer : Result (Option Decided) Refusal) → IsAnswerTo outcome ballot want answer → slack_of (Ok outcome) ≡ slack_at answer
slack_is ballot want (DecidedEnd entry) answer (mine, is, wanted) = sym (ap slack_at is)
slack_is ballot want Nothing answer is = sym (ap slack_at is)
slack_is ballot want (NoMajorityEnd flags) answer (failed, is, are) = sym (ap slack_at is)
slack_is ballot want (UnlistedEnd service) answer is = sym (ap slack_at is)
slack_is ballot want KeepFault answer is = sym (ap slack_at is)
slack_is ballot want (Outbid service top) answer is = absurd is

abbrev IsMine : Option Entry → Result (Option Decided) Refusal → Type 0
IsMine want answer = IfOk answer (λ o. IfSome o (λ x. IsTrue x.mine ↔ (want ≡ Some x.entry)))

-- whether what was decided was wanted
pub mine_of : (ballot : Ballot) (want : Option Entry) (outcome : Outcome) (answer : Result (Option Decided) Refusal) → IsAnswerTo outcome ballot want answer → IfOk answer (λ o. IfSome o (λ x. IsTrue x.mine ↔ (want ≡ Some x.entry)))
mine_of ballot want (DecidedEnd entry) answer (mine, is, wanted) = subst (IsMine want) (sym is) wanted
mine_of ballot want Nothing answer is = subst (IsMine want) (sym is) tt
mine_of ballot want (NoMajorityEnd flags) answer (failed, is, are) = subst (IsMine want) (sym is) tt
mine_of ballot want (UnlistedEnd service) answer is = subst (IsMine want) (sym is) tt
mine_of ballot want KeepFault answer is = subst (IsMine want) (sym is) tt
mine_of ballot want (Outbid service top) answer is = absurd is

is_limit : Result (Option Decided) Refusal → Bool
is_limit (Err (refusals.Limit what value)) = true
is_limit answer = false

no_limit : (answer same limit : Result (Option Decided) Refusal) → answer ≡ same → answer ≡ limit → is_limit same ≡ false → is_limit limit ≡ true → ⊥
no_limit answer same limit is e down up = (let q : false ≡ true = sym down ∙ (sym (ap is_limit is) ∙ (ap is_limit e ∙ up)) in cc)

-- the end of a bid passes no limit
pub unlimited : (ballot : Ballot) (want : Option Entry) (outcome : Outcome) (answer : Result (Option Decided) Refusal) (value : ℕ) → IsAnswerTo outcome ballot want answer → answer ≡ Err (refusals.Limit Position value) → ⊥
unfolding is_limit
unlimited ballot want (DecidedEnd entry) answer value (mine, is, wanted) e = no_limit answer _ _ is e refl refl
unlimited ballot want Nothing answer value is e = no_limit answer _ _ is e refl refl
unlimited ballot want (NoMajorityEnd flags) answer value (failed, is, are) e = no_limit answer _ _ is e refl refl
unlimited ballot want (UnlistedEnd service) answer value is e = no_limit answer _ _ is e refl refl
unlimited ballot want KeepFault answer value is e = no_limit answer _ _ is e refl refl
unlimited ballot want (Outbid service top) answer value is e = absurd is
