-- One bid at a desk, from its first act to its end.
use Rattle.std.proofs.Common.{◌≡◌, ◌≢◌, ℕ, ◌+◌, ◌<◌, true, false, List, [], ◌∷◌, ◌++◌, Option, Some, None, Ok, refl, sym, ap, ◌∙◌, subst, length, arith}
use Rattle.std.specs.Prelude.{Contains}
use Rattle.ms_base.specs.declared.limits.TheConstants.{LAST_NUMBER}
use Rattle.ms_bid.specs.declared.act.Act.{Act}
use Rattle.ms_bid.specs.declared.act.Act.TheVariants.{Keep, Send, Look, Declare, End}
use Rattle.ms_bid.specs.declared.act.Answer.{Answer}
use Rattle.ms_bid.specs.declared.act.Answer.TheVariants.{Kept as KeptAnswer, Sent, Seen, Declared, Failed}
use Rattle.ms_bid.specs.declared.act.Outcome.{Outcome}
use Rattle.ms_bid.specs.declared.act.Outcome.TheVariants.{Decided, Nothing, Outbid, NoMajority, Unlisted, KeepFault}
use Rattle.ms_bid.specs.declared.bid.Bid.{Bid}
use Rattle.ms_bid.specs.Bids.{IsBid, IsFresh, IsPending, MayFault, acts_left, fits, message_of, noted}
use Rattle.ms_bid.specs.Truths.{IsDecidedTaken, IsOfferJustified}
use Rattle.ms_core.specs.Views.{View, log_in, offers_told, owner_of_client, votes_told, IsNextMaster, SupportsOffer, SupportsVote}
use Rattle.std.proofs.lemmas.List.{append-nil}
use Rattle.ms_bid.specs.Shown.{sight_at}
use Rattle.ms_ken.specs.Known.{Known, TableId}
use Rattle.ms_ken.specs.Lists.{list_at}
use Rattle.ms_record.specs.declared.item.Item.{Item}
use Rattle.ms_record.specs.declared.sight.Sight.{Sight}
use Rattle.ms_record.specs.declared.ballot.Ballot.{Ballot}
use Rattle.ms_record.specs.declared.entry.Entry.{Entry}
use Rattle.ms_record.specs.declared.record.Record.{Record}
use Rattle.ms_record.specs.declared.record.Record.TheVariants.{Prepare, Accept}
use Rattle.ms_record.specs.declared.setting.Setting.{Setting}
use Rattle.ms_record.specs.Chains.{IsLinked, voters_behind}
use Rattle.ms_record.specs.Entries.{IsEntry}
use Rattle.ms_record.specs.Offers.{IsOffered, JustifiedBy}
use Rattle.ms_record.specs.Reading.{record_at}
use Rattle.ms_record.specs.Records.{IsPosition, IsRecord, record_text}
use Rattle.ms_record.specs.Settings.{origin_of}
use Rattle.ms_record.specs.Votes.{ChosenBy}
use Rattle.ms_local.specs.declared.deed.Deed.{Deed}
use Rattle.ms_local.specs.declared.deed.Deed.TheVariants.{Kept as KeptDeed}
use Rattle.ms_local.specs.declared.kept.Kept.{Kept}
use Rattle.ms_local.specs.Desks.{DeskView, HasKeptRound, IsDesk, KnowsTold}
use Rattle.ms_local.specs.Keeping.{HasRanges}
use Rattle.ms_local.specs.Rules.{Bidding, Intent}
use Rattle.ms_propose.specs.declared.acts.Aim.{Aim}
use Rattle.ms_propose.specs.Acts.{DoesAct, Halts, MayDo, MayHaveKept, kept_round, with_round}
use Rattle.ms_propose.specs.Bidding.{intent_of, BidHalted, BidMade, BidRuns, IsBidOf}
use Rattle.ms_propose.proofs.Composing.{bids_client, bids_on, bids_services, history_on, kept_there_self, leaves_on, leaves_quiet, told_back}
use Rattle.ms_propose.specs.Going.{DeskBids}
use Rattle.ms_propose.specs.Leaving.{Bids, IsBidDeed, IsSettingOf, Shows, slack_of}
use Rattle.ms_local.specs.Desks.{OnTold, OnTold'}
use Rattle.ms_propose.specs.TrueBids.{HasEntries, HasOffer, IsSeated, IsTrueBid}
use Rattle.ms_local.specs.Truths.{IsStateAt, IsTrueDeed, OwnHistory, TrueDeeds, ballot_at}
use Rattle.ms_propose.proofs.Going.{keeper_stays, kept_stays, may_keep, newest_told, ranges_on, ranges_round, round_kept, state_failed, state_halts, state_on, stays_above, stays_failed, stays_halts}
use Rattle.ms_propose.proofs.Growing.{none_seen, true_fresh}
use Rattle.ms_propose.proofs.Mirroring.{IsUnsent, begins, bid_on, broken_in, broken_not, kept_not, made_of, no_fault, not_keep, runs_on, stays_unsent, unsent_fresh}
use Rattle.ms_propose.proofs.Stepping.{BidTruths, bid_leaves, entries_on, history_step, only, own_list, true_on, truths_step}
use Rattle.ms_propose.proofs.Truths.{ViewLaws, never_unlisted, newest_of, nothing_chosen, true_chosen, true_justified, true_next}

-- what a bid may begin with
pub record IsBidder (intent : Intent) (aim : Aim) (first : DeskView) (before : Kept) : Type 0 where
  pub desk : IsDesk first
  pub position : IsPosition aim.position
  pub placed : intent.position ≡ aim.position
  pub ballot : aim.ballot ≡ ballot_at first.client (before.round + 1)
  pub last : before.round < LAST_NUMBER
  pub voters : (s : ℕ) → Contains intent.voters s → s < first.services
  pub entry : (e : Entry) → intent.want ≡ Some e → IsEntry e
  pub state : IsStateAt 0 first before
  pub ranges : HasRanges before
  pub seated : OnTold' first (λ setting. IsSeated setting first.pass.lists aim.position intent.voters intent.want)

-- the bid of the round behind the kept one
abbrev pub next_aim : DeskView → Kept → ℕ → Aim
next_aim first before position = record { position = position; ballot = ballot_at first.client (before.round + 1) }

pub bidder : (first : DeskView) (before : Kept) (setting : Setting) (want : Option Entry) (voters : List ℕ) (position : ℕ) → IsDesk first → IsSettingOf setting first → IsPosition position → before.round < LAST_NUMBER
    → ((s : ℕ) → Contains voters s → s < setting.services) → OnTold' first (λ s. IsSeated s first.pass.lists position voters want) → IsStateAt 0 first before → HasRanges before → ((e : Entry) → want ≡ Some e → IsEntry e)
    → IsBidder (intent_of want voters position) (next_aim first before position) first before
bidder first before setting want voters position desk of placed last below seated state ranges entry = record {
  desk = desk;
  position = placed;
  placed = refl;
  ballot = refl;
  last = last;
  voters = λ s v. omega (arith, below s v, of.services);
  entry = entry;
  state = state;
  ranges = ranges;
  seated = seated;
}

-- what is true of a bid under way
pub record BidGoes (intent : Intent) (aim : Aim) (first now : DeskView) (before kept : Kept) (b : Bid) : Type 0 where
  pub desk : IsDesk now
  pub bid : IsBidOf intent aim b
  pub runs : BidRuns first.client first.services intent first.deeds now.deeds before.round kept.round b
  pub goes : DeskBids first now
  pub state : IsStateAt 0 now kept
  pub ranges : HasRanges kept
  pub round : kept ≡ with_round before kept.round
  pub kept_there : HasKeptRound now aim.ballot.round
  pub history : OwnHistory first now
  pub truths : BidTruths first now aim
  pub told : OnTold' first (λ setting. IsTrueBid setting first.pass.lists now.pass.lists b)
  pub entries : HasEntries b
  pub unsent : IsUnsent b
  pub no_fault : b.act ≢ End KeepFault

-- each record has one spelling, and that is read
abbrev pub IsReadAgain : Type 0
IsReadAgain = (m : Record) → IsRecord m → record_at (record_text m) ≡ Some m

-- what follows the rule behind a linked list may be offered
abbrev pub MayBeOffered : Type 0
MayBeOffered = (view : View) (setting : Setting) (c : List Entry) (client : ℕ) (before : List Record) (b : Ballot) (e : Entry) → IsLinked (votes_told view) (origin_of setting) c
    → b.client.0 ≡ client → ((k : ℕ) (a : Ballot) (f : Entry) → Contains before (Accept k a f) → a.round < b.round)
    → JustifiedBy (votes_told view) (voters_behind (origin_of setting) c) (length c + 1) b e → IsNextMaster setting (log_in view) c e
    → SupportsOffer setting (log_in view) client before (length c + 1) b e

-- the round was kept
pub kept_answer : (r : ℕ) (answer : Answer) → fits (Keep r) answer ≡ true → (answer ≡ Failed → ⊥) → answer ≡ KeptAnswer
kept_answer r KeptAnswer fit real = refl
kept_answer r Failed fit real = absurd (real refl)
kept_answer r Sent fit real = absurd cc
kept_answer r (Seen sight) fit real = absurd cc
kept_answer r Declared fit real = absurd cc

-- the keeping changes what is pending alone
pub same_but_act : (b c : Bid) (r : ℕ) (answer : Answer) → b.act ≡ Keep r → answer ≡ KeptAnswer → c ≡ record (noted b b.act answer) { act = c.act } → c ≡ record b { act = c.act }
same_but_act b c r answer act_is answer_is is =
    subst (λ (a : Act). c ≡ record (noted b a KeptAnswer) { act = c.act }) act_is (subst (λ (x : Answer). c ≡ record (noted b b.act x) { act = c.act }) answer_is is)

-- every client's list is there
pub list_there : (desk : DeskView) → IsDesk desk → length desk.pass.lists ≡ desk.pass.board.words → owner_of_client desk.client < length desk.pass.lists
list_there desk h wide = let words : desk.pass.board.words ≡ 33 = ap (λ (t : TableId). t.words) h.board ∙ h.owners in omega (arith, wide, words, h.client)

-- memory ran out in an act
act_halts : (act : Act) (old new : DeskView) (before after : Kept) → old.pass.word ≡ Some (owner_of_client old.client) → ((r : ℕ) → act ≡ Keep r → r ≡ before.round + 1) → Halts act old new before after
    → IsStateAt 0 old before → HasRanges before → Bids 1 old new before after
act_halts act old new before after word next d state ranges =
    subst (λ (k : Kept). Bids 1 old new before k) (sym d.round)
    (leaves_quiet old new before 1 d.goes d.deed (own_list old.pass new.pass old.client word d.pass) (stays_halts act old new before next d.goes.keep.told d.keep state)
    (state_halts act old new before next d.goes.keep.told d.keep state) ranges)

module _ (intent : Intent) (aim : Aim) (first : DeskView) (before : Kept) (h : IsBidder intent aim first before) where
  mine : aim.ballot.client.0 ≡ first.client
  mine = ap (λ (b : Ballot). b.client.0) h.ballot

  next_round : aim.ballot.round ≡ before.round + 1
  next_round = ap (λ (b : Ballot). b.round) h.ballot

  own_ballot : aim.ballot ≡ ballot_at first.client aim.ballot.round
  own_ballot = h.ballot ∙ ap (ballot_at first.client) (sym next_round)

  -- ---- the first act

  pub first_may : MayDo first (Keep (before.round + 1))
  first_may = (omega (arith, h.last), may_keep first before (before.round + 1) (omega arith) h.state)

  pub first_kept : (now : DeskView) (kept : Kept) (b c : Bid) → IsDesk now → DoesAct aim (Keep (before.round + 1)) KeptAnswer first now before kept → IsFresh intent.voters aim.position aim.ballot intent.want b
      → c ≡ record b { act = c.act } → acts_left c < 67 → c.act ≢ End KeepFault → BidGoes intent aim first now before kept c
  first_kept now kept b c desk d fresh same less real =
      let round : kept.round ≡ aim.ballot.round = ap (λ (k : Kept). k.round) d.round ∙ sym next_round in
      let deeds : now.deeds ≡ first.deeds ++ KeptDeed aim.ballot.round true ∷ [] = d.deed ∙ ap (λ (r : ℕ). first.deeds ++ KeptDeed r true ∷ []) (sym next_round) in
      let runs = begins first.client first.services h.desk.few_services intent aim.position aim.ballot first.deeds now.deeds before.round b c fresh h.placed mine next_round deeds same in
      record {
        desk = desk;
        bid = record {
          position_is = ap (λ (x : Bid). x.position) same ∙ fresh.position_is;
          ballot_is = ap (λ (x : Bid). x.ballot) same ∙ fresh.ballot_is;
          want_is = ap (λ (x : Bid). x.want) same ∙ fresh.want_is;
          voters_are = ap (λ (x : Bid). x.voters) same ∙ fresh.voters_are;
          placed = h.placed;
          begun = less;
        };
        runs = subst (λ (r : ℕ). BidRuns first.client first.services intent first.deeds now.deeds before.round r c) (sym round) runs;
        goes = d.goes;
        state = λ told. (kept, (d.leaves.1 (sym d.goes.keep.told ∙ told)).state, refl, omega arith);
        ranges = subst HasRanges (sym d.round) (ranges_round before (before.round + 1) (omega (arith, h.last)) h.ranges);
        round = d.round ∙ ap (with_round before) (sym (ap (λ (k : Kept). k.round) d.round));
        kept_there = subst (λ (r : ℕ). HasKeptRound now r) round (round_kept now kept (λ told. (d.leaves.1 (sym d.goes.keep.told ∙ told)).state));
        history = record { deeds = KeptDeed (before.round + 1) true ∷ []; grows = d.deed; own = ap (λ (k : Known Item). list_at k.lists (owner_of_client first.client)) d.leaves.0 ∙ sym (append-nil (list_at first.pass.lists (owner_of_client first.client))) };
        truths = record { rest = []; grows = deeds; each = λ deed c. absurd (omega (arith, c.1)) };
        told = λ setting told.
            let seated = h.seated setting told in
            let newest = newest_told first setting before aim.ballot h.desk told h.state mine (omega (arith, next_round)) in
            let fresh_there = true_fresh setting first.pass.lists first.pass.lists intent.voters aim.position aim.ballot intent.want b c fresh same newest seated in
            subst (λ (k : Known Item). IsTrueBid setting first.pass.lists k.lists c) (sym d.leaves.0) fresh_there;
        entries = subst HasEntries (sym same) (record {
          want = λ e is. h.entry e (sym fresh.want_is ∙ is);
          looks = λ s x at. absurd (none_seen 16 s x (subst (λ (l : List (Option Sight)). sight_at l s ≡ Some x) fresh.first_is at));
          offer = λ e is. absurd (let q : None ≡ Some e = sym fresh.offer_is ∙ is in cc);
        });
        unsent = unsent_fresh c.sent c.act (ap (λ (x : Bid). x.sent) same ∙ fresh.sent_is);
        no_fault = real;
      }

  -- the keeping failed
  failed_true : (now : DeskView) (kept : Kept) → DoesAct aim (Keep (before.round + 1)) Failed first now before kept → TrueDeeds first now
  failed_true now kept d = record {
    deeds = KeptDeed (before.round + 1) false ∷ [];
    grows = d.deed;
    each = λ deed c. subst (λ (x : Deed). IsTrueDeed first now x) (only (KeptDeed (before.round + 1) false) deed c) d.leaves.1;
    looks = λ k r. (k, tt);
  }

  failed_leaves : (now : DeskView) (kept : Kept) → DoesAct aim (Keep (before.round + 1)) Failed first now before kept → Bids 1 first now before before
  unfolding failed_true
  failed_leaves now kept d =
      let may : MayHaveKept (Keep (before.round + 1)) first now before = subst (λ (k : Kept). MayHaveKept (Keep (before.round + 1)) first now k) d.round d.leaves.2 in
      let state : IsStateAt 1 now before = state_failed first now before d.goes.keep.told may h.state in
      record {
        effect = d.goes;
        history = record { deeds = KeptDeed (before.round + 1) false ∷ []; grows = d.deed; own = ap (λ (k : Known Item). list_at k.lists (owner_of_client first.client)) d.leaves.0 ∙ sym (append-nil (list_at first.pass.lists (owner_of_client first.client))) };
        truths = failed_true now kept d;
        kinds = λ deed c. subst IsBidDeed (only (KeptDeed (before.round + 1) false) deed c) tt;
        kept_there = kept_there_self 1 now before state;
        stays_kept = stays_failed first now before d.goes.keep.told may h.state;
        state = state;
        ranges = h.ranges;
        round = refl;
      }

  pub first_failed : (now : DeskView) (kept : Kept) → DoesAct aim (Keep (before.round + 1)) Failed first now before kept
      → Bids 1 first now before kept × Shows first now intent.voters aim.position KeepFault
      × ((s : Bidding) → s.top ≡ before.round → length s.failed ≡ first.services → BidMade first.client first.services aim.ballot intent first.deeds now.deeds s kept.round KeepFault)
  first_failed now kept d =
      let same : kept ≡ before = d.round in (
        subst (λ (k : Kept). Bids 1 first now before k) (sym same) (failed_leaves now kept d),
        d.leaves.1,
        λ s top wide.
            subst (λ (k : Kept). BidMade first.client first.services aim.ballot intent first.deeds now.deeds s k.round KeepFault) (sym same)
            (kept_not first.client first.services intent aim.ballot first.deeds now.deeds before.round next_round (d.deed ∙ ap (λ (r : ℕ). first.deeds ++ KeptDeed r false ∷ []) (sym next_round)) s top wide),
      )

  pub first_halts : (now : DeskView) (kept : Kept) → Halts (Keep (before.round + 1)) first now before kept
      → Bids 1 first now before kept × ((s : Bidding) → s.top ≡ before.round → length s.failed ≡ first.services → BidHalted first.client first.services intent first.deeds now.deeds s kept.round)
  first_halts now kept d = (
    act_halts (Keep (before.round + 1)) first now before kept h.desk.word (λ r e. let q : before.round + 1 ≡ r = cc e in sym q) d h.state h.ranges,
    λ s top wide. broken_not first.client first.services intent first.deeds now.deeds before.round kept.round d.deed (ap (λ (k : Kept). k.round) d.round) s top wide,
  )

  -- ---- the acts behind it

  module _ (now : DeskView) (kept : Kept) (b : Bid) (g : BidGoes intent aim first now before kept b) (whole : IsBid b) (wide : owner_of_client now.client < length now.pass.lists) where
    no_keep : (r : ℕ) → b.act ≡ Keep r → ⊥
    no_keep r e = not_keep b r g.bid.begun e

    client : now.client ≡ first.client
    client = bids_client first now g.goes

    word : now.pass.word ≡ Some (owner_of_client now.client)
    word = g.desk.word

    bid_mine : b.ballot.client.0 ≡ now.client
    bid_mine = ap (λ (x : Ballot). x.client.0) g.bid.ballot_is ∙ (mine ∙ sym client)

    message_ranges : IsRecord (message_of b.position b.ballot b.offer)
    message_ranges = by b.offer g.entries.offer where
      by : (o : Option Entry) → ((e : Entry) → o ≡ Some e → IsEntry e) → IsRecord (message_of b.position b.ballot o)
      by None h = (whole.framed.position, whole.framed.ballot)
      by (Some e) h = (whole.framed.position, whole.framed.ballot, h e refl)

    same_accept : (k p : ℕ) (x y : Ballot) (e f : Entry) → Some (Accept k x e) ≡ Some (Accept p y f) → (k ≡ p) × (x ≡ y) × (e ≡ f)
    same_accept k p x y e f q = (cc, cc, cc)

    -- what is pending may be done
    pub may_do : IsReadAgain → MayBeOffered → IsOfferJustified b → ((setting : Setting) → KnowsTold now setting → ViewLaws setting now.pass.lists) → ((setting : Setting) → KnowsTold now setting → now.client < setting.clients)
        → ((o : Outcome) → b.act ≡ End o → ⊥) → MayDo now b.act
    may_do again offered law laws clients no_end = by b.act refl whole.pending where
      true_there : (setting : Setting) → KnowsTold now setting → IsTrueBid setting first.pass.lists now.pass.lists b
      true_there setting told = g.told setting (told_back first now setting h.desk g.goes told)

      sends : (o : Option Entry) → ((setting : Setting) → KnowsTold now setting → HasOffer now.pass.lists b.position b.ballot o) → IsRecord (message_of b.position b.ballot o)
          → OnTold now (SupportsVote (offers_told now.pass.lists) (record_text (message_of b.position b.ballot o)))
      sends None offer ranges setting told k x e at = absurd (cc (sym (again (Prepare b.position b.ballot) ranges) ∙ at))
      sends (Some f) offer ranges setting told k x e at =
          let q = same_accept b.position k b.ballot x f e (sym (again (Accept b.position b.ballot f) ranges) ∙ at) in
          subst (λ (z : Entry). IsOffered (offers_told now.pass.lists) k x z) q.2 (subst (λ (z : Ballot). IsOffered (offers_told now.pass.lists) k z f) q.1 (subst (λ (z : ℕ). IsOffered (offers_told now.pass.lists) z b.ballot f) q.0 (offer setting told)))

      by : (act : Act) → b.act ≡ act → IsPending b act → MayDo now act
      by (Keep r) is p = absurd (no_keep r is)
      by (End o) is p = absurd (no_end o is)
      by (Look s) is p = votes_below p.0.votes where
        votes_below : Contains b.voters s.0 → s.0 < now.services
        votes_below c = omega (arith, h.voters s.0 (subst (λ (v : List ℕ). Contains v s.0) g.bid.voters_are c), bids_services first now g.goes)
      by (Send s m) is p = (
        omega (arith, h.voters s.0 (subst (λ (v : List ℕ). Contains v s.0) g.bid.voters_are p.0.votes), bids_services first now g.goes),
        subst IsRecord (sym p.1) message_ranges,
        subst (λ (r : Record). OnTold now (SupportsVote (offers_told now.pass.lists) (record_text r))) (sym p.1) (sends b.offer (λ setting told. (true_there setting told).offer) message_ranges),
      )
      by (Declare (Prepare k x)) is p = absurd (cc (p.2))
      by (Declare (Accept k x e)) is p =
          let q = same_accept k b.position x b.ballot e p.1 (ap Some p.2) in
          let act_is : b.act ≡ Declare (Accept b.position b.ballot p.1) = is ∙ ap (λ (r : Record). Declare r) p.2 in (
            subst (λ (r : ℕ). HasKeptRound now r) (sym (ap (λ (z : Ballot). z.round) (q.1 ∙ g.bid.ballot_is))) g.kept_there,
            λ setting told.
                let t = true_there setting told in
                let laws_there = laws setting told in
                let newest = newest_of now.pass.lists b.position b.ballot b.offer t.offer p.4 in
                let just = true_justified setting first.pass.lists now.pass.lists b laws_there t whole p.1 law act_is in
                let next = true_next setting first.pass.lists now.pass.lists b laws_there t whole p.1 p.3 in
                let supported = offered now.pass.lists setting t.seated.members now.client (offers_told now.pass.lists now.client) b.ballot p.1 t.seated.linked bid_mine
                (λ j a f c. newest j a f (subst (λ (who : ℕ). Contains (offers_told now.pass.lists who) (Accept j a f)) (sym bid_mine) c))
                (subst (λ (j : ℕ). JustifiedBy (votes_told now.pass.lists) (voters_behind (origin_of setting) t.seated.members) j b.ballot p.1) (sym t.seated.at)
                (subst (λ (v : List ℕ). JustifiedBy (votes_told now.pass.lists) v b.position b.ballot p.1) t.seated.voters_are just)) next in (
                  clients setting told,
                  subst (λ (z : Entry). SupportsOffer setting (log_in now.pass.lists) now.client (offers_told now.pass.lists now.client) k x z) (sym q.2)
                      (subst (λ (z : Ballot). SupportsOffer setting (log_in now.pass.lists) now.client (offers_told now.pass.lists now.client) k z p.1) (sym q.1)
                      (subst (λ (z : ℕ). SupportsOffer setting (log_in now.pass.lists) now.client (offers_told now.pass.lists now.client) z b.ballot p.1) (t.seated.at ∙ sym q.0) supported)),
                ),
          )

    -- one act more
    pub bid_step : (new : DeskView) (later : Kept) (c : Bid) (answer : Answer) → IsDesk new → DoesAct aim b.act answer now new kept later → c ≡ record (noted b b.act answer) { act = c.act } → acts_left c < acts_left b
        → MayFault b.act answer c.act → IsReadAgain → BidGoes intent aim first new before later c
    bid_step new later c answer desk d is less fault again =
        let goes = bids_on first now new g.goes d.goes in
        record {
          desk = desk;
          bid = bid_on intent aim b c answer g.bid is less;
          runs = runs_on first.client first.services h.desk.few_services intent aim first.deeds now.deeds new.deeds before.round kept.round later.round b c answer h.voters g.bid g.runs whole g.unsent d.fits_it d.deed (ap (λ (k : Kept). k.round) d.round) is;
          goes = goes;
          state = state_on aim b.act answer now new kept later no_keep d.round d.leaves g.state;
          ranges = ranges_on aim b.act answer now new kept later no_keep d.round d.leaves g.ranges;
          round = d.round ∙ (ap (λ (k : Kept). with_round k (kept_round kept.round b.act answer)) g.round ∙ ap (with_round before) (sym (ap (λ (k : Kept). k.round) d.round)));
          kept_there = kept_stays aim.ballot.round now new (keeper_stays aim b.act answer now new later no_keep d.leaves) g.kept_there;
          history = history_on first now new client g.history (history_step now new word wide aim b.act answer later d.deed d.leaves no_keep);
          truths = truths_step aim b answer first now new later g.goes d.goes g.bid.position_is whole.pending d.deed d.leaves no_keep g.truths;
          told = λ setting told.
              subst (λ (x : Bid). IsTrueBid setting first.pass.lists new.pass.lists x) (sym is)
              (true_on setting first.pass.lists aim now new b answer c.act later (g.goes.told setting told) word wide whole g.bid.position_is g.bid.ballot_is bid_mine g.goes.more (g.told setting told) d.leaves again message_ranges no_keep);
          entries = subst HasEntries (sym is) (entries_on aim b b.act answer c.act now new later whole.pending d.leaves g.entries);
          unsent = stays_unsent b c answer g.bid.begun whole g.unsent d.fits_it is less;
          no_fault = no_fault b.act answer c.act (λ r e f. no_keep r e) fault;
        }

    bids : Bids 0 first now before kept
    bids = bid_leaves first now before kept aim own_ballot g.goes g.history g.truths g.kept_there (stays_above first now before aim.ballot.round (omega (arith, next_round)) h.state g.kept_there) g.state g.ranges g.round

    -- memory ran out
    pub bid_halts : (new : DeskView) (later : Kept) → Halts b.act now new kept later
        → Bids 1 first new before later × ((s : Bidding) → s.top ≡ before.round → length s.failed ≡ first.services → BidHalted first.client first.services intent first.deeds new.deeds s later.round)
    bid_halts new later d = (
      leaves_on first now new before kept later 0 1 bids (act_halts b.act now new kept later word (λ r e. absurd (no_keep r e)) d g.state g.ranges),
      λ s top wide.
          subst (λ (r : ℕ). BidHalted first.client first.services intent first.deeds new.deeds s r) (sym (ap (λ (k : Kept). k.round) d.round))
          (subst (λ (xs : List Deed). BidHalted first.client first.services intent first.deeds xs s kept.round) (sym d.deed)
          (broken_in first.client first.services h.desk.few_services intent first.deeds now.deeds before.round kept.round b whole.framed.failed_many g.runs s top wide)),
    )

    -- the end
    pub bid_ends : (outcome : Outcome) → b.act ≡ End outcome → IsDecidedTaken b → ((setting : Setting) → KnowsTold now setting → ViewLaws setting now.pass.lists)
        → Bids (slack_of (Ok outcome)) first now before kept × Shows first now intent.voters aim.position outcome
        × ((s : Bidding) → s.top ≡ before.round → length s.failed ≡ first.services → BidMade first.client first.services aim.ballot intent first.deeds now.deeds s kept.round outcome)
    bid_ends outcome is law laws = (leaves outcome real, shows outcome is, λ s top wide. made_of first.client first.services h.desk.few_services intent aim first.deeds now.deeds before.round kept.round b outcome g.bid whole g.runs is real s top wide) where
      real : outcome ≢ KeepFault
      real e = g.no_fault (is ∙ ap (λ (o : Outcome). End o) e)

      leaves : (o : Outcome) → o ≢ KeepFault → Bids (slack_of (Ok o)) first now before kept
      leaves KeepFault r = absurd (r refl)
      leaves (Decided e) r = bids
      leaves Nothing r = bids
      leaves (Outbid s t) r = bids
      leaves (NoMajority f) r = bids
      leaves (Unlisted s) r = bids

      chosen_at : (votes : ℕ → List Record) (e : Entry) → ChosenBy votes b.voters b.position e → ChosenBy votes intent.voters aim.position e
      chosen_at votes e c = subst (λ (v : List ℕ). ChosenBy votes v aim.position e) g.bid.voters_are (subst (λ (k : ℕ). ChosenBy votes b.voters k e) g.bid.position_is c)

      chosen_back : (votes : ℕ → List Record) (e : Entry) → ChosenBy votes intent.voters aim.position e → ChosenBy votes b.voters b.position e
      chosen_back votes e c = subst (λ (v : List ℕ). ChosenBy votes v b.position e) (sym g.bid.voters_are) (subst (λ (k : ℕ). ChosenBy votes intent.voters k e) (sym g.bid.position_is) c)

      shows : (o : Outcome) → b.act ≡ End o → Shows first now intent.voters aim.position o
      shows (Decided e) is = λ setting told. chosen_at (votes_told now.pass.lists) e (true_chosen setting first.pass.lists now.pass.lists b (laws setting (g.goes.told setting told)) (g.told setting told) whole e law is)
      shows Nothing is = λ setting told e c. nothing_chosen setting first.pass.lists now.pass.lists b (laws setting (g.goes.told setting told)) (g.told setting told) whole e is (chosen_back (votes_told first.pass.lists) e c)
      shows (Unlisted s) is = λ setting told. never_unlisted b s whole (g.told setting told).listed is
      shows KeepFault is = absurd (g.no_fault is)
      shows (Outbid s t) is = tt
      shows (NoMajority f) is = tt
