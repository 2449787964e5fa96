-- The deeds of a bid keep the rules.
use Rattle.std.proofs.Common.{◌≡◌, ◌≢◌, ℕ, ◌+◌, ◌-◌, ◌≤◌, ◌<◌, Bool, true, false, List, [], ◌∷◌, ◌++◌, Option, Some, None, refl, sym, ap, ◌∙◌, subst, length, take, slice_set, slice_index_or, replicate, max, arith}
use Rattle.std.specs.Prelude.{Contains}
use Rattle.std.proofs.lemmas.List.{get_or-set_other, length-take-le, length-replicate}
use Rattle.std.proofs.lemmas.List.Elements.{All-push}
use Rattle.ms_base.specs.declared.names.ServiceId.{ServiceId}
use Rattle.ms_record.specs.declared.ballot.Ballot.{Ballot}
use Rattle.ms_record.specs.declared.entry.Entry.{Entry}
use Rattle.ms_record.specs.declared.record.Record.{Record}
use Rattle.ms_record.specs.declared.record.Record.TheVariants.{Prepare, Accept}
use Rattle.ms_record.specs.declared.sight.Sight.{Sight}
use Rattle.ms_bid.specs.declared.act.Act.{Act}
use Rattle.ms_bid.specs.declared.act.Act.TheVariants.{Keep, Send, Look, Declare, End}
use Rattle.ms_bid.specs.declared.act.Answer.{Answer}
use Rattle.ms_bid.specs.declared.act.Answer.TheVariants.{Kept, Sent, Seen, Declared, Failed}
use Rattle.ms_bid.specs.declared.act.Outcome.{Outcome}
use Rattle.ms_bid.specs.declared.act.Outcome.TheVariants.{Decided, Nothing, Outbid, NoMajority, Unlisted, KeepFault}
use Rattle.ms_bid.specs.declared.bid.Bid.{Bid}
use Rattle.ms_bid.specs.Bids.{IsBid, IsFramed, IsFresh, IsPending, IsOfferOf as BidOffers, MayFault, message_of, noted, with_offer, with_sight, fits, acts_left, left_at, rounds_left}
use Rattle.ms_bid.specs.Ends.{flag_at}
use Rattle.ms_local.specs.declared.deed.Deed.{Deed}
use Rattle.ms_local.specs.declared.deed.Deed.TheVariants.{Kept as KeptDeed}
use Rattle.ms_local.specs.Running.{did_bid, did_may, did_nothing}
use Rattle.ms_local.specs.Rules.{Bidding, Did, Intent, IsAsked, IsOfferOf, Step, bid_begun, done}
use Rattle.ms_propose.specs.declared.acts.Aim.{Aim}
use Rattle.ms_propose.specs.Acts.{deed_of, kept_round}
use Rattle.ms_propose.specs.Bidding.{BidHalted, BidMade, BidRuns, Ends, EndsAs, IsBidOf, Mirrors, bidding_of, offer_record}
use Rattle.ms_propose.proofs.Lists.{flag_none, take_at, take_fresh, take_set}
use Rattle.ms_propose.proofs.Offering.{offer_rule}

-- where a message is to be sent, no service from that one on was sent it
abbrev pub UnsentAt : List Bool → Act → Type 0
UnsentAt sent (Send service message) = (s : ℕ) → service.0 ≤ s → flag_at sent s ≡ false
UnsentAt sent act = Unit {0}

abbrev pub IsUnsent : Bid → Type 0
IsUnsent b = UnsentAt b.sent b.act

-- what one act and its answer leave
abbrev pub GoesOn : ℕ → ℕ → Bid → ℕ → Act → Answer → Act → Type 0
GoesOn who n b round act answer next =
    Step who (bidding_of n b round) [] (deed_of act answer) (done (bidding_of n b round) (deed_of act answer)) []
    × Mirrors who n (done (bidding_of n b round) (deed_of act answer)) (record (noted b act answer) { act = next }) (kept_round round act answer)

module _ (who n : ℕ) (few : n ≤ 16) (ballot : Ballot) (position : ℕ) (voters : List ℕ) (below : (s : ℕ) → Contains voters s → s < n) (want : Option Entry) (act next : Act) (sent failed : List Bool)
    (looks votes : List (Option Sight)) (many : length failed ≡ 16) (round : ℕ) (mine : ballot.client.0 ≡ who) where
  abbrev bid : Option Entry → Bid
  bid offer = record { ballot = ballot; position = position; voters = voters; want = want; act = act; offer = offer; sent = sent; failed = failed; first_looks = looks; second_looks = votes }

  -- a voter that did not fail may be asked by the rules
  asked : (offer : Option Entry) (service : ServiceId) → Contains voters service.0 → flag_at failed service.0 ≡ false → IsAsked (bidding_of n (bid offer) round) service.0
  asked offer service votes free = record {
    within = omega (arith, length-take-le n failed (omega (arith, few, many)), below service.0 votes);
    votes = votes;
    answers = take_at n failed service.0 false (below service.0 votes) ∙ free;
  }

  -- it was not sent the message by the rules either
  unsent_there : (service : ServiceId) → Contains voters service.0 → ((s : ℕ) → service.0 ≤ s → flag_at sent s ≡ false) → slice_index_or (take n sent) service.0 false ≡ false
  unsent_there service votes unsent = take_at n sent service.0 false (below service.0 votes) ∙ unsent service.0 (omega arith)

  abbrev with_flags : Option Entry → List Bool → List Bool → Bidding
  with_flags offer failed_now sent_now = record {
    top = round;
    kept = Some ballot.round;
    intent = record { want = want; voters = voters; position = position };
    declared = offer_record position ballot offer;
    failed = failed_now;
    sent = sent_now;
    looks = take n looks;
    votes = take n votes;
  }

  pub sends : (offer : Option Entry) (service : ServiceId) (message : Record) (answer : Answer) → fits (Send service message) answer ≡ true → IsPending (bid offer) (Send service message)
      → UnsentAt sent (Send service message) → message ≡ message_of position ballot offer → GoesOn who n (bid offer) round (Send service message) answer next
  sends None service (Prepare k b) Sent ok p unsent is =
      let ek : k ≡ position = cc in
      let eb : b ≡ ballot = cc in (
        (refl, (asked None service p.0.votes p.0.free, unsent_there service p.0.votes unsent, (ap (λ (x : Ballot). Some x.round) (sym eb), ap (λ (x : Ballot). x.client.0) eb ∙ mine, ek)), refl),
        record { client_is = mine; is = ap (λ (f : List Bool). with_flags None (take n failed) f) (sym (take_set n sent service.0 true)) },
      )
  sends None service (Accept k b e) Sent ok p unsent is = absurd (cc is)
  sends None service (Prepare k b) Failed ok p unsent is =
      let ek : k ≡ position = cc in
      let eb : b ≡ ballot = cc in (
        (refl, (asked None service p.0.votes p.0.free, unsent_there service p.0.votes unsent, (ap (λ (x : Ballot). Some x.round) (sym eb), ap (λ (x : Ballot). x.client.0) eb ∙ mine, ek)), refl),
        record { client_is = mine; is = ap (λ (f : List Bool). with_flags None f (take n sent)) (sym (take_set n failed service.0 true)) },
      )
  sends None service (Accept k b e) Failed ok p unsent is = absurd (cc is)
  sends (Some entry) service (Accept k b e) Sent ok p unsent is = (
    (refl, (asked (Some entry) service p.0.votes p.0.free, unsent_there service p.0.votes unsent, ap Some (sym is)), refl),
    record { client_is = mine; is = ap (λ (f : List Bool). with_flags (Some entry) (take n failed) f) (sym (take_set n sent service.0 true)) },
  )
  sends (Some entry) service (Prepare k b) Sent ok p unsent is = absurd (cc is)
  sends (Some entry) service (Accept k b e) Failed ok p unsent is = (
    (refl, (asked (Some entry) service p.0.votes p.0.free, unsent_there service p.0.votes unsent, ap Some (sym is)), refl),
    record { client_is = mine; is = ap (λ (f : List Bool). with_flags (Some entry) f (take n sent)) (sym (take_set n failed service.0 true)) },
  )
  sends (Some entry) service (Prepare k b) Failed ok p unsent is = absurd (cc is)
  sends offer service message answer ok p unsent is = absurd (cc ok)

  abbrev with_seen : Option Entry → ℕ → List (Option Sight) → List (Option Sight) → Bidding
  with_seen offer top first second = record {
    top = top;
    kept = Some ballot.round;
    intent = record { want = want; voters = voters; position = position };
    declared = offer_record position ballot offer;
    failed = take n failed;
    sent = take n sent;
    looks = first;
    votes = second;
  }

  pub looks_on : (offer : Option Entry) (service : ServiceId) (answer : Answer) → fits (Look service) answer ≡ true → IsPending (bid offer) (Look service) → GoesOn who n (bid offer) round (Look service) answer next
  looks_on None service (Seen sight) ok p = (
    (refl, asked None service p.0.votes p.0.free, refl),
    record { client_is = mine; is = ap (λ (f : List (Option Sight)). with_seen None (kept_round round (Look service) (Seen sight)) f (take n votes)) (sym (take_set n looks service.0 (Some sight))) },
  )
  looks_on (Some entry) service (Seen sight) ok p = (
    (refl, asked (Some entry) service p.0.votes p.0.free, refl),
    record { client_is = mine; is = ap (λ (f : List (Option Sight)). with_seen (Some entry) (kept_round round (Look service) (Seen sight)) (take n looks) f) (sym (take_set n votes service.0 (Some sight))) },
  )
  looks_on None service Failed ok p = (
    (refl, asked None service p.0.votes p.0.free, refl),
    record { client_is = mine; is = ap (λ (f : List Bool). with_flags None f (take n sent)) (sym (take_set n failed service.0 true)) },
  )
  looks_on (Some entry) service Failed ok p = (
    (refl, asked (Some entry) service p.0.votes p.0.free, refl),
    record { client_is = mine; is = ap (λ (f : List Bool). with_flags (Some entry) f (take n sent)) (sym (take_set n failed service.0 true)) },
  )
  looks_on offer service answer ok p = absurd (cc ok)

  -- by the declaration nobody was sent the message
  none_sent : replicate (length (take n failed)) false ≡ take n (replicate 16 false)
  none_sent = ap (λ (k : ℕ). replicate k false) (length-take-le n failed (omega (arith, few, many))) ∙ sym (take_fresh n false few)

  abbrev with_declared : Option Record → List Bool → Bidding
  with_declared offer sent_now = record {
    top = round;
    kept = Some ballot.round;
    intent = record { want = want; voters = voters; position = position };
    declared = offer;
    failed = take n failed;
    sent = sent_now;
    looks = take n looks;
    votes = take n votes;
  }

  pub declares : (offer : Option Entry) (message : Record) (answer : Answer) → fits (Declare message) answer ≡ true → IsPending (bid offer) (Declare message)
      → ((e : Entry) → BidOffers looks voters want e → IsOfferOf (record { want = want; voters = voters; position = position }) (take n looks) e) → GoesOn who n (bid offer) round (Declare message) answer next
  declares None (Accept k b e) Declared ok p rule =
      let ek : k ≡ position = cc (p.2) in
      let eb : b ≡ ballot = cc (p.2) in
      let ee : e ≡ p.1 = cc (p.2) in (
        (refl, (ap (λ (x : Ballot). Some x.round) (sym eb), ap (λ (x : Ballot). x.client.0) eb ∙ mine, ek, rule e (subst (λ (x : Entry). BidOffers looks voters want x) (sym ee) p.3), refl), refl),
        record {
          client_is = mine;
          is =
              ap (λ (r : Record). with_declared (Some r) (replicate (length (take n failed)) false)) (let q : Accept k b e ≡ Accept position ballot e = cc (ek, eb) in q)
              ∙ ap (λ (f : List Bool). with_declared (Some (Accept position ballot e)) f) none_sent;
        },
      )
  declares (Some entry) (Accept k b e) Declared ok p rule = absurd (cc (p.4))
  declares offer (Prepare k b) Declared ok p rule = absurd (cc (p.2))
  declares offer message answer ok p rule = absurd (cc ok)

-- an act that is pending, but for the first, and its answer keep the rules
pub goes_on : (who n : ℕ) (few : n ≤ 16) (b : Bid) (below : (s : ℕ) → Contains b.voters s → s < n) (round : ℕ) (act : Act) (answer : Answer) (next : Act) → b.ballot.client.0 ≡ who
    → IsFramed b → IsPending b act → UnsentAt b.sent act → fits act answer ≡ true → ((r : ℕ) → act ≡ Keep r → ⊥) → GoesOn who n b round act answer next
goes_on who n few b below round (Keep r) answer next mine f p unsent ok other = absurd (other r refl)
goes_on who n few b below round (Send service message) answer next mine f p unsent ok other =
    sends who n few b.ballot b.position b.voters below b.want b.act next b.sent b.failed b.first_looks b.second_looks f.failed_many round mine b.offer service message answer ok p unsent p.1
goes_on who n few b below round (Look service) answer next mine f p unsent ok other =
    looks_on who n few b.ballot b.position b.voters below b.want b.act next b.sent b.failed b.first_looks b.second_looks f.failed_many round mine b.offer service answer ok p
goes_on who n few b below round (Declare message) answer next mine f p unsent ok other =
    declares who n few b.ballot b.position b.voters below b.want b.act next b.sent b.failed b.first_looks b.second_looks f.failed_many round mine b.offer message answer ok p
    (λ e o. offer_rule n few b.voters below b.first_looks f.first_many f.first_of b.want b.position e o)
goes_on who n few b below round (End outcome) answer next mine f p unsent ok other = absurd (cc ok)

-- ---- nothing is sent twice

pub unsent_fresh : (sent : List Bool) (act : Act) → sent ≡ replicate 16 false → UnsentAt sent act
unsent_fresh sent (Send service message) is = λ s above. ap (λ (f : List Bool). flag_at f s) is ∙ flag_none 16 s
unsent_fresh sent (Keep round) is = tt
unsent_fresh sent (Look service) is = tt
unsent_fresh sent (Declare offer) is = tt
unsent_fresh sent (End outcome) is = tt

-- the sends go upwards, as fewer acts are left from each to the next
module _ (offer : Option Entry) (sent : List Bool) where
  unsent_behind : (service : ServiceId) (flags : List Bool) (next : Act) → ((s : ℕ) → service.0 < s → flag_at flags s ≡ flag_at sent s) → left_at offer next < rounds_left offer + 16 + (16 - service.0)
      → ((s : ℕ) → service.0 ≤ s → flag_at sent s ≡ false) → UnsentAt flags next
  unsent_behind service flags (Send later message) same less unsent = λ s above.
      let up : service.0 < s = omega (arith, less, above) in
      same s up ∙ unsent s (omega (arith, up))
  unsent_behind service flags (Keep round) same less unsent = tt
  unsent_behind service flags (Look later) same less unsent = tt
  unsent_behind service flags (Declare message) same less unsent = tt
  unsent_behind service flags (End outcome) same less unsent = tt

  -- no send comes behind a look
  unsent_looked : (service : ServiceId) (next : Act) → left_at offer next < rounds_left offer + (16 - service.0) → UnsentAt sent next
  unsent_looked service (Send later message) less = absurd (omega (arith, less))
  unsent_looked service (Keep round) less = tt
  unsent_looked service (Look later) less = tt
  unsent_looked service (Declare message) less = tt
  unsent_looked service (End outcome) less = tt

pub unsent_on : (b : Bid) (act : Act) (answer : Answer) (next : Act) → IsPending b act → fits act answer ≡ true → ((r : ℕ) → act ≡ Keep r → ⊥) → UnsentAt b.sent act
    → left_at (noted b act answer).offer next < left_at b.offer act → UnsentAt (noted b act answer).sent next
unsent_on b (Keep r) answer next p ok other unsent less = absurd (other r refl)
unsent_on b (Send service message) Sent next p ok other unsent less = unsent_behind b.offer b.sent service (slice_set b.sent service.0 true) next (λ s up. get_or-set_other b.sent service.0 s true false (λ e. omega (arith, up, e))) less unsent
unsent_on b (Send service message) Failed next p ok other unsent less = unsent_behind b.offer b.sent service b.sent next (λ s up. refl) less unsent
unsent_on b (Look service) (Seen sight) next p ok other unsent less = by b.offer less where
  by : (o : Option Entry) → left_at (with_sight b o service.0 sight).offer next < left_at b.offer (Look service) → UnsentAt (with_sight b o service.0 sight).sent next
  by None l = unsent_looked b.offer b.sent service next l
  by (Some e) l = unsent_looked b.offer b.sent service next l
unsent_on b (Look service) Failed next p ok other unsent less = unsent_looked b.offer b.sent service next less
unsent_on b (Declare (Accept k c e)) Declared next p ok other unsent less = unsent_fresh (replicate 16 false) next refl
unsent_on b (Declare (Prepare k c)) Declared next p ok other unsent less = absurd (cc (p.2))
unsent_on b act answer next p ok other unsent less = absurd (cc ok)

-- what an answer leaves as it is
pub record Stays (b c : Bid) : Type 0 where
  pub position_is : c.position ≡ b.position
  pub ballot_is : c.ballot ≡ b.ballot
  pub want_is : c.want ≡ b.want
  pub voters_are : c.voters ≡ b.voters

module _ (b : Bid) where
  stays_sight : (offer : Option Entry) (service : ℕ) (sight : Sight) → Stays b (with_sight b offer service sight)
  stays_sight None service sight = record { position_is = refl; ballot_is = refl; want_is = refl; voters_are = refl }
  stays_sight (Some entry) service sight = record { position_is = refl; ballot_is = refl; want_is = refl; voters_are = refl }

  stays_offer : (offer : Record) → Stays b (with_offer b offer)
  stays_offer (Accept k c e) = record { position_is = refl; ballot_is = refl; want_is = refl; voters_are = refl }
  stays_offer (Prepare k c) = record { position_is = refl; ballot_is = refl; want_is = refl; voters_are = refl }

  stays_same : Stays b b
  stays_same = record { position_is = refl; ballot_is = refl; want_is = refl; voters_are = refl }

  pub stays : (act : Act) (answer : Answer) → Stays b (noted b act answer)
  stays (Send service message) Sent = record { position_is = refl; ballot_is = refl; want_is = refl; voters_are = refl }
  stays (Send service message) Failed = record { position_is = refl; ballot_is = refl; want_is = refl; voters_are = refl }
  stays (Look service) (Seen sight) = stays_sight b.offer service.0 sight
  stays (Look service) Failed = record { position_is = refl; ballot_is = refl; want_is = refl; voters_are = refl }
  stays (Declare offer) Declared = stays_offer offer
  stays act answer = stays_same

-- the bid stays the one that it is
pub bid_on : (intent : Intent) (aim : Aim) (b c : Bid) (answer : Answer) → IsBidOf intent aim b → c ≡ record (noted b b.act answer) { act = c.act } → acts_left c < acts_left b → IsBidOf intent aim c
bid_on intent aim b c answer h is less =
    let st = stays b b.act answer in
    record {
      position_is = ap (λ (x : Bid). x.position) is ∙ (st.position_is ∙ h.position_is);
      ballot_is = ap (λ (x : Bid). x.ballot) is ∙ (st.ballot_is ∙ h.ballot_is);
      want_is = ap (λ (x : Bid). x.want) is ∙ (st.want_is ∙ h.want_is);
      voters_are = ap (λ (x : Bid). x.voters) is ∙ (st.voters_are ∙ h.voters_are);
      placed = h.placed;
      begun = omega (arith, h.begun, less);
    }

pub not_keep : (b : Bid) (r : ℕ) → acts_left b < 67 → b.act ≡ Keep r → ⊥
not_keep b r l is = let q : acts_left b ≡ 67 = ap (λ (a : Act). left_at b.offer a) is in omega (arith, l, q)

-- one act more of a bid that goes on
pub runs_on : (who n : ℕ) (few : n ≤ 16) (intent : Intent) (aim : Aim) (old now new : List Deed) (before round after : ℕ) (b c : Bid) (answer : Answer)
    → ((s : ℕ) → Contains intent.voters s → s < n) → IsBidOf intent aim b → BidRuns who n intent old now before round b → IsBid b → IsUnsent b
    → fits b.act answer ≡ true → new ≡ now ++ deed_of b.act answer ∷ [] → after ≡ kept_round round b.act answer
    → c ≡ record (noted b b.act answer) { act = c.act } → BidRuns who n intent old new before after c
runs_on who n few intent aim old now new before round after b c answer below of h whole unsent fit deed_is round_is is = λ s top wide.
    let r = h s top wide in
    let m = r.2 in
    let did : Did who old now s (intent ∷ []) (bidding_of n b round) = subst (λ (t : Bidding). Did who old now s (intent ∷ []) t) m.is r.1 in
    let under : (x : ℕ) → Contains b.voters x → x < n = λ x v. below x (subst (λ (xs : List ℕ). Contains xs x) of.voters_are v) in
    let g = goes_on who n few b under round b.act answer c.act m.client_is whole.framed whole.pending unsent fit (λ k e. not_keep b k of.begun e) in
    let next = done (bidding_of n b round) (deed_of b.act answer) in
    let mirrors : Mirrors who n next c after = subst (λ (x : Bid). Mirrors who n next x after) (sym is) (subst (λ (k : ℕ). Mirrors who n next (record (noted b b.act answer) { act = c.act }) k) (sym round_is) g.1) in
    (next, did_may who old now new s (bidding_of n b round) (intent ∷ []) (deed_of b.act answer) did deed_is g.0, mirrors)

-- nothing is sent twice behind one act more
pub stays_unsent : (b c : Bid) (answer : Answer) → acts_left b < 67 → IsBid b → IsUnsent b → fits b.act answer ≡ true → c ≡ record (noted b b.act answer) { act = c.act } → acts_left c < acts_left b → IsUnsent c
stays_unsent b c answer begun whole unsent fit is less =
    let left : left_at (noted b b.act answer).offer c.act < acts_left b = subst (λ (x : Bid). left_at x.offer c.act < acts_left b) is less in
    subst (λ (x : Bid). UnsentAt x.sent c.act) (sym is) (unsent_on b b.act answer c.act whole.pending fit (λ r e. not_keep b r begun e) unsent left)

front_fresh : {X : Type 0} (n m : ℕ) (x : X) (xs : List X) → n ≤ 16 → m ≡ n → xs ≡ replicate 16 x → replicate m x ≡ take n xs
front_fresh n m x xs few wide e = ap (λ (k : ℕ). replicate k x) wide ∙ (sym (take_fresh n x few) ∙ ap (take n) (sym e))

-- the first act of a bid, where its round was kept
pub begins : (who n : ℕ) (few : n ≤ 16) (intent : Intent) (position : ℕ) (ballot : Ballot) (old now : List Deed) (before : ℕ) (b c : Bid)
    → IsFresh intent.voters position ballot intent.want b → intent.position ≡ position → ballot.client.0 ≡ who → ballot.round ≡ before + 1 → now ≡ old ++ KeptDeed ballot.round true ∷ []
    → c ≡ record b { act = c.act } → BidRuns who n intent old now before ballot.round c
begins who n few intent position ballot old now before b c f placed mine next deed_is same = λ s top wide.
    let high : max s.top ballot.round ≡ ballot.round = omega (arith, top, next) in
    let at : intent.position ≡ b.position = placed ∙ sym f.position_is in
    let fresh : bid_begun s intent ballot.round true ≡ bidding_of n (record b { act = c.act }) ballot.round = λ i. record {
      top = high i;
      kept = Some (sym (ap (λ (x : Ballot). x.round) f.ballot_is) i);
      intent = record { want = sym f.want_is i; voters = sym f.voters_are i; position = at i };
      declared = sym (ap (λ (o : Option Entry). offer_record b.position b.ballot o) f.offer_is) i;
      failed = front_fresh n (length s.failed) false b.failed few wide f.failed_is i;
      sent = front_fresh n (length s.failed) false b.sent few wide f.sent_is i;
      looks = front_fresh n (length s.failed) None b.first_looks few wide f.first_is i;
      votes = front_fresh n (length s.failed) None b.second_looks few wide f.second_is i;
    } in (
      bid_begun s intent ballot.round true,
      did_bid who old old now s s [] intent ballot.round true (did_nothing who old s) deed_is (omega (arith, top, next)),
      record {
        client_is = ap (λ (x : Bid). x.ballot.client.0) same ∙ (ap (λ (x : Ballot). x.client.0) f.ballot_is ∙ mine);
        is = fresh ∙ ap (λ (x : Bid). bidding_of n x ballot.round) (sym same);
      },
    )

-- the round was not kept
pub kept_not : (who n : ℕ) (intent : Intent) (ballot : Ballot) (old now : List Deed) (before : ℕ)
    → ballot.round ≡ before + 1 → now ≡ old ++ KeptDeed ballot.round false ∷ [] → (s : Bidding) → s.top ≡ before → length s.failed ≡ n → BidMade who n ballot intent old now s before KeepFault
kept_not who n intent ballot old now before next deed_is s top wide = record {
  after = bid_begun s intent ballot.round false;
  did = did_bid who old old now s s [] intent ballot.round false (did_nothing who old s) deed_is (omega (arith, top, next));
  top_is = top;
  services_is = length-replicate (length s.failed) false ∙ wide;
  ends = deed_is;
}

-- nothing was done
pub broken_not : (who n : ℕ) (intent : Intent) (old now : List Deed) (before round : ℕ) → now ≡ old → round ≡ before → (s : Bidding) → s.top ≡ before → length s.failed ≡ n → BidHalted who n intent old now s round
broken_not who n intent old now before round same kept s top wide = record {
  broken = record {
    own = [];
    after = s;
    did = subst (λ (xs : List Deed). Did who old xs s [] s) (sym same) (did_nothing who old s);
    own_is = λ k d l. absurd (omega (arith, l));
    top_is = top ∙ sym kept;
    services_is = wide;
  };
  few = omega arith;
}

-- a bid was stopped in its midst
pub broken_in : (who n : ℕ) (few : n ≤ 16) (intent : Intent) (old now : List Deed) (before round : ℕ) (b : Bid) → length b.failed ≡ 16 → BidRuns who n intent old now before round b
    → (s : Bidding) → s.top ≡ before → length s.failed ≡ n → BidHalted who n intent old now s round
broken_in who n few intent old now before round b many h s top wide =
    let r = h s top wide in
    record {
      broken = record {
        own = intent ∷ [];
        after = r.0;
        did = r.1;
        own_is = All-push (λ (i : Intent). i ≡ intent) [] intent (λ k d l. absurd (omega (arith, l))) refl;
        top_is = ap (λ (t : Bidding). t.top) r.2.is;
        services_is = ap (λ (t : Bidding). length t.failed) r.2.is ∙ length-take-le n b.failed (omega (arith, few, many));
      };
      few = omega arith;
    }

-- a bid came to its end
pub made_of : (who n : ℕ) (few : n ≤ 16) (intent : Intent) (aim : Aim) (old now : List Deed) (before round : ℕ) (b : Bid) (outcome : Outcome) → IsBidOf intent aim b → IsBid b → BidRuns who n intent old now before round b
    → b.act ≡ End outcome → outcome ≢ KeepFault → (s : Bidding) → s.top ≡ before → length s.failed ≡ n → BidMade who n aim.ballot intent old now s round outcome
made_of who n few intent aim old now before round b outcome of whole h is real s top wide =
    let r = h s top wide in
    record {
      after = r.0;
      did = r.1;
      top_is = ap (λ (t : Bidding). t.top) r.2.is;
      services_is = ap (λ (t : Bidding). length t.failed) r.2.is ∙ length-take-le n b.failed (omega (arith, few, whole.framed.failed_many));
      ends = by outcome real (record {
        bid = b;
        position_is = of.position_is ∙ sym of.placed;
        ballot_is = of.ballot_is;
        want_is = of.want_is;
        voters_are = of.voters_are;
        mirrors = r.2;
        whole = whole;
        act = is;
      });
    }
  where
    by : (o : Outcome) → o ≢ KeepFault → {t : Bidding} → EndsAs who n aim.ballot intent t round o → Ends who n aim.ballot intent old now t round o
    by KeepFault real {t} e = absurd (real refl)
    by (Decided entry) real {t} e = e
    by Nothing real {t} e = e
    by (Outbid service x) real {t} e = e
    by (NoMajority flags) real {t} e = e
    by (Unlisted service) real {t} e = e

-- past the first act no fault of the keeper ends the bid
pub no_fault : (act : Act) (answer : Answer) (next : Act) → ((r : ℕ) → act ≡ Keep r → answer ≡ Failed → ⊥) → MayFault act answer next → next ≢ End KeepFault
no_fault (Keep r) Failed next other h = absurd (other r refl refl)
no_fault (Keep r) Kept next other h = h
no_fault (Keep r) Sent next other h = h
no_fault (Keep r) (Seen sight) next other h = h
no_fault (Keep r) Declared next other h = h
no_fault (Send service message) answer next other h = h
no_fault (Look service) answer next other h = h
no_fault (Declare offer) answer next other h = h
no_fault (End outcome) answer next other h = h
