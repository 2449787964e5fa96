-- Each event keeps what holds.
use Rattle.std.proofs.Common.{◌≡◌, ℕ, suc, ◌+◌, ◌^◌, ◌<◌, ◌≤◌, IfSome, zero, take, Bool, true, false, List, [], ◌∷◌, ◌++◌, Option, Some, None, ◌⊎◌, inl, inr, refl, sym, ap, ◌∙◌, subst, slice_get, slice_set, length, replicate, count_by, cond, arith}
use Rattle.std.proofs.lemmas.Bool.{cases_lt, cases_Bool, true≢false}
use Rattle.std.proofs.lemmas.List.Sums.{sum_by-cons}
use Rattle.std.proofs.lemmas.Option.{slice_get_within, slice_get-map}
use Rattle.ms_base.specs.CountLaws.{count_some}
use Rattle.ms_base.specs.declared.names.Name.{Name}
use Rattle.ms_base.specs.declared.names.ClientId.{ClientId}
use Rattle.ms_world.specs.declared.client.Bidding.{Bidding}
use Rattle.ms_record.specs.declared.ballot.Ballot.{Ballot}
use Rattle.ms_record.specs.declared.ballot.Vote.{Vote}
use Rattle.ms_record.specs.declared.entry.Entry.{Entry}
use Rattle.ms_record.specs.declared.log.LogEvent.{LogEvent}
use Rattle.ms_record.specs.declared.record.Record.{Record}
use Rattle.ms_record.specs.declared.record.Record.TheVariants.{Prepare, Accept}
use Rattle.ms_record.specs.declared.setting.Setting.{Setting}
use Rattle.ms_record.specs.Ballots.{IsBelow, IsAtMost}
use Rattle.ms_record.specs.Chains.{GoesOn, LinksBehind, IsLinked, last_name, plan_after, plan_in, voters_behind}
use Rattle.ms_record.specs.Entries.{IsEntry, name_of}
use Rattle.ms_record.specs.Offers.{IsOfGreatest, IsOffered}
use Rattle.ms_record.specs.Plans.{PlanView, IsPlan, no_plan}
use Rattle.ms_record.specs.Records.{IsRecord}
use Rattle.ms_record.specs.Settings.{IsSetting, genesis_plan, origin_of}
use Rattle.ms_record.specs.Votes.{ballot_of, IsPromised, IsBest, ChosenBy}
use Rattle.ms_core.specs.Valid.{IsValid, judging_plan, votes_of_logs}
use Rattle.ms_core.specs.Placing.{IsPlaced}
use Rattle.ms_record.specs.Voters.{AreKnown, first_known}
use Rattle.ms_record.specs.Growing.{justified_grows}
use Rattle.ms_world.specs.Worlds.{ClientView, RequestView, WorldView, log_of, votes_of_world, known_votes, offers_of, offers_in, to_all, ballot_of_round, next_of, last_of, plan_of_client, voters_of_client}
use Rattle.ms_record.specs.ChainLaws.{ChainLaws}
use Rattle.ms_base.specs.Places.{some_same, append_left, append_cases, alone}
use Rattle.ms_world.proofs.Logs.{known_grows}
use Rattle.std.specs.Option.{option_map}
use Rattle.sha2.proofs.Facts256.{length-sha256}
use Rattle.ms_world.specs.declared.event.Event.TheVariants as events
use Rattle.ms_world.specs.declared.event.Push.{Push}
use Rattle.ms_world.specs.Steps.{IsPlacedByPuts, IsPlacedNow, WantIsPlaced, pushed, last_version, version_of, in_format, planned, turn_plan, turned, migrated_plan, migrated, bidding, with_bid, bid_made, CanBid, FitsNow, IsUnmigrated, StartStep, StopStep, BidStep, TurnStep, MigrateStep, ReadStep, OfferStep, IsEvent}
use Rattle.ms_world.proofs.Invariant.{IsAccept, IsWanted, IsBid, ClientOk, Inv}
use Rattle.ms_world.proofs.Keeping.{MayOffer, keeps_silent, keeps_quiet}

-- no member at all
pub none_linked : (setting : Setting) (logs : ℕ → List LogEvent) → IsLinked (votes_of_logs logs) (origin_of setting) []
none_linked setting logs = record { chosen = λ i e g. absurd (let q : None ≡ Some e = g in cc); links = λ i e g. absurd (let q : None ≡ Some e = g in cc) }

no_bid : (setting : Setting) (logs : ℕ → List LogEvent) (client : ℕ) (c : ClientView) → c.bid ≡ None → (bid : Bidding) → c.bid ≡ Some bid → IsBid setting logs client c bid
no_bid setting logs client c none bid e = absurd (let q : None ≡ Some bid = sym none ∙ e in cc)

pub keeps_start : (setting : Setting) (old : WorldView) (client : ℕ) (new : WorldView) → StartStep setting old client new → Inv setting old → Inv setting new
keeps_start setting old client new s h =
    let ok = h.clients client s.c s.is in
    let d : ClientView = record { on = true; kept = s.c.kept; offers = s.c.offers; known = replicate setting.services 0; chain = []; bid = None } in
    subst (λ (w : WorldView). Inv setting w) (sym s.becomes)
    (keeps_quiet setting old client s.c d h s.is refl (record { known = ok.known; accepts = ok.accepts; own = ok.own; rising = ok.rising; linked = none_linked setting (log_of old); bid = no_bid setting (log_of old) client d refl }))

-- a client whose round, offers, chain and bid stay
same_client : (setting : Setting) (logs : ℕ → List LogEvent) (client : ℕ) (c d : ClientView) → d.kept ≡ c.kept → d.offers ≡ c.offers → d.chain ≡ c.chain → d.bid ≡ c.bid → ClientOk setting logs client c → ClientOk setting logs client d
same_client setting logs client c d ek eo ec eb ok = record {
  known = ok.known;
  accepts = λ i r g. ok.accepts i r (ap (λ (l : List Record). slice_get l i) (sym eo) ∙ g);
  own = λ i r g. let o = ok.own i r (ap (λ (l : List Record). slice_get l i) (sym eo) ∙ g) in (o.0, omega (arith, o.1, ek));
  rising = λ i j r q l gr gq. ok.rising i j r q l (ap (λ (xs : List Record). slice_get xs i) (sym eo) ∙ gr) (ap (λ (xs : List Record). slice_get xs j) (sym eo) ∙ gq);
  linked = subst (λ (l : List Entry). IsLinked (votes_of_logs logs) (origin_of setting) l) (sym ec) ok.linked;
  bid = λ bid e. let b = ok.bid bid (sym eb ∙ e) in record {
    at = b.at ∙ ap (λ (l : List Entry). length l + 1) (sym ec);
    last = b.last;
    kept = omega (arith, b.kept, ek);
    some_round = b.some_round;
    last_round = b.last_round;
    fresh = λ f i r g. b.fresh f i r (ap (λ (l : List Record). slice_get l i) (sym eo) ∙ g);
    want = λ w is. let x = b.want w is in record {
      own = x.own;
      fits = x.fits;
      links = subst (λ (l : List Entry). LinksBehind (origin_of setting) l w) (sym ec) x.links;
      placed = subst (λ (l : List Entry). IsPlaced logs (judging_plan setting l w) w.version) (sym ec) x.placed;
    };
  };
}

pub keeps_stop : (setting : Setting) (old : WorldView) (client : ℕ) (new : WorldView) → StopStep old client new → Inv setting old → Inv setting new
keeps_stop setting old client new s h =
    subst (λ (w : WorldView). Inv setting w) (sym s.becomes)
    (keeps_quiet setting old client s.c (record s.c { on = false }) h s.up.is refl (same_client setting (log_of old) client s.c (record s.c { on = false }) refl refl refl refl (h.clients client s.c s.up.is)))

pub keeps_read : (setting : Setting) (old : WorldView) (client service upto : ℕ) (new : WorldView) → ReadStep setting old client service upto new → Inv setting old → Inv setting new
keeps_read setting old client service upto new s h =
    let d : ClientView = record s.c { known = slice_set s.c.known service upto } in
    subst (λ (w : WorldView). Inv setting w) (sym s.becomes)
    (keeps_quiet setting old client s.c d h s.up.is refl (same_client setting (log_of old) client s.c d refl refl refl refl (h.clients client s.c s.up.is)))

pub message_of_all : (voters : List ℕ) (m : Record) (i : ℕ) (q : RequestView) → slice_get (to_all voters m) i ≡ Some q → q.message ≡ m
message_of_all voters m i q h =
    go (slice_get voters i) (sym (slice_get-map (λ s. let r : RequestView = record { service = s; message = m } in r) voters i) ∙ h)
  where
    go : (o : Option ℕ) → option_map (λ s. let r : RequestView = record { service = s; message = m } in r) o ≡ Some q → q.message ≡ m
    go None e = (let w : None ≡ Some q = e in cc)
    go (Some s) e = (let w : (let r : RequestView = record { service = s; message = m } in r) ≡ q = some_same _ q e in ap (λ (x : RequestView). x.message) (sym w))

prepare_or_not : (k j : ℕ) (b c : Ballot) (e : Entry) → Prepare k b ≡ Accept j c e → ⊥
prepare_or_not k j b c e h = cc

-- a bid is made
bid_keeps : (setting : Setting) (old : WorldView) (client round : ℕ) (c : ClientView) (want : Option Entry) → setting.clients ≤ 16 → CanBid old client round c
    → ((e : Entry) → want ≡ Some e → IsWanted setting (log_of old) client c e) → Inv setting old → Inv setting (bid_made setting old client c round want)
bid_keeps setting old client round c want few can wanted h =
    let ok = h.clients client c can.up.is in
    let bid : Bidding = bidding c round want in
    let d : ClientView = with_bid c round want in
    let m : Record = Prepare (next_of c) (ballot_of_round client round) in
    let voters = voters_of_client setting c in
    keeps_silent setting old client c d (to_all voters m) h can.up.is refl (record {
      known = ok.known;
      accepts = ok.accepts;
      own = λ i r g. ((ok.own i r g).0, omega (arith, (ok.own i r g).1, can.above.0));
      rising = ok.rising;
      linked = ok.linked;
      bid = λ t e. subst (λ (b : Bidding). IsBid setting (log_of old) client d b) (some_same bid t e) (record {
        at = refl;
        last = can.position;
        kept = omega arith;
        some_round = omega (arith, can.above.0);
        last_round = can.above.1;
        fresh = λ f i r g. omega (arith, (ok.own i r g).1, can.above.0);
        want = λ w is. let x = wanted w is in record { own = x.own; fits = x.fits; links = x.links; placed = x.placed };
      });
    })
    (λ i q k b e g a. prepare_or_not (next_of c) k (ballot_of_round client round) b e (sym (message_of_all voters m i q g) ∙ a))
    (λ i q g. subst IsRecord (sym (message_of_all voters m i q g))
    ((omega arith, can.position), record { some_round = omega (arith, can.above.0); last_round = can.above.1; client = omega (arith, few, ok.known) }))

-- names of members have 32 bytes
last_name_long : (name : List ℕ) (c : List Entry) → length name ≡ 32 → length (last_name name c) ≡ 32
last_name_long name [] h = h
last_name_long name (e ∷ es) h = last_name_long (name_of e) es (length-sha256 _)

push_wanted : (setting : Setting) (old : WorldView) (client : ℕ) (c : ClientView) (push : Push) → client < 16 → push.number < 2 ^ 32 → length push.version.0 ≡ 32 → IsPlacedNow setting old c push.version
    → IsWanted setting (log_of old) client c (record { before = record { 0 = last_of setting c }; client = record { 0 = client }; number = push.number; version = push.version; plan = None })
push_wanted setting old client c push low number version placed = record {
  own = refl;
  fits = record { before = last_name_long (name_of setting.genesis) c.chain (length-sha256 _); client = low; number = number; version = version; plan = tt };
  links = record { names = refl; plan = tt };
  placed = placed.placed;
}

pub keeps_bid : (setting : Setting) (old : WorldView) (client round : ℕ) (want : Option Push) (new : WorldView) → setting.clients ≤ 16 → IsEvent (events.Bid (record { 0 = client }) round want) → BidStep setting old client round want new → Inv setting old → Inv setting new
keeps_bid setting old client round want new few fits s h =
    subst (λ (w : WorldView). Inv setting w) (sym s.becomes) (bid_keeps setting old client round s.c (pushed setting s.c client want) few s.can (by want fits s.placed) h)
  where
    low : client < 16
    low = omega (arith, few, (h.clients client s.c s.can.up.is).known)

    by : (o : Option Push) → IsEvent (events.Bid (record { 0 = client }) round o) → WantIsPlaced setting old s.c o → (e : Entry) → pushed setting s.c client o ≡ Some e → IsWanted setting (log_of old) client s.c e
    by None fits placed e is = absurd (let q : None ≡ Some e = is in cc)
    by (Some push) fits placed e is = subst (λ (x : Entry). IsWanted setting (log_of old) client s.c x) (some_same _ e is) (push_wanted setting old client s.c push low fits.0 fits.1 placed)

-- ---- what is chosen was offered

pub chosen_offered : (setting : Setting) (w : WorldView) (voters : List ℕ) (k : ℕ) (e : Entry) → Inv setting w → ChosenBy (votes_of_world w) voters k e → (b : Ballot) × IsOffered (offers_in w) k b e
chosen_offered setting w voters k e h c =
    let m = count_some c.part voters (omega (arith, c.majority.more_than_half)) in
    let t = c.taken m.0 m.1 in
    (c.ballot, h.listed m.0 t.0 k c.ballot e t.1.stands)

pub member_fits : (setting : Setting) (w : WorldView) (c : List Entry) → Inv setting w → IsLinked (votes_of_world w) (origin_of setting) c
    → (i : ℕ) (e : Entry) → slice_get c i ≡ Some e → IsEntry e
member_fits setting w c h linked i e at = let o = chosen_offered setting w (voters_behind (origin_of setting) (take i c)) (i + 1) e h (linked.chosen i e at) in h.fits (i + 1) o.0 e o.1

version_long : (version : Name) (c : List Entry) → length version.0 ≡ 32 → ((i : ℕ) (e : Entry) → slice_get c i ≡ Some e → IsEntry e) → length (last_version version c).0 ≡ 32
version_long version [] h each = h
version_long version (e ∷ es) h each = version_long e.version es (each 0 e refl).version (λ i f at. each (suc i) f at)

-- ---- plan entries

planned_wanted : (setting : Setting) (old : WorldView) (client number : ℕ) (c : ClientView) (version : Name) (plan : PlanView) → client < 16 → number < 2 ^ 32 → length version.0 ≡ 32 → IsPlan plan
    → FitsNow setting c plan → IsPlacedByPuts old plan version → IsWanted setting (log_of old) client c (planned setting c client number version plan)
planned_wanted setting old client number c version plan low few long is fits placed = record {
  own = refl;
  fits = record {
    before = last_name_long (name_of setting.genesis) c.chain (length-sha256 _);
    client = low;
    number = few;
    version = long;
    plan = is;
  };
  links = record { names = refl; plan = fits };
  placed = placed.placed;
}

plan_keeps : (first : PlanView) (c : List Entry) → IsPlan first → ((i : ℕ) (e : Entry) → slice_get c i ≡ Some e → IsEntry e) → IsPlan (plan_in first c)
plan_keeps first [] h each = h
plan_keeps first (e ∷ es) h each = plan_keeps (plan_after first e.plan) es (after e.plan (each zero e refl).plan) (λ i f at. each (suc i) f at)
  where
    after : (o : Option PlanView) → IfSome o IsPlan → IsPlan (plan_after first o)
    after None n = h
    after (Some plan) n = n

-- the plan in force behind a client's chain keeps the plan rules
pub client_plan : (setting : Setting) (w : WorldView) (client : ℕ) (c : ClientView) → IsSetting setting → Inv setting w → ClientOk setting (log_of w) client c → IsPlan (plan_of_client setting c)
client_plan setting w client c set h ok =
    let first : IfSome (Some set.plan) IsPlan = subst (λ (o : Option PlanView). IfSome o IsPlan) set.plan_is set.genesis.plan in
    plan_keeps (genesis_plan setting) c.chain (subst (λ (o : Option PlanView). IsPlan (plan_after no_plan o)) (sym set.plan_is) first) (member_fits setting w c.chain h ok.linked)

-- a plan in another format keeps the rules
pub format_keeps : (plan : PlanView) (format : ℕ) → IsPlan plan → 1 ≤ format → format ≤ 2 → IsPlan (in_format format plan)
format_keeps plan format h some last = record {
  some_generation = h.some_generation;
  last_generation = h.last_generation;
  some_format = some;
  last_format = last;
  some_unit = h.some_unit;
  unit = h.unit;
  some_rows = h.some_rows;
  few_rows = h.few_rows;
  some_replicas = h.some_replicas;
  few_replicas = h.few_replicas;
  rows = h.rows;
  rising = h.rising;
}

pub keeps_turn : (setting : Setting) (old : WorldView) (client round number : ℕ) (plan : PlanView) (new : WorldView) → IsSetting setting → (number < 2 ^ 32) × IsPlan plan
    → TurnStep setting old client round number plan new → Inv setting old → Inv setting new
keeps_turn setting old client round number plan new set fits s h =
    let ok = h.clients client s.c s.can.up.is in
    let now = client_plan setting old client s.c set h ok in
    let long = version_long setting.genesis.version s.c.chain set.genesis.version (member_fits setting old s.c.chain h ok.linked) in
    let w = planned_wanted setting old client number s.c (version_of setting s.c) (turn_plan setting s.c plan) (omega (arith, set.few_clients, ok.known)) fits.0 long
    (format_keeps plan (plan_of_client setting s.c).format fits.1 now.some_format now.last_format) s.fits s.placed in
    subst (λ (w : WorldView). Inv setting w) (sym s.becomes)
    (bid_keeps setting old client round s.c (Some (turned setting s.c client number plan)) set.few_clients s.can (λ e is. subst (λ (x : Entry). IsWanted setting (log_of old) client s.c x) (some_same _ e is) w) h)

known_next : (services : ℕ) (plan : PlanView) (generation format : ℕ) (o : Option PlanView) → AreKnown services plan → IfSome o (GoesOn generation format services) → AreKnown services (plan_after plan o)
known_next services plan generation format None known goes = known
known_next services plan generation format (Some next) known goes = goes.known

known_behind : (services : ℕ) (plan : PlanView) (c : List Entry) → AreKnown services plan → ((i : ℕ) (e : Entry) → slice_get c i ≡ Some e → (generation : ℕ) × (format : ℕ) × IfSome e.plan (GoesOn generation format services))
    → AreKnown services (plan_in plan c)
known_behind services plan [] known each = known
known_behind services plan (e ∷ es) known each =
    let first = each zero e refl in
    known_behind services (plan_after plan e.plan) es (known_next services plan first.0 first.1 e.plan known first.2) (λ i f at. each (suc i) f at)

-- the plan in force fits once more, in format 2
migrated_fits : (setting : Setting) (old : WorldView) (client : ℕ) (c : ClientView) → IsSetting setting → ClientOk setting (log_of old) client c → IsUnmigrated setting c → FitsNow setting c (migrated_plan setting c)
migrated_fits setting old client c set ok first = record {
  known = known_behind setting.services (genesis_plan setting) c.chain (first_known setting set)
      (λ i e at. ((plan_in (genesis_plan setting) (take i c.chain)).generation, (plan_in (genesis_plan setting) (take i c.chain)).format, (ok.linked.links i e at).plan));
  known_format = omega arith;
  format_stays = omega (arith, first);
  not_below = omega arith;
}

pub keeps_migrate : (setting : Setting) (old : WorldView) (client round number : ℕ) (version : Name) (new : WorldView) → IsSetting setting → (number < 2 ^ 32) × (length version.0 ≡ 32)
    → MigrateStep setting old client round number version new → Inv setting old → Inv setting new
keeps_migrate setting old client round number version new set fits s h =
    let ok = h.clients client s.c s.can.up.is in
    let now = client_plan setting old client s.c set h ok in
    let w = planned_wanted setting old client number s.c version (migrated_plan setting s.c) (omega (arith, set.few_clients, ok.known)) fits.0 fits.1
    (format_keeps (plan_of_client setting s.c) 2 now (omega arith) (omega arith)) (migrated_fits setting old client s.c set ok s.first) s.placed in
    subst (λ (w : WorldView). Inv setting w) (sym s.becomes)
    (bid_keeps setting old client round s.c (Some (migrated setting s.c client number version)) set.few_clients s.can (λ e is. subst (λ (x : Entry). IsWanted setting (log_of old) client s.c x) (some_same _ e is) w) h)

-- ---- offers

-- an offer under a ballot of this client stands in its list
offer_at : (w : WorldView) (client : ℕ) (c : ClientView) (k : ℕ) (b : Ballot) (e : Entry) → slice_get w.clients client ≡ Some c → b.client.0 ≡ client → (o : IsOffered (offers_in w) k b e)
    → slice_get c.offers o.0 ≡ Some (Accept k b e)
offer_at w client c k b e is q o = ap (λ (x : Option ClientView). slice_get (offers_of x) o.0) (sym (ap (slice_get w.clients) q ∙ is)) ∙ o.1

in_known : (w : WorldView) (c : ClientView) (s p : ℕ) (r : Record) → slice_get (known_votes w c s) p ≡ Some r → slice_get (votes_of_world w s) p ≡ Some r
in_known w c s p r h =
    let g = known_grows w c s in
    ap (λ (xs : List Record). slice_get xs p) (sym g.1) ∙ append_left (known_votes w c s) g.0 p r h

-- a ballot that is at most another is below it or is that ballot
pub at_most_cases : (b c : Ballot) → IsAtMost b c → IsBelow b c ⊎ ((b.round ≡ c.round) × (b.client.0 ≡ c.client.0))
at_most_cases b c h =
    elim (cases_lt b.round c.round) [
      | inl l ↦ inl (omega arith, λ e. absurd (omega arith))
      | inr g ↦ (let r : b.round ≡ c.round = omega arith in elim (cases_lt b.client.0 c.client.0) [
        | inl m ↦ inl (omega arith, λ e. m)
        | inr n ↦ inr (r, omega (arith, h.1 r))
      ])
    ]

-- no Accept of a ballot that was not offered yet is known
best_below : (setting : Setting) (w : WorldView) (client : ℕ) (c : ClientView) (bid : Bidding) (s place : ℕ) (best : Option Vote) (v : Vote) → Inv setting w → slice_get w.clients client ≡ Some c
    → c.bid ≡ Some bid → bid.offered ≡ false → IsPromised (known_votes w c s) place bid.position (ballot_of_round client bid.round) → IsBest (known_votes w c s) bid.position place best → best ≡ Some v
    → IsBelow v.ballot (ballot_of_round client bid.round)
best_below setting w client c bid s place best v h is has fresh promised best_is e =
    let g : IsBest (known_votes w c s) bid.position place (Some v) = subst (λ (o : Option Vote). IsBest (known_votes w c s) bid.position place o) e best_is in
    let m : IsAtMost v.ballot (ballot_of_round client bid.round) = promised.none_above g.at (Accept bid.position v.ballot v.entry) g.before g.taken.stands refl in
    elim (at_most_cases v.ballot (ballot_of_round client bid.round) m) [
      | inl l ↦ l
      | inr q ↦
          let o = h.listed s g.at bid.position v.ballot v.entry (in_known w c s g.at (Accept bid.position v.ballot v.entry) g.taken.stands) in
          let at = offer_at w client c bid.position v.ballot v.entry is q.1 o in
          let low = ((h.clients client c is).bid bid has).fresh fresh o.0 (Accept bid.position v.ballot v.entry) at in
          absurd (omega (arith, low, q.0))
    ]

best_offered : (setting : Setting) (w : WorldView) (c : ClientView) (s position place : ℕ) (v : Vote) → Inv setting w → IsBest (known_votes w c s) position place (Some v) → IsOffered (offers_in w) position v.ballot v.entry
best_offered setting w c s position place v h g = h.listed s g.at position v.ballot v.entry (in_known w c s g.at (Accept position v.ballot v.entry) g.taken.stands)

same_client_id : (a b : ClientId) → a.0 ≡ b.0 → a ≡ b
same_client_id a b e = λ i. record { 0 = e i }

pub may_offer : (l : ChainLaws) (setting : Setting) (w : WorldView) (client : ℕ) (new : WorldView) (s : OfferStep setting w client new) → Inv setting w
    → MayOffer setting w s.bid.position (ballot_of_round client s.bid.round) s.entry
may_offer l setting w client new s h =
    let b = (h.clients client s.c s.has.up.is).bid s.bid s.has.has in
    let k = s.bid.position in
    let ballot = ballot_of_round client s.bid.round in
    let greatest : (g : IsOfGreatest s.promises.part s.promises.bests s.entry) → IsOffered (offers_in w) k g.vote.ballot g.vote.entry = λ g.
    let x = s.promises.shown g.service g.member in
    best_offered setting w s.c g.service k x.0 g.vote h (subst (λ (o : Option Vote). IsBest (known_votes w s.c g.service) k x.0 o) g.has x.2) in
    record {
      at = (omega (arith, b.at), b.last);
      fits = elim s.offers [
        | inl g ↦ subst IsEntry (sym g.entry_is) (h.fits k g.vote.ballot g.vote.entry (greatest g))
        | inr o ↦ (b.want s.entry o.0).fits
      ];
      justified = record {
        members = s.c.chain;
        linked = (h.clients client s.c s.has.up.is).linked;
        at = b.at;
        justified = justified_grows (known_votes w s.c) (votes_of_world w) (voters_of_client setting s.c) k ballot s.entry (known_grows w s.c) (record {
          part = s.promises.part;
          bests = s.promises.bests;
          majority = s.promises.majority;
          shown = λ t m. let x = s.promises.shown t m in record {
            place = x.0;
            first = x.1;
            best_is = x.2;
            below = λ v e. best_below setting w client s.c s.bid t x.0 (s.promises.bests t) v h s.has.up.is s.has.has s.has.fresh x.1.promised x.2 e;
          };
          entry_is = elim s.offers [
            | inl g ↦ inl g
            | inr o ↦ inr (record { none = o.1; client_is = same_client_id s.entry.client ballot.client (b.want s.entry o.0).own })
          ];
        });
      };
      valid = elim s.offers [
        | inl g ↦ subst (λ (e : Entry). IsValid setting (log_of w) k e) (sym g.entry_is) (h.valid k g.vote.ballot g.vote.entry (greatest g))
        | inr o ↦ (let x = b.want s.entry o.0 in record {
          next = record { members = s.c.chain; linked = (h.clients client s.c s.has.up.is).linked; at = b.at; links = x.links };
          placed = x.placed;
        })
      ];
    }

pub offer_client : (l : ChainLaws) (setting : Setting) (w : WorldView) (client : ℕ) (new : WorldView) (s : OfferStep setting w client new) → Inv setting w
    → ClientOk setting (log_of w) client (record s.c { offers = s.c.offers ++ Accept s.bid.position (ballot_of_round client s.bid.round) s.entry ∷ []; bid = Some (record s.bid { offered = true }) })
offer_client l setting w client new s h =
    let ok = h.clients client s.c s.has.up.is in
    let b = ok.bid s.bid s.has.has in
    let r = Accept s.bid.position (ballot_of_round client s.bid.round) s.entry in
    let done : Bidding = record s.bid { offered = true } in
    record {
      known = ok.known;
      accepts = λ i q g. elim (append_cases s.c.offers (r ∷ []) i q g) [
        | inl there ↦ ok.accepts i q there
        | inr n ↦ subst IsAccept (alone r q n.0 n.2).1 tt
      ];
      own = λ i q g. elim (append_cases s.c.offers (r ∷ []) i q g) [
        | inl there ↦ ok.own i q there
        | inr n ↦ (let a = (alone r q n.0 n.2).1 in (ap (λ (x : Record). (ballot_of x).client.0) (sym a), omega (arith, b.kept, ap (λ (x : Record). (ballot_of x).round) a)))
      ];
      rising = λ i j p q less gp gq. elim (append_cases s.c.offers (r ∷ []) j q gq) [
        | inl m ↦ elim (append_cases s.c.offers (r ∷ []) i p gp) [
          | inl n ↦ ok.rising i j p q less n m
          | inr n ↦ absurd (omega (arith, n.1, slice_get_within s.c.offers j q m))
        ]
        | inr m ↦ elim (append_cases s.c.offers (r ∷ []) i p gp) [
          | inl n ↦ omega (arith, b.fresh s.has.fresh i p n, ap (λ (x : Record). (ballot_of x).round) (alone r q m.0 m.2).1)
          | inr n ↦ absurd (omega (arith, n.1, m.1, (alone r p n.0 n.2).0, (alone r q m.0 m.2).0))
        ]
      ];
      linked = ok.linked;
      bid = λ t e. subst (λ (x : Bidding). IsBid setting (log_of w) client (record s.c { offers = s.c.offers ++ r ∷ []; bid = Some done }) x) (some_same done t e) (record {
        at = b.at;
        last = b.last;
        kept = b.kept;
        some_round = b.some_round;
        last_round = b.last_round;
        fresh = λ f. absurd (let z : true ≡ false = f in true≢false z);
        want = λ e is. let x = b.want e is in record { own = x.own; fits = x.fits; links = x.links; placed = x.placed };
      });
    }
