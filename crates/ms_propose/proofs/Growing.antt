-- A bid that is true stays so by each act.
use Rattle.std.proofs.Common.{◌≡◌, ℕ, zero, suc, ◌<◌, Bool, true, false, List, [], ◌∷◌, ◌++◌, Option, Some, None, ◌⊎◌, inl, inr, refl, sym, ap, ◌∙◌, subst, length, replicate, slice_get, slice_set, arith}
use Rattle.std.specs.Prelude.{Contains}
use Rattle.std.proofs.lemmas.List.Elements.{Contains-append_left, filter_map-append}
use mathlib.Core.List.{IsPrefix}
use Rattle.ms_bid.specs.declared.act.Act.{Act}
use Rattle.ms_bid.specs.declared.bid.Bid.{Bid}
use Rattle.std.specs.List.{filter_map}
use Rattle.ms_bid.specs.Bids.{IsFresh, IsUnseen, message_of, seen_of, sought_of, with_sight}
use Rattle.ms_bid.specs.Ends.{flag_at, ShowsGreater}
use Rattle.ms_bid.specs.Shown.{shows, sight_at}
use Rattle.ms_core.specs.Closing.{logs_grow, offered_stays, whole_stays}
use Rattle.ms_core.specs.Valid.{judging_plan}
use Rattle.ms_core.specs.Views.{View, log_in, offers_told, owner_of_client, votes_told}
use Rattle.ms_ken.specs.Lists.{list_at, Begins, with_item}
use Rattle.ms_ken.specs.Prefixes.{get_last}
use Rattle.ms_ken.specs.Rows.{begins_item, begins_self, item_here}
use Rattle.ms_record.specs.declared.ballot.Ballot.{Ballot}
use Rattle.ms_record.specs.declared.entry.Entry.{Entry}
use Rattle.ms_record.specs.declared.item.Item.{Item}
use Rattle.ms_record.specs.declared.item.Item.TheVariants.{Offer}
use Rattle.ms_record.specs.declared.record.Record.{Record}
use Rattle.ms_record.specs.declared.record.Record.TheVariants.{Accept}
use Rattle.ms_record.specs.declared.setting.Setting.{Setting}
use Rattle.ms_record.specs.declared.sight.Sight.{Sight}
use Rattle.ms_record.specs.Growing.{linked_grows, votes_grow}
use Rattle.ms_record.specs.Items.{offer_in}
use Rattle.ms_record.specs.Logs.{vote_texts}
use Rattle.ms_record.specs.Offers.{IsOffered}
use Rattle.ms_record.specs.Reading.{record_at, votes_of, with_record}
use Rattle.ms_record.specs.Settings.{origin_of}
use Rattle.ms_propose.proofs.Lists.{flag_none}
use Rattle.ms_propose.proofs.Composing.{sight_on, votes_begin}
use Rattle.ms_propose.specs.TrueBids.{AreTrue, HasOffer, IsNewest, IsSeated, IsTrueBid}
use Rattle.ms_local.specs.Truths.{IsTrueSight}
use Rattle.ms_propose.proofs.Truths.{shows_or_greater}

-- ---- lists by service

pub none_seen : (n s : ℕ) (x : Sight) → sight_at (replicate n None) s ≡ Some x → ⊥
none_seen zero s x e = absurd cc
none_seen (suc n) zero x e = absurd cc
none_seen (suc n) (suc s) x e = none_seen n s x e

none_set : (n s : ℕ) → flag_at (replicate n false) s ≡ true → ⊥
none_set n s e = absurd (let q : false ≡ true = sym (flag_none n s) ∙ e in cc)

flag_set : (flags : List Bool) (s j : ℕ) → flag_at (slice_set flags s true) j ≡ true → (j ≡ s) ⊎ (flag_at flags j ≡ true)
flag_set [] s j e = inr e
flag_set (f ∷ flags) zero zero e = inl refl
flag_set (f ∷ flags) zero (suc j) e = inr e
flag_set (f ∷ flags) (suc s) zero e = inr e
flag_set (f ∷ flags) (suc s) (suc j) e = elim (flag_set flags s j e) [ inl h ↦ inl (ap (λ (k : ℕ). suc k) h) | inr h ↦ inr h ]

pub sight_set : (sights : List (Option Sight)) (s : ℕ) (y : Sight) (j : ℕ) (x : Sight) → sight_at (slice_set sights s (Some y)) j ≡ Some x → ((j ≡ s) × (y ≡ x)) ⊎ (sight_at sights j ≡ Some x)
sight_set [] s y j x e = inr e
sight_set (z ∷ xs) zero y zero x e = inl (refl, (let q : y ≡ x = cc in q))
sight_set (z ∷ xs) zero y (suc j) x e = inr e
sight_set (z ∷ xs) (suc s) y zero x e = inr e
sight_set (z ∷ xs) (suc s) y (suc j) x e = elim (sight_set xs s y j x e) [ inl h ↦ inl (ap (λ (k : ℕ). suc k) h.0, h.1) | inr h ↦ inr h ]

pub true_set : (low lists : View) (k : ℕ) (b : Ballot) (sights : List (Option Sight)) (s : ℕ) (sight : Sight) → AreTrue low lists k b sights → IsTrueSight low lists k b s sight → AreTrue low lists k b (slice_set sights s (Some sight))
true_set low lists k b sights s sight h new j x e =
    elim (sight_set sights s sight j x e) [
      | inl q ↦ subst (λ (i : ℕ). IsTrueSight low lists k b i x) (sym q.0) (subst (λ (y : Sight). IsTrueSight low lists k b s y) q.1 new)
      | inr q ↦ h j x q
    ]

-- ---- records of texts

vote_there : (texts : List (List ℕ)) (text : List ℕ) (m : Record) → record_at text ≡ Some m → Contains texts text → Contains (votes_of texts) m
vote_there [] text m is h = absurd (omega (arith, h.1))
vote_there (x ∷ texts) text m is (zero, l, e) = subst (λ (o : Option Record). Contains (with_record o (votes_of texts)) m) (sym (ap record_at e ∙ is)) (zero, omega arith, refl)
vote_there (x ∷ texts) text m is (suc k, l, e) = by (record_at x) (vote_there texts text m is (k, omega (arith, l), e)) where
  by : (o : Option Record) → Contains (votes_of texts) m → Contains (with_record o (votes_of texts)) m
  by None h = h
  by (Some r) h = (suc h.0, omega (arith, h.1), h.2)

pub sent_there : (lists : View) (s : ℕ) (text : List ℕ) (m : Record) → record_at text ≡ Some m → Contains (vote_texts (log_in lists s)) text → Contains (votes_told lists s) m
sent_there lists s text m is h = vote_there (vote_texts (log_in lists s)) text m is h

pub prefix_contains : {X : Type 0} (xs ys : List X) (x : X) → IsPrefix xs ys → Contains xs x → Contains ys x
prefix_contains xs ys x p h = subst (λ l. Contains l x) p.1 (Contains-append_left xs p.0 x h)

-- ---- what grows

module _ (setting : Setting) (low old new : View) (more : Begins old new) where
  pub true_more : (k : ℕ) (b : Ballot) (sights : List (Option Sight)) → AreTrue low old k b sights → AreTrue low new k b sights
  true_more k b sights h s x e = sight_on low low old new (begins_self low) more k b s x (h s x e)

  pub seated_more : (k : ℕ) (voters : List ℕ) (want : Option Entry) → IsSeated setting old k voters want → IsSeated setting new k voters want
  seated_more k voters want h = record {
    members = h.members;
    at = h.at;
    linked = linked_grows (votes_told old) (votes_told new) (origin_of setting) h.members (votes_grow (log_in old) (log_in new) (logs_grow old new more)) h.linked;
    voters_are = h.voters_are;
    next = λ e is. let n = h.next e is in record {
      links = n.links;
      whole = whole_stays (log_in old) (log_in new) (judging_plan setting h.members e) e.version (logs_grow old new more) n.whole;
    };
  }

  offer_more : (k : ℕ) (b : Ballot) (offer : Option Entry) → offers_told new b.client.0 ≡ offers_told old b.client.0 → HasOffer old k b offer → HasOffer new k b offer
  offer_more k b None same h = λ j c e is. h j c e (subst (λ (l : List Record). Contains l (Accept j c e)) same is)
  offer_more k b (Some e) same h = offered_stays old new more k b e h

  -- more is known, but of the own list
  pub learnt : (b : Bid) → offers_told new b.ballot.client.0 ≡ offers_told old b.ballot.client.0 → IsTrueBid setting low old b → IsTrueBid setting low new b
  learnt b same h = record {
    looks = true_more b.position b.ballot b.first_looks h.looks;
    votes = true_more b.position b.ballot b.second_looks h.votes;
    offer = offer_more b.position b.ballot b.offer same h.offer;
    sent = λ s e. prefix_contains (votes_told old s) (votes_told new s) (message_of b.position b.ballot b.offer) (votes_begin old new more s) (h.sent s e);
    listed = h.listed;
    seated = seated_more b.position b.voters b.want h.seated;
  }

-- ---- what each answer leaves

seen_none : (offer : Option Entry) (first second : List (Option Sight)) → IsUnseen offer first second → seen_of offer first second ≡ replicate 16 None
seen_none None first second h = h.0
seen_none (Some e) first second h = h

module _ (setting : Setting) (low lists : View) (ballot : Ballot) (position : ℕ) (voters : List ℕ) (want : Option Entry) (act next : Act) (sent failed : List Bool) (looks votes : List (Option Sight)) where
  abbrev bid : Option Entry → Bid
  bid offer = record { ballot = ballot; position = position; voters = voters; want = want; act = act; offer = offer; sent = sent; failed = failed; first_looks = looks; second_looks = votes }

  pub true_failed : (offer : Option Entry) (s : ℕ) → IsTrueBid setting low lists (bid offer) → IsTrueBid setting low lists (record (bid offer) { failed = slice_set failed s true; act = next })
  true_failed offer s h = record { looks = h.looks; votes = h.votes; offer = h.offer; sent = h.sent; listed = h.listed; seated = h.seated }

  pub true_sent : (offer : Option Entry) (s : ℕ) → IsUnseen offer looks votes → Contains (votes_told lists s) (message_of position ballot offer) → IsTrueBid setting low lists (bid offer)
      → IsTrueBid setting low lists (record (bid offer) { sent = slice_set sent s true; act = next })
  true_sent offer s unseen there h = record {
    looks = h.looks;
    votes = h.votes;
    offer = h.offer;
    sent = λ j e. elim (flag_set sent s j e) [
      | inl is ↦ subst (λ (i : ℕ). Contains (votes_told lists i) (message_of position ballot offer)) (sym is) there
      | inr was ↦ h.sent j was
    ];
    listed = λ j x at _ _. absurd (none_seen 16 j x (subst (λ (l : List (Option Sight)). sight_at l j ≡ Some x) (seen_none offer looks votes unseen) at));
    seated = h.seated;
  }

  -- a sight of a service, whose list has the message where it was sent
  pub true_seen : (offer : Option Entry) (s : ℕ) (x : Sight) → (sight : IsTrueSight low lists position ballot s x) → (flag_at sent s ≡ true → Contains sight.list (message_of position ballot offer)) → IsTrueBid setting low lists (bid offer)
      → IsTrueBid setting low lists (record (with_sight (bid offer) offer s x) { act = next })
  true_seen None s x sight there h = record {
    looks = true_set low lists position ballot looks s x h.looks sight;
    votes = h.votes;
    offer = h.offer;
    sent = h.sent;
    listed = λ j y at sent_to miss. elim (sight_set looks s x j y at) [
      | inl q ↦ (
          let g = shows_or_greater sight.list position ballot None x sight.seen (there (subst (λ (i : ℕ). flag_at sent i ≡ true) q.0 sent_to)) (subst (λ (z : Sight). shows (sought_of None) (Some z) ≡ false) (sym q.1) miss) in
          (g.0, subst (λ (z : Sight). ShowsGreater ballot (Some z) g.0) q.1 g.1)
          )
      | inr was ↦ h.listed j y was sent_to miss
    ];
    seated = h.seated;
  }
  true_seen (Some e) s x sight there h = record {
    looks = h.looks;
    votes = true_set low lists position ballot votes s x h.votes sight;
    offer = h.offer;
    sent = h.sent;
    listed = λ j y at sent_to miss. elim (sight_set votes s x j y at) [
      | inl q ↦ (
          let g = shows_or_greater sight.list position ballot (Some e) x sight.seen (there (subst (λ (i : ℕ). flag_at sent i ≡ true) q.0 sent_to)) (subst (λ (z : Sight). shows (sought_of (Some e)) (Some z) ≡ false) (sym q.1) miss) in
          (g.0, subst (λ (z : Sight). ShowsGreater ballot (Some z) g.0) q.1 g.1)
          )
      | inr was ↦ h.listed j y was sent_to miss
    ];
    seated = h.seated;
  }

-- the last item of a client's list is the offer
pub last_offered : (lists : View) (who k : ℕ) (b : Ballot) (e : Entry) → owner_of_client who < length lists → b.client.0 ≡ who → IsOffered (offers_told (with_item lists (owner_of_client who) (Offer (Accept k b e)))) k b e
last_offered lists who k b e room mine =
    let r = Accept k b e in
    let own = list_at lists (owner_of_client who) in
    let at : offers_told (with_item lists (owner_of_client who) (Offer r)) who ≡ offers_told lists who ++ r ∷ [] = ap (λ (l : List Item). filter_map offer_in l) (item_here lists (owner_of_client who) (Offer r) room) ∙ filter_map-append offer_in own (Offer r ∷ []) in (
      length (offers_told lists who),
      subst (λ (c : ℕ). slice_get (offers_told (with_item lists (owner_of_client who) (Offer r)) c) (length (offers_told lists who)) ≡ Some r) (sym mine)
          (subst (λ (xs : List Record). slice_get xs (length (offers_told lists who)) ≡ Some r) (sym at) (get_last (offers_told lists who) r)),
    )

-- the offer was told
pub true_declared : (setting : Setting) (low lists : View) (b : Bid) (next : Act) (who : ℕ) (e : Entry) → owner_of_client who < length lists → b.ballot.client.0 ≡ who → IsTrueBid setting low lists b
    → IsTrueBid setting low (with_item lists (owner_of_client who) (Offer (Accept b.position b.ballot e))) (record b { offer = Some e; sent = replicate 16 false; act = next })
true_declared setting low lists b next who e room mine h =
    let new = with_item lists (owner_of_client who) (Offer (Accept b.position b.ballot e)) in
    let more : Begins lists new = begins_item lists (owner_of_client who) (Offer (Accept b.position b.ballot e)) in
    record {
      looks = true_more setting low lists new more b.position b.ballot b.first_looks h.looks;
      votes = true_more setting low lists new more b.position b.ballot b.second_looks h.votes;
      offer = last_offered lists who b.position b.ballot e room mine;
      sent = λ s is. absurd (none_set 16 s is);
      listed = λ s x at is miss. absurd (none_set 16 s is);
      seated = seated_more setting low lists new more b.position b.voters b.want h.seated;
    }

-- a bid of which only the round is kept
pub true_fresh : (setting : Setting) (low lists : View) (voters : List ℕ) (position : ℕ) (ballot : Ballot) (want : Option Entry) (b c : Bid) → IsFresh voters position ballot want b → c ≡ record b { act = c.act }
    → IsNewest lists ballot → IsSeated setting lists position voters want → IsTrueBid setting low lists c
true_fresh setting low lists voters position ballot want b c f same newest seated =
    let none : (sights : List (Option Sight)) → sights ≡ replicate 16 None → AreTrue low lists b.position b.ballot sights = λ sights e s x at. absurd (none_seen 16 s x (subst (λ (l : List (Option Sight)). sight_at l s ≡ Some x) e at)) in
    let unsent : (s : ℕ) → flag_at b.sent s ≡ true → ⊥ = λ s e. none_set 16 s (subst (λ (l : List Bool). flag_at l s ≡ true) f.sent_is e) in
    subst (λ (z : Bid). IsTrueBid setting low lists z) (sym same)
    (record {
      looks = none b.first_looks f.first_is;
      votes = none b.second_looks f.second_is;
      offer = subst (λ (o : Option Entry). HasOffer lists b.position b.ballot o) (sym f.offer_is) (subst (λ (z : Ballot). IsNewest lists z) (sym f.ballot_is) newest);
      sent = λ s e. absurd (unsent s e);
      listed = λ s x at e miss. absurd (unsent s e);
      seated =
          subst (λ (o : Option Entry). IsSeated setting lists b.position b.voters o) (sym f.want_is)
          (subst (λ (v : List ℕ). IsSeated setting lists b.position v want) (sym f.voters_are) (subst (λ (k : ℕ). IsSeated setting lists k voters want) (sym f.position_is) seated));
    })
