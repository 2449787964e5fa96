-- Each run keeps what holds, and so its chosen entries agree.
use Rattle.std.proofs.Common.{◌≡◌, ℕ, zero, suc, ◌+◌, ◌≤◌, true, List, [], ◌∷◌, ◌++◌, Option, Some, None, inl, inr, refl, sym, ap, ◌∙◌, subst, slice_get, slice_index_or, length, replicate, Contains, All, arith}
use Rattle.std.proofs.lemmas.List.{length-replicate}
use Rattle.std.proofs.lemmas.List.Elements.{All-head, All-tail}
use Rattle.std.proofs.lemmas.Option.{slice_get_within}
use Rattle.ms_base.specs.declared.names.Name.{Name}
use Rattle.ms_base.specs.declared.names.ClientId.{ClientId}
use Rattle.ms_record.specs.declared.entry.Entry.{Entry}
use Rattle.ms_record.specs.declared.log.LogEvent.{LogEvent}
use Rattle.ms_record.specs.declared.log.LogEvent.TheVariants.{Rec, Put, Drop}
use Rattle.ms_record.specs.declared.record.Record.{Record}
use Rattle.ms_record.specs.declared.record.Record.TheVariants.{Prepare, Accept}
use Rattle.ms_record.specs.declared.setting.Setting.{Setting}
use Rattle.ms_record.specs.Chains.{IsLinked, IsChain, IsChosen, Agrees, AllNext, Begins, voters_behind}
use Rattle.ms_record.specs.Growing.{chosen_grows}
use Rattle.ms_record.specs.Logs.{votes_in}
use Rattle.ms_record.specs.Reading.{with_record}
use Rattle.ms_record.specs.Records.{IsRecord, record_text}
use Rattle.ms_record.specs.Settings.{IsSetting, origin_of}
use Rattle.ms_record.specs.Votes.{ballot_of}
use Rattle.ms_core.specs.Valid.{IsValid}
use Rattle.ms_world.specs.Worlds.{ClientView, WorldView, log_of, votes_of_world, known_votes, offers_of, offers_in, to_all, changed, ballot_of_round, next_of, voters_of_client, new_client, start_world}
use Rattle.ms_record.specs.ChainLaws.{ChainLaws}
use Rattle.ms_base.specs.Places.{at_end, alone, set_here, replicate_all, in_none}
use Rattle.ms_world.proofs.Logs.{known_grows}
use Rattle.sha2.specs.Sha256.{sha256}
use Rattle.ms_world.specs.declared.event.Event.{Event}
use Rattle.ms_world.specs.declared.event.Event.TheVariants as events
use Rattle.ms_world.specs.declared.event.Push.{Push}
use Rattle.ms_world.specs.Steps.{IsTurned, vote_list, DeliverStep, OfferStep, LearnStep, PlaceStep, DropStep, Step, Steps, IsRun, IsEvent}
use Rattle.ms_core.specs.Valid.{IsBacked}
use Rattle.ms_world.proofs.Invariant.{ClientOk, Inv, sound}
use Rattle.ms_world.proofs.Keeping.{MayOffer, keeps_client, keeps_quiet, keeps_logged}
use Rattle.ms_world.proofs.Events.{none_linked, message_of_all, keeps_start, keeps_stop, keeps_read, keeps_bid, keeps_turn, keeps_migrate, may_offer, offer_client, chosen_offered}

-- an offer that may be made
AllOk : Setting → WorldView → Record → Type 0
AllOk setting w (Prepare k b) = Unit {0}
AllOk setting w (Accept k b e) = MayOffer setting w k b e

keeps_offer : (l : ChainLaws) (setting : Setting) (old : WorldView) (client : ℕ) (new : WorldView) → IsSetting setting → OfferStep setting old client new → Inv setting old → Inv setting new
unfolding AllOk
keeps_offer l setting old client new set s h =
    let ok = h.clients client s.c s.has.up.is in
    let b = ok.bid s.bid s.has.has in
    let may = may_offer l setting old client new s h in
    let r = Accept s.bid.position (ballot_of_round client s.bid.round) s.entry in
    let d : ClientView = record s.c { offers = s.c.offers ++ r ∷ []; bid = Some (record s.bid { offered = true }) } in
    let voters = voters_of_client setting s.c in
    let sent = to_all voters r in
    let IsIn : Record → Type 0 = λ q. (place : ℕ) × (slice_get (offers_in (changed old client d sent) (ballot_of q).client.0) place ≡ Some q) in
    let there : IsIn r = (length s.c.offers, ap (λ (o : Option ClientView). slice_get (offers_of o) (length s.c.offers)) (set_here old.clients client d s.c s.has.up.is) ∙ at_end s.c.offers r) in
    let fits : IsRecord r = ((omega (arith, b.at), b.last), record { some_round = b.some_round; last_round = b.last_round; client = omega (arith, set.few_clients, ok.known) }, may.fits) in
    subst (λ (w : WorldView). Inv setting w) (sym s.becomes)
    (keeps_client setting old client s.c d sent (r ∷ []) h s.has.up.is refl (offer_client l setting old client new s h)
    (λ i k b e g. let q : r ≡ Accept k b e = (alone r (Accept k b e) i g).1 in subst (λ (x : Record). AllOk setting old x) q may)
    (λ i q k b e g m. subst IsIn (sym (message_of_all voters r i q g) ∙ m) there)
    (λ i q g. subst IsRecord (sym (message_of_all voters r i q g)) fits))

keeps_learn : (l : ChainLaws) (setting : Setting) (old : WorldView) (client : ℕ) (new : WorldView) → LearnStep setting old client new → Inv setting old → Inv setting new
keeps_learn l setting old client new s h =
    let ok = h.clients client s.c s.up.is in
    let chosen = chosen_grows (known_votes old s.c) (votes_of_world old) (voters_of_client setting s.c) (next_of s.c) s.entry (known_grows old s.c) s.can.chosen in
    subst (λ (w : WorldView). Inv setting w) (sym s.becomes)
    (keeps_quiet setting old client s.c (record s.c { chain = s.c.chain ++ s.entry ∷ []; bid = None }) h s.up.is refl (record {
      known = ok.known;
      accepts = ok.accepts;
      own = ok.own;
      rising = ok.rising;
      linked = l.goes_on (votes_of_world old) (origin_of setting) s.c.chain s.entry ok.linked chosen s.can.links;
      bid = λ bid e. absurd (let q : None ≡ Some bid = e in cc);
    }))

rec_is_no_drop : (text : List ℕ) (floor : ℕ) → Rec vote_list text ≡ Drop floor → ⊥
rec_is_no_drop text floor h = cc

put_is_no_drop : (generation : ℕ) (name : Name) (text : List ℕ) (floor : ℕ) → Put generation name text ≡ Drop floor → ⊥
put_is_no_drop generation name text floor h = cc

rec_is_no_put : (text : List ℕ) (generation : ℕ) (name : Name) (other : List ℕ) → Rec vote_list text ≡ Put generation name other → ⊥
rec_is_no_put text generation name other h = cc

drop_is_no_put : (floor generation : ℕ) (name : Name) (text : List ℕ) → Drop floor ≡ Put generation name text → ⊥
drop_is_no_put floor generation name text h = cc

abbrev name_in : Name → LogEvent → Name
name_in name (Put g x t) = x
name_in name (Rec list text) = name
name_in name (Drop floor) = name

abbrev text_in : LogEvent → List ℕ
text_in (Put g x t) = t
text_in (Rec list text) = []
text_in (Drop floor) = []

-- equal puts have one name and one text
same_put : (g h : ℕ) (x y : Name) (s t : List ℕ) → Put g x s ≡ Put h y t → x.0 ≡ sha256 s → y.0 ≡ sha256 t
same_put g h x y s t e is = ap (λ (n : Name). n.0) (sym (ap (name_in x) e)) ∙ is ∙ ap sha256 (ap text_in e)

same_floor : (floor other : ℕ) → Drop floor ≡ Drop other → floor ≡ other
same_floor floor other h = cc

keeps_deliver : (l : ChainLaws) (setting : Setting) (old : WorldView) (request : ℕ) (new : WorldView) → DeliverStep old request new → Inv setting old → Inv setting new
keeps_deliver l setting old request new s h =
    let m = s.r.message in
    let votes : votes_in (Rec vote_list (record_text m) ∷ []) ≡ m ∷ [] = ap (λ (o : Option Record). with_record o []) (l.read m (h.sent_fits request s.r s.is)) in
    subst (λ (w : WorldView). Inv setting w) (sym s.becomes)
    (keeps_logged l setting old s.r.service (Rec vote_list (record_text m)) h
    (λ p k b e at. h.sent request s.r k b e s.is (alone m (Accept k b e) p (ap (λ (l : List Record). slice_get l p) (sym votes) ∙ at)).1)
    (λ floor e. absurd (rec_is_no_drop (record_text m) floor e))
    (λ generation name text e. absurd (rec_is_no_put (record_text m) generation name text e)))

keeps_place : (l : ChainLaws) (setting : Setting) (old : WorldView) (service generation : ℕ) (text : List ℕ) (new : WorldView) → PlaceStep setting old service generation text new → Inv setting old → Inv setting new
keeps_place l setting old service generation text new s h =
    subst (λ (w : WorldView). Inv setting w) (sym s.becomes)
    (keeps_logged l setting old service (Put generation (record { 0 = sha256 text }) text) h
    (λ p k b e at. absurd (let q : None ≡ Some (Accept k b e) = at in cc))
    (λ floor e. absurd (put_is_no_drop generation (record { 0 = sha256 text }) text floor e))
    (λ g x t e. same_put generation g (record { 0 = sha256 text }) x text t e refl))

turned_backed : (setting : Setting) (w : WorldView) (floor : ℕ) → IsTurned setting w floor → IsBacked setting (log_of w) floor
turned_backed setting w floor (inl low) = inl low
turned_backed setting w floor (inr h) = inr (h.0, h.1.linked, h.2)

keeps_drop : (l : ChainLaws) (setting : Setting) (old : WorldView) (service floor : ℕ) (new : WorldView) → DropStep setting old service floor new → Inv setting old → Inv setting new
keeps_drop l setting old service floor new s h =
    subst (λ (w : WorldView). Inv setting w) (sym s.becomes)
    (keeps_logged l setting old service (Drop floor) h
    (λ p k b e at. absurd (let q : None ≡ Some (Accept k b e) = at in cc))
    (λ other e. subst (λ (f : ℕ). IsBacked setting (log_of old) f) (same_floor floor other e) (turned_backed setting old floor s.turned_is))
    (λ g x t e. absurd (drop_is_no_put floor g x t e)))

keeps_step : (l : ChainLaws) (setting : Setting) (old : WorldView) (event : Event) (new : WorldView) → IsSetting setting → IsEvent event → Step setting old event new → Inv setting old → Inv setting new
keeps_step l setting old (events.Start client) new set fits s h = keeps_start setting old client.0 new s h
keeps_step l setting old (events.Stop client) new set fits s h = keeps_stop setting old client.0 new s h
keeps_step l setting old (events.Bid client round want) new set fits s h = keeps_bid setting old client.0 round want new set.few_clients (any_client client round want fits) s h
  where
    any_client : (client : ClientId) (round : ℕ) (want : Option Push) → IsEvent (events.Bid client round want) → IsEvent (events.Bid (record { 0 = client.0 }) round want)
    any_client client round None h = tt
    any_client client round (Some push) h = h
keeps_step l setting old (events.Turn client round number plan) new set fits s h = keeps_turn setting old client.0 round number plan new set fits s h
keeps_step l setting old (events.Migrate client round number version) new set fits s h = keeps_migrate setting old client.0 round number version new set fits s h
keeps_step l setting old (events.Deliver request) new set fits s h = keeps_deliver l setting old request new s h
keeps_step l setting old (events.Read client service upto) new set fits s h = keeps_read setting old client.0 service.0 upto new s h
keeps_step l setting old (events.Offer client) new set fits s h = keeps_offer l setting old client.0 new set s h
keeps_step l setting old (events.Learn client) new set fits s h = keeps_learn l setting old client.0 new s h
keeps_step l setting old (events.Place service generation text) new set fits s h = keeps_place l setting old service.0 generation text new s h
keeps_step l setting old (events.DropBelow service floor) new set fits s h = keeps_drop l setting old service.0 floor new s h

pub keeps_steps : (l : ChainLaws) (setting : Setting) (old : WorldView) (events : List Event) (new : WorldView) → IsSetting setting → All IsEvent events → Steps setting old events new → Inv setting old → Inv setting new
keeps_steps l setting old [] new set fit s h = subst (λ (w : WorldView). Inv setting w) (sym s) h
keeps_steps l setting old (event ∷ events) new set fit s h =
    keeps_steps l setting s.0 events new set (All-tail IsEvent event events fit) s.2 (keeps_step l setting old event s.0 set (All-head IsEvent event events fit) s.1 h)

empty_log : (n s : ℕ) → slice_index_or (replicate n []) s [] ≡ (let none : List LogEvent = [] in none)
empty_log zero s = refl
empty_log (suc n) zero = refl
empty_log (suc n) (suc s) = empty_log n s

no_offers : (setting : Setting) (c : ℕ) → offers_in (start_world setting) c ≡ []
no_offers setting c = go (slice_get (replicate setting.clients new_client) c) (λ x e. replicate_all setting.clients new_client x c e)
  where
    go : (o : Option ClientView) → ((x : ClientView) → o ≡ Some x → new_client ≡ x) → offers_of o ≡ []
    go None h = refl
    go (Some x) h = ap (λ (c : ClientView). c.offers) (sym (h x refl))

nothing_in : {X : Type 0} (xs : List X) (i : ℕ) (x : X) → xs ≡ [] → slice_get xs i ≡ Some x → ⊥
nothing_in xs i x e g = let q : None ≡ Some x = ap (λ ys. slice_get ys i) (sym e) ∙ g in cc

pub start_inv : (setting : Setting) → Inv setting (start_world setting)
start_inv setting =
    let w = start_world setting in
    let none : (c i : ℕ) (r : Record) → slice_get (offers_in w c) i ≡ Some r → ⊥ = λ c i r g. nothing_in (offers_in w c) i r (no_offers setting c) g in
    record {
      clients = λ client c is.
          let new : new_client ≡ c = replicate_all setting.clients new_client c client is in
          subst (λ (x : ClientView). ClientOk setting (log_of w) client x) new (record {
            known = omega (arith, slice_get_within w.clients client c is, length-replicate setting.clients new_client);
            accepts = λ i r g. absurd (let q : None ≡ Some r = g in cc);
            own = λ i r g. absurd (let q : None ≡ Some r = g in cc);
            rising = λ i j r q l g. absurd (let p : None ≡ Some r = g in cc);
            linked = none_linked setting (log_of w);
            bid = λ bid e. absurd (let q : None ≡ Some bid = e in cc);
          });
      listed = λ s p k b e g. absurd (nothing_in (votes_of_world w s) p (Accept k b e) (ap votes_in (empty_log setting.services s)) g);
      sent = λ i q k b e g. absurd (let p : None ≡ Some q = g in cc);
      sent_fits = λ i q g. absurd (let p : None ≡ Some q = g in cc);
      fits = λ k b e o. absurd (none b.client.0 o.0 (Accept k b e) o.1);
      justified = λ k b e o. absurd (none b.client.0 o.0 (Accept k b e) o.1);
      valid = λ k b e o. absurd (none b.client.0 o.0 (Accept k b e) o.1);
      positions = λ k b e o. absurd (none b.client.0 o.0 (Accept k b e) o.1);
      named = λ s g x t has. absurd (in_none (Put g x t) (subst (λ (l : List LogEvent). Contains l (Put g x t)) (empty_log setting.services s) has));
      services = length-replicate setting.services (let none : List LogEvent = [] in none);
      present = length-replicate setting.clients new_client;
      dropped = λ s floor has. absurd (in_none (Drop floor) (subst (λ (l : List LogEvent). Contains l (Drop floor)) (empty_log setting.services s) has));
    }

pub run_inv : (l : ChainLaws) (setting : Setting) (events : List Event) (w : WorldView) → IsSetting setting → All IsEvent events → IsRun setting events w → Inv setting w
run_inv l setting events w set fit r = keeps_steps l setting (start_world setting) events w set fit r (start_inv setting)

pub inv_agrees : (l : ChainLaws) (setting : Setting) (w : WorldView) → Inv setting w → Agrees (votes_of_world w) (origin_of setting)
inv_agrees l setting w h = l.agrees (votes_of_world w) (offers_in w) (origin_of setting) (sound setting w h)

pub inv_valid : (setting : Setting) (w : WorldView) → Inv setting w → (k : ℕ) (e : Entry) → IsChosen (votes_of_world w) (origin_of setting) k e → IsValid setting (log_of w) k e
inv_valid setting w h k e c = let o = chosen_offered setting w (voters_behind (origin_of setting) c.members) k e h c.chosen in h.valid k o.0 e o.1

pub inv_next : (setting : Setting) (w : WorldView) → Inv setting w → AllNext (votes_of_world w) (origin_of setting)
inv_next setting w h k e c = (inv_valid setting w h k e c).next

pub inv_stands : (l : ChainLaws) (setting : Setting) (w : WorldView) (chain : List Entry) → Inv setting w → IsChain (votes_of_world w) (origin_of setting) chain
    → (i : ℕ) (e : Entry) → IsChosen (votes_of_world w) (origin_of setting) (i + 1) e → slice_get chain i ≡ Some e
inv_stands l setting w chain h is i e c = l.stands (votes_of_world w) (origin_of setting) chain i e (inv_agrees l setting w h) (inv_next setting w h) is c

pub inv_begins : (l : ChainLaws) (setting : Setting) (w : WorldView) (a b : List Entry) → Inv setting w → IsLinked (votes_of_world w) (origin_of setting) a
    → IsLinked (votes_of_world w) (origin_of setting) b → length a ≤ length b → Begins a b
inv_begins l setting w a b h la lb short = l.begins (votes_of_world w) (origin_of setting) a b (inv_agrees l setting w h) la lb short
