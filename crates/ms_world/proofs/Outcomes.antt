-- An event that is carried out leads to one world.
use Rattle.std.proofs.Common.{◌≡◌, ℕ, true, false, [], ◌∷◌, ◌++◌, Some, None, sym, ap, ◌∙◌, subst, slice_get, slice_set, replicate}
use Rattle.ms_base.specs.Places.{some_same}
use Rattle.ms_world.specs.declared.client.Bidding.{Bidding}
use Rattle.ms_world.specs.declared.event.Event.{Event}
use Rattle.ms_world.specs.declared.event.Event.TheVariants as events
use Rattle.ms_world.specs.States.{KnowsOne}
use Rattle.ms_world.specs.Steps.{CanLearn, DeliverStep, HasBid, LearnStep, OfferStep, Offers, PromisesTo, Step, bid_made, migrated, offer_made, pushed, turned, vote_list}
use Rattle.ms_world.specs.Worlds.{ClientView, RequestView, WorldView, changed, logged}
use Rattle.ms_world.proofs.OneOffer.{offers_same, one_offer}
use Rattle.ms_record.specs.declared.entry.Entry.{Entry}
use Rattle.ms_record.specs.declared.log.LogEvent.TheVariants.{Rec}
use Rattle.ms_record.specs.declared.setting.Setting.{Setting}
use Rattle.ms_record.specs.Records.{record_text}

-- ---- one client, one bid, one offer

pub one_client : (w : WorldView) (client : ℕ) (c d : ClientView) → slice_get w.clients client ≡ Some c → slice_get w.clients client ≡ Some d → c ≡ d
one_client w client c d x y = some_same c d (sym x ∙ y)

-- the bid of one client that was found twice
pub same_bid : (w : WorldView) (client : ℕ) (c d : ClientView) (bid other : Bidding) → HasBid w client c bid → HasBid w client d other → bid ≡ other
same_bid w client c d bid other h k = some_same bid other (sym h.has ∙ ap (λ (x : ClientView). x.bid) (one_client w client c d h.up.is k.up.is) ∙ k.has)

abbrev pub MayOfferWith : Setting → WorldView → ℕ → ClientView → Bidding → Entry → Type 0
MayOfferWith setting w client c bid entry = (promises : PromisesTo setting w client c bid) × Offers promises bid.want entry

-- what may be offered for one bid that was found twice
pub offers_there : (setting : Setting) (w : WorldView) (client : ℕ) (c d : ClientView) (bid other : Bidding) (entry : Entry) → HasBid w client c bid → HasBid w client d other
    → MayOfferWith setting w client d other entry → MayOfferWith setting w client c bid entry
offers_there setting w client c d bid other entry h k may =
    subst (λ (b : Bidding). MayOfferWith setting w client c b entry) (sym (same_bid w client c d bid other h k))
    (subst (λ (x : ClientView). MayOfferWith setting w client x other entry) (one_client w client d c k.up.is h.up.is) may)

-- ---- one world

abbrev starts : Setting → WorldView → ℕ → ClientView → WorldView
starts setting w client c = changed w client (record { on = true; kept = c.kept; offers = c.offers; known = replicate setting.services 0; chain = []; bid = None }) []

one_offered : (setting : Setting) (w : WorldView) (client : ℕ) (a b : WorldView) → OfferStep setting w client a → OfferStep setting w client b → a ≡ b
one_offered setting w client a b s t =
    let clients : s.c ≡ t.c = one_client w client s.c t.c s.has.up.is t.has.up.is in
    let bids : s.bid ≡ t.bid = same_bid w client s.c t.c s.bid t.bid s.has t.has in
    let there = offers_there setting w client s.c t.c s.bid t.bid t.entry s.has t.has (t.promises, t.offers) in
    let entries : s.entry ≡ t.entry = one_offer s.promises s.bid.want s.entry t.entry s.offers (offers_same there.0 s.promises s.bid.want t.entry there.1) in
    s.becomes ∙ ap (λ (e : Entry). offer_made setting w client s.c s.bid e) entries ∙ ap (λ (bid : Bidding). offer_made setting w client s.c bid t.entry) bids
    ∙ ap (λ (c : ClientView). offer_made setting w client c t.bid t.entry) clients ∙ sym t.becomes

abbrev learns : WorldView → ℕ → ClientView → Entry → WorldView
learns w client c entry = changed w client (record c { chain = c.chain ++ entry ∷ []; bid = None }) []

one_learnt : (setting : Setting) (w : WorldView) (client : ℕ) (a b : WorldView) → KnowsOne setting w → LearnStep setting w client a → LearnStep setting w client b → a ≡ b
one_learnt setting w client a b one s t =
    let clients : t.c ≡ s.c = one_client w client t.c s.c t.up.is s.up.is in
    let can = subst (λ (c : ClientView). CanLearn setting w c t.entry) clients t.can in
    let entries : s.entry ≡ t.entry = one client s.c s.up.is s.entry t.entry s.can.chosen can.chosen in
    s.becomes ∙ ap (λ (e : Entry). learns w client s.c e) entries ∙ ap (λ (c : ClientView). learns w client c t.entry) (sym clients) ∙ sym t.becomes

delivers : (w : WorldView) (request : ℕ) (a b : WorldView) → DeliverStep w request a → DeliverStep w request b → a ≡ b
delivers w request a b s t =
    let one : s.r ≡ t.r = some_same s.r t.r (sym s.is ∙ t.is) in
    s.becomes ∙ ap (λ (r : RequestView). logged w r.service (Rec vote_list (record_text r.message))) one ∙ sym t.becomes

pub one_world : (setting : Setting) (w : WorldView) (event : Event) (a b : WorldView) → KnowsOne setting w → Step setting w event a → Step setting w event b → a ≡ b
one_world setting w (events.Start client) a b one s t = s.becomes ∙ ap (λ (c : ClientView). starts setting w client.0 c) (one_client w client.0 s.c t.c s.is t.is) ∙ sym t.becomes
one_world setting w (events.Stop client) a b one s t = s.becomes ∙ ap (λ (c : ClientView). changed w client.0 (record c { on = false }) []) (one_client w client.0 s.c t.c s.up.is t.up.is) ∙ sym t.becomes
one_world setting w (events.Bid client round want) a b one s t =
    s.becomes ∙ ap (λ (c : ClientView). bid_made setting w client.0 c round (pushed setting c client.0 want)) (one_client w client.0 s.c t.c s.can.up.is t.can.up.is) ∙ sym t.becomes
one_world setting w (events.Turn client round number plan) a b one s t =
    s.becomes ∙ ap (λ (c : ClientView). bid_made setting w client.0 c round (Some (turned setting c client.0 number plan))) (one_client w client.0 s.c t.c s.can.up.is t.can.up.is) ∙ sym t.becomes
one_world setting w (events.Migrate client round number version) a b one s t =
    s.becomes ∙ ap (λ (c : ClientView). bid_made setting w client.0 c round (Some (migrated setting c client.0 number version))) (one_client w client.0 s.c t.c s.can.up.is t.can.up.is) ∙ sym t.becomes
one_world setting w (events.Deliver request) a b one s t = delivers w request a b s t
one_world setting w (events.Read client service upto) a b one s t =
    s.becomes ∙ ap (λ (c : ClientView). changed w client.0 (record c { known = slice_set c.known service.0 upto }) []) (one_client w client.0 s.c t.c s.up.is t.up.is) ∙ sym t.becomes
one_world setting w (events.Offer client) a b one s t = one_offered setting w client.0 a b s t
one_world setting w (events.Learn client) a b one s t = one_learnt setting w client.0 a b one s t
one_world setting w (events.Place service generation text) a b one s t = s.becomes ∙ sym t.becomes
one_world setting w (events.DropBelow service floor) a b one s t = s.becomes ∙ sym t.becomes
