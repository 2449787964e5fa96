-- One condition of an event is the first that fails, and of an event that is carried out none.
use Rattle.std.proofs.Common.{◌≡◌, ℕ, true, false, List, Option, refl, sym, ap, ◌∙◌, subst, arith}
use Rattle.std.proofs.lemmas.Option.{slice_get_within}
use Rattle.ms_base.specs.declared.names.ClientId.{ClientId}
use Rattle.ms_base.specs.declared.names.Name.{Name}
use Rattle.ms_base.specs.declared.names.ServiceId.{ServiceId}
use Rattle.ms_world.specs.declared.client.Bidding.{Bidding}
use Rattle.ms_world.specs.declared.event.Event.{Event}
use Rattle.ms_world.specs.declared.event.Event.TheVariants as events
use Rattle.ms_world.specs.declared.event.Push.{Push}
use Rattle.ms_world.specs.Refusals.{BidFails, IsRefused, LearnFails, MigrateFails, NeedsClient, OfferFails, ReadFails, TurnFails, WantFails}
use Rattle.ms_world.specs.Steps.{CanLearn, FitsNow, HasBid, IsNextPosition, IsNextRound, IsPlacedByPuts, IsUnmigrated, IsUp, OfferStep, PromisesTo, Step, WantIsPlaced, migrated_plan, turn_plan, version_of}
use Rattle.ms_world.specs.Worlds.{ClientView, WorldView}
use Rattle.ms_world.proofs.OneOffer.{offers_same}
use Rattle.ms_world.proofs.Outcomes.{offers_there, one_client, same_bid}
use Rattle.ms_record.specs.declared.entry.Entry.{Entry}
use Rattle.ms_record.specs.declared.refusal.Why.{Why}
use Rattle.ms_record.specs.declared.refusal.Why.TheVariants as whys
use Rattle.ms_record.specs.declared.setting.Setting.{Setting}
use Rattle.ms_record.specs.Plans.{PlanView}

-- ---- what fails of a client that is on

needs_up : (w : WorldView) (client : ℕ) (c : ClientView) (why : Why) (F : ClientView → Type 0) → IsUp w client c → NeedsClient w client why F → F c
needs_up w client c whys.Client F up h = absurd (omega (arith, h, slice_get_within w.clients client c up.is))
needs_up w client c whys.Off F up h = absurd (let q : true ≡ false = sym up.on ∙ ap (λ (x : ClientView). x.on) (one_client w client c h.0 up.is h.1) ∙ h.2 in cc)
needs_up w client c why F up h = subst F (one_client w client h.0 c h.1.is up.is) h.2

one_need : (w : WorldView) (client : ℕ) (x y : Why) (F G : ClientView → Type 0) → ((c : ClientView) → F c → G c → x ≡ y) → NeedsClient w client x F → NeedsClient w client y G → x ≡ y
one_need w client whys.Client whys.Client F G both h k = refl
one_need w client whys.Off whys.Off F G both h k = refl
one_need w client whys.Client whys.Off F G both h k = absurd (omega (arith, h, slice_get_within w.clients client k.0 k.1))
one_need w client whys.Off whys.Client F G both h k = absurd (omega (arith, k, slice_get_within w.clients client h.0 h.1))
one_need w client whys.Client y F G both h k = absurd (omega (arith, h, slice_get_within w.clients client k.0 k.1.is))
one_need w client whys.Off y F G both h k = absurd (let q : false ≡ true = sym h.2 ∙ ap (λ (x : ClientView). x.on) (one_client w client h.0 k.0 h.1 k.1.is) ∙ k.1.on in cc)
one_need w client x y F G both h k = both h.0 h.2 (needs_up w client h.0 y G h.1 k)

bid_may : (c : ClientView) (round : ℕ) (why : Why) (F : Type 0) → IsNextPosition c → IsNextRound c round → BidFails round why F c → F
bid_may c round whys.Position F position above h = absurd (h position)
bid_may c round whys.Round F position above h = absurd (h.1 above)
bid_may c round why F position above h = h.2

one_bid : (c : ClientView) (round : ℕ) (x y : Why) (F G : Type 0) → (F → G → x ≡ y) → BidFails round x F c → BidFails round y G c → x ≡ y
one_bid c round whys.Position whys.Position F G both h k = refl
one_bid c round whys.Round whys.Round F G both h k = refl
one_bid c round whys.Position y F G both h k = absurd (h k.0)
one_bid c round whys.Round whys.Position F G both h k = absurd (k h.0)
one_bid c round whys.Round y F G both h k = absurd (h.1 k.1)
one_bid c round x y F G both h k = both h.2 (bid_may c round y G h.0 h.1 k)

module _ (setting : Setting) (w : WorldView) where
  one_want : (want : Option Push) (c : ClientView) (x y : Why) → WantFails setting w want x c → WantFails setting w want y c → x ≡ y
  one_want want c whys.Placed whys.Placed h k = refl
  one_want want c whys.Placed y h k = absurd k
  one_want want c x y h k = absurd h

  no_want : (want : Option Push) (c : ClientView) (why : Why) → WantIsPlaced setting w c want → WantFails setting w want why c → ⊥
  no_want want c whys.Placed placed h = h placed
  no_want want c why placed h = h

  one_turn : (plan : PlanView) (c : ClientView) (x y : Why) → TurnFails setting w plan x c → TurnFails setting w plan y c → x ≡ y
  one_turn plan c whys.Plan whys.Plan h k = refl
  one_turn plan c whys.Placed whys.Placed h k = refl
  one_turn plan c whys.Plan whys.Placed h k = absurd (h k.0)
  one_turn plan c whys.Placed whys.Plan h k = absurd (k h.0)
  one_turn plan c whys.Plan y h k = absurd k
  one_turn plan c whys.Placed y h k = absurd k
  one_turn plan c x y h k = absurd h

  one_migration : (version : Name) (c : ClientView) (x y : Why) → MigrateFails setting w version x c → MigrateFails setting w version y c → x ≡ y
  one_migration version c whys.Plan whys.Plan h k = refl
  one_migration version c whys.Placed whys.Placed h k = refl
  one_migration version c whys.Plan whys.Placed h k = absurd (h k.0)
  one_migration version c whys.Placed whys.Plan h k = absurd (k h.0)
  one_migration version c whys.Plan y h k = absurd k
  one_migration version c whys.Placed y h k = absurd k
  one_migration version c x y h k = absurd h

  one_reading : (service upto : ℕ) (c : ClientView) (x y : Why) → ReadFails setting w service upto x c → ReadFails setting w service upto y c → x ≡ y
  one_reading service upto c whys.Service whys.Service h k = refl
  one_reading service upto c whys.Prefix whys.Prefix h k = refl
  one_reading service upto c whys.Service whys.Prefix h k = absurd (omega (arith, h, k.0))
  one_reading service upto c whys.Prefix whys.Service h k = absurd (omega (arith, k, h.0))
  one_reading service upto c whys.Service y h k = absurd k
  one_reading service upto c whys.Prefix y h k = absurd k
  one_reading service upto c x y h k = absurd h

  -- a majority of promises of one bid that was found twice
  promises_there : (client : ℕ) (c : ClientView) (bid other : Bidding) → HasBid w client c bid → HasBid w client c other → PromisesTo setting w client c other → PromisesTo setting w client c bid
  promises_there client c bid other h k may = subst (λ (b : Bidding). PromisesTo setting w client c b) (sym (same_bid w client c c bid other h k)) may

  one_offering : (client : ℕ) (c : ClientView) (x y : Why) → OfferFails setting w client x c → OfferFails setting w client y c → x ≡ y
  one_offering client c whys.Bid whys.Bid h k = refl
  one_offering client c whys.Promises whys.Promises h k = refl
  one_offering client c whys.Nothing whys.Nothing h k = refl
  one_offering client c whys.Bid whys.Promises h k = absurd (h k.0 k.1)
  one_offering client c whys.Bid whys.Nothing h k = absurd (h k.0 k.1)
  one_offering client c whys.Promises whys.Bid h k = absurd (k h.0 h.1)
  one_offering client c whys.Nothing whys.Bid h k = absurd (k h.0 h.1)
  one_offering client c whys.Promises whys.Nothing h k = absurd (h.2 (promises_there client c h.0 k.0 h.1 k.1 k.2.0))
  one_offering client c whys.Nothing whys.Promises h k = absurd (k.2 (promises_there client c k.0 h.0 k.1 h.1 h.2.0))
  one_offering client c whys.Bid y h k = absurd k
  one_offering client c whys.Promises y h k = absurd k
  one_offering client c whys.Nothing y h k = absurd k
  one_offering client c x y h k = absurd h

  one_learning : (c : ClientView) (x y : Why) → LearnFails setting w x c → LearnFails setting w y c → x ≡ y
  one_learning c whys.Chosen whys.Chosen h k = refl
  one_learning c whys.Chosen y h k = absurd k
  one_learning c x y h k = absurd h

  no_turn : (plan : PlanView) (c : ClientView) (why : Why) → FitsNow setting c (turn_plan setting c plan) → IsPlacedByPuts w (turn_plan setting c plan) (version_of setting c) → TurnFails setting w plan why c → ⊥
  no_turn plan c whys.Plan fits placed h = h fits
  no_turn plan c whys.Placed fits placed h = h.1 placed
  no_turn plan c why fits placed h = h

  no_migration : (version : Name) (c : ClientView) (why : Why) → IsUnmigrated setting c → IsPlacedByPuts w (migrated_plan setting c) version → MigrateFails setting w version why c → ⊥
  no_migration version c whys.Plan first placed h = h first
  no_migration version c whys.Placed first placed h = h.1 placed
  no_migration version c why first placed h = h

  no_offering : (client : ℕ) (new : WorldView) (why : Why) (s : OfferStep setting w client new) → OfferFails setting w client why s.c → ⊥
  no_offering client new whys.Bid s h = h s.bid s.has
  no_offering client new whys.Promises s h = h.2 (promises_there client s.c h.0 s.bid h.1 s.has s.promises)
  no_offering client new whys.Nothing s h =
      let there = offers_there setting w client s.c s.c h.0 s.bid s.entry h.1 s.has (s.promises, s.offers) in
      h.2.1 s.entry (offers_same there.0 h.2.0 h.0.want s.entry there.1)
  no_offering client new why s h = h

  no_learning : (c : ClientView) (entry : Entry) (why : Why) → CanLearn setting w c entry → LearnFails setting w why c → ⊥
  no_learning c entry whys.Chosen can h = h entry can
  no_learning c entry why can h = h

-- ---- what fails of an event

one_start : (setting : Setting) (w : WorldView) (client : ClientId) (x y : Why) → IsRefused setting w (events.Start client) x → IsRefused setting w (events.Start client) y → x ≡ y
one_start setting w client whys.Client whys.Client h k = refl
one_start setting w client whys.On whys.On h k = refl
one_start setting w client whys.Client whys.On h k = absurd (omega (arith, h, slice_get_within w.clients client.0 k.0 k.1.is))
one_start setting w client whys.On whys.Client h k = absurd (omega (arith, k, slice_get_within w.clients client.0 h.0 h.1.is))
one_start setting w client whys.Client y h k = absurd k
one_start setting w client whys.On y h k = absurd k
one_start setting w client x y h k = absurd h

one_delivery : (setting : Setting) (w : WorldView) (request : ℕ) (x y : Why) → IsRefused setting w (events.Deliver request) x → IsRefused setting w (events.Deliver request) y → x ≡ y
one_delivery setting w request whys.Request whys.Request h k = refl
one_delivery setting w request whys.Request y h k = absurd k
one_delivery setting w request x y h k = absurd h

one_put : (setting : Setting) (w : WorldView) (service : ServiceId) (generation : ℕ) (text : List ℕ) (x y : Why)
    → IsRefused setting w (events.Place service generation text) x → IsRefused setting w (events.Place service generation text) y → x ≡ y
one_put setting w service generation text whys.Service whys.Service h k = refl
one_put setting w service generation text whys.Generation whys.Generation h k = refl
one_put setting w service generation text whys.Service whys.Generation h k = absurd (omega (arith, h, k.0))
one_put setting w service generation text whys.Generation whys.Service h k = absurd (omega (arith, k, h.0))
one_put setting w service generation text whys.Service y h k = absurd k
one_put setting w service generation text whys.Generation y h k = absurd k
one_put setting w service generation text x y h k = absurd h

one_drop : (setting : Setting) (w : WorldView) (service : ServiceId) (floor : ℕ) (x y : Why) → IsRefused setting w (events.DropBelow service floor) x → IsRefused setting w (events.DropBelow service floor) y → x ≡ y
one_drop setting w service floor whys.Service whys.Service h k = refl
one_drop setting w service floor whys.Turned whys.Turned h k = refl
one_drop setting w service floor whys.Service whys.Turned h k = absurd (omega (arith, h, k.0))
one_drop setting w service floor whys.Turned whys.Service h k = absurd (omega (arith, k, h.0))
one_drop setting w service floor whys.Service y h k = absurd k
one_drop setting w service floor whys.Turned y h k = absurd k
one_drop setting w service floor x y h k = absurd h

pub one_refusal : (setting : Setting) (w : WorldView) (event : Event) (x y : Why) → IsRefused setting w event x → IsRefused setting w event y → x ≡ y
one_refusal setting w (events.Start client) x y h k = one_start setting w client x y h k
one_refusal setting w (events.Stop client) x y h k = one_need w client.0 x y (λ c. ⊥) (λ c. ⊥) (λ c p q. absurd p) h k
one_refusal setting w (events.Bid client round want) x y h k =
    one_need w client.0 x y (λ c. BidFails round x (WantFails setting w want x c) c) (λ c. BidFails round y (WantFails setting w want y c) c)
    (λ c. one_bid c round x y (WantFails setting w want x c) (WantFails setting w want y c) (one_want setting w want c x y)) h k
one_refusal setting w (events.Turn client round number plan) x y h k =
    one_need w client.0 x y (λ c. BidFails round x (TurnFails setting w plan x c) c) (λ c. BidFails round y (TurnFails setting w plan y c) c)
    (λ c. one_bid c round x y (TurnFails setting w plan x c) (TurnFails setting w plan y c) (one_turn setting w plan c x y)) h k
one_refusal setting w (events.Migrate client round number version) x y h k =
    one_need w client.0 x y (λ c. BidFails round x (MigrateFails setting w version x c) c) (λ c. BidFails round y (MigrateFails setting w version y c) c)
    (λ c. one_bid c round x y (MigrateFails setting w version x c) (MigrateFails setting w version y c) (one_migration setting w version c x y)) h k
one_refusal setting w (events.Deliver request) x y h k = one_delivery setting w request x y h k
one_refusal setting w (events.Read client service upto) x y h k =
    one_need w client.0 x y (λ c. ReadFails setting w service.0 upto x c) (λ c. ReadFails setting w service.0 upto y c) (λ c. one_reading setting w service.0 upto c x y) h k
one_refusal setting w (events.Offer client) x y h k =
    one_need w client.0 x y (λ c. OfferFails setting w client.0 x c) (λ c. OfferFails setting w client.0 y c) (λ c. one_offering setting w client.0 c x y) h k
one_refusal setting w (events.Learn client) x y h k = one_need w client.0 x y (λ c. LearnFails setting w x c) (λ c. LearnFails setting w y c) (λ c. one_learning setting w c x y) h k
one_refusal setting w (events.Place service generation text) x y h k = one_put setting w service generation text x y h k
one_refusal setting w (events.DropBelow service floor) x y h k = one_drop setting w service floor x y h k

-- ---- what is carried out fails of nothing

no_start : (setting : Setting) (w new : WorldView) (client : ClientId) (why : Why) → Step setting w (events.Start client) new → IsRefused setting w (events.Start client) why → ⊥
no_start setting w new client whys.Client s h = omega (arith, h, slice_get_within w.clients client.0 s.c s.is)
no_start setting w new client whys.On s h = let q : true ≡ false = sym h.1.on ∙ ap (λ (x : ClientView). x.on) (one_client w client.0 h.0 s.c h.1.is s.is) ∙ s.off in cc
no_start setting w new client why s h = h

no_delivery : (setting : Setting) (w new : WorldView) (request : ℕ) (why : Why) → Step setting w (events.Deliver request) new → IsRefused setting w (events.Deliver request) why → ⊥
no_delivery setting w new request whys.Request s h = omega (arith, h, slice_get_within w.requests request s.r s.is)
no_delivery setting w new request why s h = h

no_reading : (setting : Setting) (w new : WorldView) (client : ClientId) (service : ServiceId) (upto : ℕ) (why : Why) (s : Step setting w (events.Read client service upto) new)
    → ReadFails setting w service.0 upto why s.c → ⊥
no_reading setting w new client service upto whys.Service s h = omega (arith, h, s.service_is)
no_reading setting w new client service upto whys.Prefix s h = h.1 (s.longer, s.within)
no_reading setting w new client service upto why s h = h

no_put : (setting : Setting) (w new : WorldView) (service : ServiceId) (generation : ℕ) (text : List ℕ) (why : Why)
    → Step setting w (events.Place service generation text) new → IsRefused setting w (events.Place service generation text) why → ⊥
no_put setting w new service generation text whys.Service s h = omega (arith, h, s.service_is)
no_put setting w new service generation text whys.Generation s h = h.1 s.generation_is
no_put setting w new service generation text why s h = h

no_drop : (setting : Setting) (w new : WorldView) (service : ServiceId) (floor : ℕ) (why : Why) → Step setting w (events.DropBelow service floor) new → IsRefused setting w (events.DropBelow service floor) why → ⊥
no_drop setting w new service floor whys.Service s h = omega (arith, h, s.service_is)
no_drop setting w new service floor whys.Turned s h = h.1 s.turned_is
no_drop setting w new service floor why s h = h

pub no_refusal : (setting : Setting) (w new : WorldView) (event : Event) (why : Why) → Step setting w event new → IsRefused setting w event why → ⊥
no_refusal setting w new (events.Start client) why s h = no_start setting w new client why s h
no_refusal setting w new (events.Stop client) why s h = needs_up w client.0 s.c why (λ c. ⊥) s.up h
no_refusal setting w new (events.Bid client round want) why s h =
    no_want setting w want s.c why s.placed (bid_may s.c round why _ s.can.position s.can.above (needs_up w client.0 s.c why (λ c. BidFails round why (WantFails setting w want why c) c) s.can.up h))
no_refusal setting w new (events.Turn client round number plan) why s h =
    no_turn setting w plan s.c why s.fits s.placed (bid_may s.c round why _ s.can.position s.can.above (needs_up w client.0 s.c why (λ c. BidFails round why (TurnFails setting w plan why c) c) s.can.up h))
no_refusal setting w new (events.Migrate client round number version) why s h =
    no_migration setting w version s.c why s.first s.placed (bid_may s.c round why _ s.can.position s.can.above (needs_up w client.0 s.c why (λ c. BidFails round why (MigrateFails setting w version why c) c) s.can.up h))
no_refusal setting w new (events.Deliver request) why s h = no_delivery setting w new request why s h
no_refusal setting w new (events.Read client service upto) why s h = no_reading setting w new client service upto why s (needs_up w client.0 s.c why (λ c. ReadFails setting w service.0 upto why c) s.up h)
no_refusal setting w new (events.Offer client) why s h = no_offering setting w client.0 new why s (needs_up w client.0 s.c why (λ c. OfferFails setting w client.0 why c) s.has.up h)
no_refusal setting w new (events.Learn client) why s h = no_learning setting w s.c s.entry why s.can (needs_up w client.0 s.c why (λ c. LearnFails setting w why c) s.up h)
no_refusal setting w new (events.Place service generation text) why s h = no_put setting w new service generation text why s h
no_refusal setting w new (events.DropBelow service floor) why s h = no_drop setting w new service floor why s h
