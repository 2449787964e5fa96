-- What the items of a view that tells a setting rest on.
use Rattle.std.proofs.Common.{◌≡◌, ℕ, zero, suc, ◌<◌, ◌==◌, Bool, true, false, cond, List, [], ◌∷◌, ◌++◌, Option, Some, None, inl, inr, refl, sym, ap, ◌∙◌, subst, slice_get, length, Contains, arith}
use Rattle.std.proofs.lemmas.Bool.{cases_lt}
use Rattle.std.proofs.lemmas.Bool.Decides.{nat_tests}
use Rattle.std.proofs.lemmas.Option.{slice_get_within, get_or_from_slice_get}
use Rattle.std.specs.List.{filter_map, cons_option}
use Rattle.ms_base.specs.Places.{same_or_not, append_cases, in_here, in_later, at_contains, contains_at}
use Rattle.ms_core.specs.Views.{View, configuration, owner_of_client, log_in, offers_told, votes_told, SupportsEvent, SupportsOffer, TellsSetting, IsClosed}
use Rattle.ms_ken.specs.Lists.{list_at}
use Rattle.ms_ken.specs.Prefixes.{get_splits}
use Rattle.ms_record.specs.declared.ballot.Ballot.{Ballot}
use Rattle.ms_record.specs.declared.entry.Entry.{Entry}
use Rattle.ms_record.specs.declared.item.Item.{Item}
use Rattle.ms_record.specs.declared.item.Item.TheVariants.{Log, Offer, Told, Untold}
use Rattle.ms_record.specs.declared.log.ListId.{ListId}
use Rattle.ms_record.specs.declared.log.LogEvent.{LogEvent}
use Rattle.ms_record.specs.declared.log.LogEvent.TheVariants.{Rec, Put, Drop}
use Rattle.ms_record.specs.declared.record.Record.{Record}
use Rattle.ms_record.specs.declared.record.Record.TheVariants.{Accept}
use Rattle.ms_record.specs.declared.setting.Setting.{Setting}
use Rattle.ms_record.specs.Items.{event_in, offer_in, offers_of_items}
use Rattle.ms_record.specs.Logs.{texts_in}
use Rattle.ms_record.specs.Offers.{IsOffered, IsSound}
use Rattle.ms_record.specs.Reading.{record_at, votes_of, with_record}
use Rattle.ms_record.specs.Settings.{origin_of}

-- ---- places of filtered lists

module _ {X Y : Type 0} (f : X → Option Y) where
  -- an item of the list, from which this one comes
  From : List X → Y → Type 0
  From xs y = (j : ℕ) × (x : X) × (slice_get xs j ≡ Some x) × (f x ≡ Some y)

  from_step : (x : X) (xs : List X) (y : Y) (o : Option Y) → f x ≡ o → ((i : ℕ) → slice_get (filter_map f xs) i ≡ Some y → From xs y)
      → (i : ℕ) → slice_get (cons_option o (filter_map f xs)) i ≡ Some y → From (x ∷ xs) y
  unfolding From
  from_step x xs y None e rest i h = let r = rest i h in (suc r.0, r.1, r.2, r.3)
  from_step x xs y (Some v) e rest zero h = (zero, x, refl, e ∙ h)
  from_step x xs y (Some v) e rest (suc i) h = let r = rest i h in (suc r.0, r.1, r.2, r.3)

  pub from_item : (xs : List X) (i : ℕ) (y : Y) → slice_get (filter_map f xs) i ≡ Some y → (j : ℕ) × (x : X) × (slice_get xs j ≡ Some x) × (f x ≡ Some y)
  unfolding From
  from_item [] i y h = absurd (let q : None ≡ Some y = h in cc)
  from_item (x ∷ xs) i y h = from_step x xs y (f x) refl (λ i h. from_item xs i y h) i h

  into_step : (o : Option Y) (ys : List Y) (y : Y) → (j : ℕ) × (slice_get ys j ≡ Some y) → (j : ℕ) × (slice_get (cons_option o ys) j ≡ Some y)
  into_step None ys y h = h
  into_step (Some v) ys y h = (suc h.0, h.1)

  -- what comes from an item of the list
  pub into_item : (xs : List X) (i : ℕ) (x : X) (y : Y) → slice_get xs i ≡ Some x → f x ≡ Some y → (j : ℕ) × (slice_get (filter_map f xs) j ≡ Some y)
  into_item [] i x y at is = absurd (let q : None ≡ Some x = at in cc)
  into_item (first ∷ xs) zero x y at is =
      let same : first ≡ x = (let q : Some first ≡ Some x = at in cc) in
      (zero, ap (λ (o : Option Y). slice_get (cons_option o (filter_map f xs)) zero) (ap f same ∙ is))
  into_item (first ∷ xs) (suc i) x y at is = into_step (f first) (filter_map f xs) y (into_item xs i x y at is)

is_offer : (x : Item) (r : Record) → offer_in x ≡ Some r → x ≡ Offer r
is_offer (Log event) r h = absurd (let q : None ≡ Some r = h in cc)
is_offer (Offer q) r h = (let e : q ≡ r = cc in ap (λ (z : Record). Offer z) e)
is_offer (Told s) r h = absurd (let q : None ≡ Some r = h in cc)
is_offer Untold r h = absurd (let q : None ≡ Some r = h in cc)

is_log : (x : Item) (event : LogEvent) → event_in x ≡ Some event → x ≡ Log event
is_log (Log q) event h = (let e : q ≡ event = cc in ap (λ (z : LogEvent). Log z) e)
is_log (Offer q) event h = absurd (let q : None ≡ Some event = h in cc)
is_log (Told s) event h = absurd (let q : None ≡ Some event = h in cc)
is_log Untold event h = absurd (let q : None ≡ Some event = h in cc)

pub offer_contained : (items : List Item) (i : ℕ) (r : Record) → slice_get items i ≡ Some (Offer r) → Contains (offers_of_items items) r
offer_contained [] i r h = absurd (let q : None ≡ Some (Offer r) = h in cc)
offer_contained (Offer q ∷ items) zero r h = let same : q ≡ r = cc in subst (λ (x : Record). Contains (x ∷ offers_of_items items) r) (sym same) (in_here r (offers_of_items items))
offer_contained (Offer q ∷ items) (suc i) r h = in_later q (offers_of_items items) r (offer_contained items i r h)
offer_contained (Log event ∷ items) zero r h = absurd (let q : Some (Log event) ≡ Some (Offer r) = h in cc)
offer_contained (Log event ∷ items) (suc i) r h = offer_contained items i r h
offer_contained (Told s ∷ items) zero r h = absurd (let q : Some (Told s) ≡ Some (Offer r) = h in cc)
offer_contained (Told s ∷ items) (suc i) r h = offer_contained items i r h
offer_contained (Untold ∷ items) zero r h = absurd (let q : Some Untold ≡ Some (Offer r) = h in cc)
offer_contained (Untold ∷ items) (suc i) r h = offer_contained items i r h

-- ---- where a vote comes from

FromText : List (List ℕ) → Record → Type 0
FromText texts r = (j : ℕ) × (text : List ℕ) × (slice_get texts j ≡ Some text) × (record_at text ≡ Some r)

text_step : (text : List ℕ) (texts : List (List ℕ)) (r : Record) (o : Option Record) → record_at text ≡ o → ((i : ℕ) → slice_get (votes_of texts) i ≡ Some r → FromText texts r)
    → (i : ℕ) → slice_get (with_record o (votes_of texts)) i ≡ Some r → FromText (text ∷ texts) r
unfolding FromText
text_step text texts r None e rest i h = let t = rest i h in (suc t.0, t.1, t.2, t.3)
text_step text texts r (Some v) e rest zero h = (zero, text, refl, e ∙ h)
text_step text texts r (Some v) e rest (suc i) h = let t = rest i h in (suc t.0, t.1, t.2, t.3)

text_of : (texts : List (List ℕ)) (i : ℕ) (r : Record) → slice_get (votes_of texts) i ≡ Some r → FromText texts r
unfolding FromText
text_of [] i r h = absurd (let q : None ≡ Some r = h in cc)
text_of (text ∷ texts) i r h = text_step text texts r (record_at text) refl (λ i h. text_of texts i r h) i h

FromEvent : ℕ → List LogEvent → List ℕ → Type 0
FromEvent number log text = (i : ℕ) × (list : ListId) × (slice_get log i ≡ Some (Rec list text)) × (list.0 ≡ number)

event_step : (number : ℕ) (list : ListId) (first : List ℕ) (log : List LogEvent) (text : List ℕ) (t : Bool) → (list.0 == number) ≡ t
    → ((j : ℕ) → slice_get (texts_in number log) j ≡ Some text → FromEvent number log text)
    → (j : ℕ) → slice_get (cond t (first ∷ texts_in number log) (texts_in number log)) j ≡ Some text → FromEvent number (Rec list first ∷ log) text
unfolding FromEvent
event_step number list first log text false e rest j h = let r = rest j h in (suc r.0, r.1, r.2, r.3)
event_step number list first log text true e rest zero h =
    let same : first ≡ text = (let q : Some first ≡ Some text = h in cc) in
    let number_is : list.0 ≡ number = grind (arith, nat_tests) in
    (zero, list, ap (λ (x : List ℕ). Some (Rec list x)) same, number_is)
event_step number list first log text true e rest (suc j) h = let r = rest j h in (suc r.0, r.1, r.2, r.3)

event_of : (number : ℕ) (log : List LogEvent) (j : ℕ) (text : List ℕ) → slice_get (texts_in number log) j ≡ Some text → FromEvent number log text
unfolding FromEvent
event_of number [] j text h = absurd (let q : None ≡ Some text = h in cc)
event_of number (Rec list first ∷ log) j text h = event_step number list first log text (list.0 == number) refl (λ j h. event_of number log j text h) j h
event_of number (Put generation name first ∷ log) j text h = let r = event_of number log j text h in (suc r.0, r.1, r.2, r.3)
event_of number (Drop floor ∷ log) j text h = let r = event_of number log j text h in (suc r.0, r.1, r.2, r.3)

-- ---- views that tell a setting

told_item : (setting : Setting) (place : ℕ) (x : Item) → slice_get (Told setting ∷ []) place ≡ Some x → Told setting ≡ x
told_item setting zero x h = cc
told_item setting (suc n) x h = absurd (let q : None ≡ Some x = h in cc)

pub tells : (view : View) (setting : Setting) → IsClosed view → list_at view configuration ≡ Told setting ∷ [] → TellsSetting view setting
tells view setting (inl none) told = absurd (let q : [] ≡ Told setting ∷ [] = sym (none configuration) ∙ told in cc)
tells view setting (inr (inl untold)) told = absurd (let q : Untold ∷ [] ≡ Told setting ∷ [] = sym untold ∙ told in cc)
tells view setting (inr (inr h)) told =
    let q : Told h.0 ∷ [] ≡ Told setting ∷ [] = sym h.1.alone ∙ told in
    let same : h.0 ≡ setting = cc in
    subst (λ (s : Setting). TellsSetting view s) same h.1

-- an event of a log is supported, and its owner is a service
pub log_event : (view : View) (setting : Setting) → TellsSetting view setting → (s i : ℕ) (event : LogEvent) → slice_get (list_at view s) i ≡ Some (Log event) → (s < setting.services) × SupportsEvent setting (log_in view) (offers_told view) event
log_event view setting h s i event at =
    elim (same_or_not s configuration) [
      | inl same ↦ absurd (let w : Told setting ≡ Log event = told_item setting i (Log event) (ap (λ (l : List Item). slice_get l i) (sym (ap (list_at view) same ∙ h.alone)) ∙ at) in cc)
      | inr other ↦ (let p = get_splits (list_at view s) i (Log event) at in
          elim (h.supported s p.0 (Log event) p.1 other p.3) [ inl k ↦ (k.0, k.1) | inr k ↦ absurd k.3 ])
    ]

pub in_log : (view : View) (s : ℕ) (i : ℕ) (event : LogEvent) → slice_get (log_in view s) i ≡ Some event → (j : ℕ) × (slice_get (list_at view s) j ≡ Some (Log event))
in_log view s i event h = let p = from_item event_in (list_at view s) i event h in (p.0, p.2 ∙ ap (λ (x : Item). Some x) (is_log p.1 event p.3))

pub log_supported : (view : View) (setting : Setting) → TellsSetting view setting → (s : ℕ) (event : LogEvent) → Contains (log_in view s) event → (s < setting.services) × SupportsEvent setting (log_in view) (offers_told view) event
log_supported view setting h s event has =
    let i = contains_at (log_in view s) event has in
    let j = in_log view s i.0 event i.1 in
    log_event view setting h s j.0 event j.1

-- no vote is invented
pub vote_offered : (view : View) (setting : Setting) → TellsSetting view setting → (s place k : ℕ) (b : Ballot) (e : Entry) → slice_get (votes_told view s) place ≡ Some (Accept k b e) → IsOffered (offers_told view) k b e
unfolding FromText FromEvent
vote_offered view setting h s place k b e at =
    let t = text_of (texts_in 0 (log_in view s)) place (Accept k b e) at in
    let v = event_of 0 (log_in view s) t.0 t.1 t.2 in
    let j = in_log view s v.0 (Rec v.1 t.1) v.2 in
    (log_event view setting h s j.0 (Rec v.1 t.1) j.1).1 v.3 k b e t.3

-- an offer, and what supports it behind the items before it
pub record IsBackedOffer (setting : Setting) (view : View) (k : ℕ) (b : Ballot) (e : Entry) (place : ℕ) : Type 0 where
  pub stands : slice_get (list_at view (owner_of_client b.client.0)) place ≡ Some (Offer (Accept k b e))
  pub before : List Item
  pub after : List Item
  pub many : length before ≡ place
  pub splits : before ++ Offer (Accept k b e) ∷ after ≡ list_at view (owner_of_client b.client.0)
  pub client : b.client.0 < setting.clients
  pub supports : SupportsOffer setting (log_in view) b.client.0 (offers_of_items before) k b e

pub offer_at : (view : View) (setting : Setting) → TellsSetting view setting → (client place k : ℕ) (b : Ballot) (e : Entry) → slice_get (list_at view (owner_of_client client)) place ≡ Some (Offer (Accept k b e))
    → (before : List Item) × (after : List Item) × (length before ≡ place) × (before ++ Offer (Accept k b e) ∷ after ≡ list_at view (owner_of_client client)) × (client < setting.clients) × SupportsOffer setting (log_in view) client (offers_of_items before) k b e
offer_at view setting h client place k b e at =
    elim (same_or_not (owner_of_client client) configuration) [
      | inl same ↦ absurd (let w : Told setting ≡ Offer (Accept k b e) = told_item setting place (Offer (Accept k b e)) (ap (λ (l : List Item). slice_get l place) (sym (ap (list_at view) same ∙ h.alone)) ∙ at) in cc)
      | inr other ↦ (let p = get_splits (list_at view (owner_of_client client)) place (Offer (Accept k b e)) at in
          elim (h.supported (owner_of_client client) p.0 (Offer (Accept k b e)) p.1 other p.3) [
            | inl s ↦ absurd s.1
            | inr c ↦ (let same : c.0 ≡ client = omega (arith, c.1) in
                (p.0, p.1, p.2, p.3, subst (λ (n : ℕ). n < setting.clients) same c.2, subst (λ (n : ℕ). SupportsOffer setting (log_in view) n (offers_of_items p.0) k b e) same c.3))
          ])
    ]

pub offered : (view : View) (setting : Setting) → TellsSetting view setting → (k : ℕ) (b : Ballot) (e : Entry) → IsOffered (offers_told view) k b e → (place : ℕ) × IsBackedOffer setting view k b e place
offered view setting h k b e o =
    let client = b.client.0 in
    let t = from_item offer_in (list_at view (owner_of_client client)) o.0 (Accept k b e) o.1 in
    let at : slice_get (list_at view (owner_of_client client)) t.0 ≡ Some (Offer (Accept k b e)) = t.2 ∙ ap (λ (x : Item). Some x) (is_offer t.1 (Accept k b e) t.3) in
    let p = offer_at view setting h client t.0 k b e at in
    (t.0, record { stands = at; before = p.0; after = p.1; many = p.2; splits = p.3; client = p.4; supports = p.5 })

-- of two offers of one ballot none stands before the other
not_before : (setting : Setting) (view : View) (k : ℕ) (b : Ballot) (e f : Entry) (i j : ℕ) → IsBackedOffer setting view k b e i → IsBackedOffer setting view k b f j → i < j → ⊥
not_before setting view k b e f i j one other less =
    let in_whole : slice_get (other.before ++ Offer (Accept k b f) ∷ other.after) i ≡ Some (Offer (Accept k b e)) = ap (λ (l : List Item). slice_get l i) other.splits ∙ one.stands in
    elim (append_cases other.before (Offer (Accept k b f) ∷ other.after) i (Offer (Accept k b e)) in_whole) [
      | inl there ↦ omega (arith, other.supports.declared.later k b e (offer_contained other.before i (Accept k b e) there))
      | inr past ↦ omega (arith, past.1, other.many, less)
    ]

pub one_offer : (setting : Setting) (view : View) → TellsSetting view setting → (k : ℕ) (b : Ballot) (e f : Entry) → IsOffered (offers_told view) k b e → IsOffered (offers_told view) k b f → e ≡ f
one_offer setting view h k b e f x y =
    let p = offered view setting h k b e x in
    let q = offered view setting h k b f y in
    elim (cases_lt p.0 q.0) [
      | inl l ↦ absurd (not_before setting view k b e f p.0 q.0 p.1 q.1 l)
      | inr m ↦ elim (cases_lt q.0 p.0) [
        | inl l ↦ absurd (not_before setting view k b f e q.0 p.0 q.1 p.1 l)
        | inr n ↦ (let same : p.0 ≡ q.0 = omega arith in
            let w : Some (Offer (Accept k b e)) ≡ Some (Offer (Accept k b f)) = sym p.1.stands ∙ ap (slice_get (list_at view (owner_of_client b.client.0))) same ∙ q.1.stands in cc)
      ]
    ]

pub told_sound : (setting : Setting) (view : View) → TellsSetting view setting → IsSound (votes_told view) (offers_told view) (origin_of setting)
told_sound setting view h = record {
  one_offer = λ k b e f x y. one_offer setting view h k b e f x y;
  taken_offered = λ s place k b e t. vote_offered view setting h s place k b e t.stands;
  justified = λ k b e o. (offered view setting h k b e o).1.supports.declared.justified;
}
