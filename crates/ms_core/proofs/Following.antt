-- Which items may follow what is known.
use Rattle.std.proofs.Common.{◌≡◌, ◌≢◌, ℕ, zero, suc, ◌<◌, ◌≤◌, List, [], ◌∷◌, ◌++◌, Some, ◌⊎◌, inl, inr, ⊎_elim, refl, sym, ap, ◌∙◌, subst, slice_get, length, replicate, arith}
use Rattle.std.proofs.lemmas.List.{append-nil, length-replicate}
use Rattle.std.proofs.lemmas.List.Elements.{filter_map-append}
use Rattle.std.specs.List.{filter_map}
use mathlib.Core.List.{IsPrefix}
use Rattle.ms_base.specs.Places.{same_or_not}
use Rattle.ms_core.proofs.Telling.{tells}
use Rattle.ms_core.specs.Closing.{support_stays}
use Rattle.ms_core.specs.Asking.{MayAsk, MayOffer}
use Rattle.ms_core.specs.Valid.{IsBacked}
use Rattle.std.proofs.lemmas.Bool.{cases_lt}
use Rattle.ms_core.specs.Views.{View, configuration, owner_of_client, log_in, offers_told, votes_told, SupportsEvent, SupportsOffer, IsSupported, TellsSetting, IsClosed}
use Rattle.ms_ken.specs.Lists.{list_at, Begins, with_item, MayFollow}
use Rattle.ms_ken.specs.Prefixes.{prefix_length}
use Rattle.ms_ken.specs.Rows.{begins_item, item_here, item_else, list_at-replicate}
use Rattle.ms_ken.specs.Supports.{snoc_cases}
use Rattle.ms_record.specs.declared.ballot.Ballot.{Ballot}
use Rattle.ms_record.specs.declared.entry.Entry.{Entry}
use Rattle.ms_record.specs.declared.item.Item.{Item}
use Rattle.ms_record.specs.declared.item.Item.TheVariants.{Log, Offer, Told, Untold}
use Rattle.ms_record.specs.declared.log.LogEvent.{LogEvent}
use Rattle.ms_record.specs.declared.log.LogEvent.TheVariants.{Rec, Put, Drop}
use Rattle.ms_record.specs.declared.record.Record.{Record}
use Rattle.ms_record.specs.declared.record.Record.TheVariants.{Accept}
use Rattle.ms_record.specs.declared.setting.Setting.{Setting}
use Rattle.ms_record.specs.Growing.{votes_append, linked_grows}
use Rattle.ms_record.specs.Items.{event_in, offer_in}
use Rattle.ms_record.specs.Logs.{votes_in}
use Rattle.ms_record.specs.Offers.{GrowsTo}
use Rattle.ms_record.specs.Settings.{IsSetting, origin_of}

-- ---- one item more, which is supported

pub tells_item : (setting : Setting) (view : View) (owner : ℕ) (item : Item) → owner < length view → owner ≢ configuration → TellsSetting view setting
    → IsSupported setting view owner (list_at view owner) item → TellsSetting (with_item view owner item) setting
tells_item setting view owner item lt other h new = record {
  alone = item_else view owner item configuration (λ e. other (sym e)) ∙ h.alone;
  ranges = h.ranges;
  supported = λ k before x after apart is.
      let more = with_item view owner item in
      let old : (i : ℕ) (rest : List Item) → i ≢ configuration → before ++ x ∷ rest ≡ list_at view i → IsSupported setting more i before x =
      λ i rest ne e. support_stays setting view more (begins_item view owner item) i before x (h.supported i before x rest ne e) in
      elim (same_or_not k owner) [
        | inl same ↦ subst (λ i. IsSupported setting more i before x) (sym same)
            (⊎_elim
            (λ (p : (rest : List Item) × (before ++ x ∷ rest ≡ list_at view owner)). old owner p.0 other p.1)
            (λ (p : (before ≡ list_at view owner) × (x ≡ item)). subst (λ (q : List Item × Item). IsSupported setting more owner q.0 q.1) (λ i. (sym p.0 i, sym p.1 i)) (support_stays setting view more (begins_item view owner item) owner (list_at view owner) item new))
            (snoc_cases before after (list_at view owner) x item (is ∙ (ap (list_at more) same ∙ item_here view owner item lt))))
        | inr ne ↦ old k after apart (is ∙ item_else view owner item k ne)
      ];
}

-- ---- what another view knows of the configuration

alone_same : (a b : Item) → IsPrefix (a ∷ []) (b ∷ []) → a ≡ b
alone_same a b p = let e = p.1 in cc (e)

-- an item that is alone there stays alone
pub alone_later : (view more : View) (item : Item) → list_at view configuration ≡ item ∷ [] → Begins view more → IsClosed more → list_at more configuration ≡ item ∷ []
alone_later view more item alone begins (inl none) =
    absurd (omega (arith, ap (λ (l : List Item). length l) alone, ap (λ (l : List Item). length l) (none configuration), prefix_length (list_at view configuration) (list_at more configuration) (begins configuration)))
alone_later view more item alone begins (inr (inl untold)) =
    let same = alone_same item Untold (subst (λ (q : List Item × List Item). IsPrefix q.0 q.1) (λ i. (alone i, untold i)) (begins configuration)) in
    untold ∙ ap (λ (x : Item). x ∷ []) (sym same)
alone_later view more item alone begins (inr (inr told)) =
    let same = alone_same item (Told told.0) (subst (λ (q : List Item × List Item). IsPrefix q.0 q.1) (λ i. (alone i, told.1.alone i)) (begins configuration)) in
    told.1.alone ∙ ap (λ (x : Item). x ∷ []) (sym same)

-- where nothing is claimed, any item but the configuration's may follow
pub untold_may_follow : (view : View) (owner : ℕ) (item : Item) → list_at view configuration ≡ Untold ∷ [] → owner ≢ configuration → MayFollow IsClosed (length view) view owner item
untold_may_follow view owner item untold other more wide closed begins =
    inr (inl (item_else more owner item configuration (λ e. other (sym e)) ∙ alone_later view more Untold untold begins closed))

-- where a setting is told, an item may follow that is supported behind whatever is known by then
pub told_may_follow : (view : View) (setting : Setting) (owner : ℕ) (item : Item) → list_at view configuration ≡ Told setting ∷ [] → owner < length view → owner ≢ configuration
    → ((more : View) → Begins view more → IsSupported setting more owner (list_at more owner) item) → MayFollow IsClosed (length view) view owner item
told_may_follow view setting owner item told lt other supports more wide closed begins =
    let h = tells more setting closed (alone_later view more (Told setting) told begins closed) in
    inr (inr (setting, tells_item setting more owner item (subst (λ n. owner < n) (sym wide) lt) other h (supports more begins)))

-- an event of a service that the view supports may follow
pub event_may_follow : (view : View) (setting : Setting) (service : ℕ) (event : LogEvent) → list_at view configuration ≡ Told setting ∷ [] → IsSetting setting → service < setting.services → service < length view
    → SupportsEvent setting (log_in view) (offers_told view) event → MayFollow IsClosed (length view) view service (Log event)
event_may_follow view setting service event told set low lt supports =
    told_may_follow view setting service (Log event) told lt (λ e. absurd (omega (arith, set.few_services)))
    (λ more begins. elim (support_stays setting view more begins service [] (Log event) (inl (low, supports))) [ inl s ↦ inl s | inr c ↦ absurd c.3 ])

-- ---- the view with the event at the end is closed

-- an event that is no record leaves the votes as they are
votes_same : (view : View) (service : ℕ) (floor : ℕ) → service < length view → GrowsTo (votes_told (with_item view service (Log (Drop floor)))) (votes_told view)
votes_same view service floor lt s =
    let more = with_item view service (Log (Drop floor)) in
    let same : votes_told more s ≡ votes_told view s = elim (same_or_not s service) [
      | inl here ↦ ap (votes_told more) here
          ∙ ap (λ (l : List Item). votes_in (filter_map event_in l)) (item_here view service (Log (Drop floor)) lt)
          ∙ ap votes_in (filter_map-append event_in (list_at view service) (Log (Drop floor) ∷ []))
          ∙ votes_append (log_in view service) (Drop floor ∷ [])
          ∙ append-nil (votes_told view service)
          ∙ ap (votes_told view) (sym here)
      | inr other ↦ ap (λ (l : List Item). votes_in (filter_map event_in l)) (item_else view service (Log (Drop floor)) s other)
    ] in
    ([], append-nil (votes_told more s) ∙ same)

backed_before : (setting : Setting) (view : View) (service floor : ℕ) → service < length view → IsBacked setting (log_in (with_item view service (Log (Drop floor)))) floor → IsBacked setting (log_in view) floor
backed_before setting view service floor lt (inl low) = inl low
backed_before setting view service floor lt (inr h) =
    inr (h.0, linked_grows (votes_told (with_item view service (Log (Drop floor)))) (votes_told view) (origin_of setting) h.0 (votes_same view service floor lt) h.1, h.2)

offers_before : (view : View) (service client : ℕ) (event : LogEvent) → service < 16 → offers_told (with_item view service (Log event)) client ≡ offers_told view client
offers_before view service client event low =
    let apart : owner_of_client client ≢ service = λ e. absurd (omega (arith, e, low)) in
    ap (λ (l : List Item). filter_map offer_in l) (item_else view service (Log event) (owner_of_client client) apart)

supports_before : (setting : Setting) (view : View) (service : ℕ) (event : LogEvent) → service < 16 → service < length view → SupportsEvent setting (log_in (with_item view service (Log event))) (offers_told (with_item view service (Log event))) event
    → SupportsEvent setting (log_in view) (offers_told view) event
supports_before setting view service (Rec list text) low lt h = λ votes k b e spells.
    subst (λ (l : List Record). (place : ℕ) × (slice_get l place ≡ Some (Accept k b e))) (offers_before view service b.client.0 (Rec list text) low) (h votes k b e spells)
supports_before setting view service (Put generation name text) low lt h = h
supports_before setting view service (Drop floor) low lt h = backed_before setting view service floor lt h

-- an item behind others is alone only where there is none before it
last_alone : (l : List Item) (x y : Item) → l ++ x ∷ [] ≡ y ∷ [] → x ≡ y
last_alone [] x y e = cc (e)
last_alone (z ∷ []) x y e = absurd (cc (e))
last_alone (z ∷ w ∷ l) x y e = absurd (cc (e))

not_empty : (l : List Item) (x : Item) → l ++ x ∷ [] ≡ [] → ⊥
not_empty [] x e = cc (e)
not_empty (z ∷ l) x e = cc (e)

not_untold : (event : LogEvent) → Log event ≡ Untold → ⊥
not_untold event e = cc (e)

not_told : (event : LogEvent) (setting : Setting) → Log event ≡ Told setting → ⊥
not_told event setting e = cc (e)

-- the configuration tells no event of a log
no_configuration : (view : View) (event : LogEvent) → configuration < length view → IsClosed (with_item view configuration (Log event)) → ⊥
no_configuration view event lt (inl none) = not_empty (list_at view configuration) (Log event) (sym (item_here view configuration (Log event) lt) ∙ none configuration)
no_configuration view event lt (inr (inl untold)) = not_untold event (last_alone (list_at view configuration) (Log event) Untold (sym (item_here view configuration (Log event) lt) ∙ untold))
no_configuration view event lt (inr (inr h)) = not_told event h.0 (last_alone (list_at view configuration) (Log event) (Told h.0) (sym (item_here view configuration (Log event) lt) ∙ h.1.alone))

by_case : (view : View) (owner : ℕ) (event : LogEvent) → owner < length view → owner ≢ configuration → IsClosed (with_item view owner (Log event)) → MayFollow IsClosed (length view) view owner (Log event)
by_case view owner event lt other (inl none) = absurd (not_empty (list_at view owner) (Log event) (sym (item_here view owner (Log event) lt) ∙ none owner))
by_case view owner event lt other (inr (inl untold)) =
    untold_may_follow view owner (Log event) (sym (item_else view owner (Log event) configuration (λ e. other (sym e))) ∙ untold) other
by_case view owner event lt other (inr (inr h)) =
    let told : list_at view configuration ≡ Told h.0 ∷ [] = sym (item_else view owner (Log event) configuration (λ e. other (sym e))) ∙ h.1.alone in
    elim (h.1.supported owner (list_at view owner) (Log event) [] other (sym (item_here view owner (Log event) lt))) [
      | inl s ↦ event_may_follow view h.0 owner event told h.1.ranges s.0 lt (supports_before h.0 view owner event (omega (arith, s.0, h.1.ranges.few_services)) lt s.1)
      | inr c ↦ absurd c.3
    ]

-- where the view with an event at the end of an owner's list is closed, the event may follow
pub closed_may_follow : (view : View) (owner : ℕ) (event : LogEvent) → owner < length view → IsClosed (with_item view owner (Log event)) → MayFollow IsClosed (length view) view owner (Log event)
closed_may_follow view owner event lt closed =
    elim (same_or_not owner configuration) [
      | inl same ↦ absurd (no_configuration view event (subst (λ n. n < length view) same lt) (subst (λ n. IsClosed (with_item view n (Log event))) same closed))
      | inr other ↦ by_case view owner event lt other closed
    ]

-- ---- the first items

nothing_before : (before : List Item) (x : Item) (after : List Item) → before ++ x ∷ after ≡ [] → ⊥
nothing_before [] x after e = cc (e)
nothing_before (y ∷ before) x after e = cc (e)

pub told_first : (setting : Setting) (n : ℕ) → IsSetting setting → configuration < n → IsClosed (with_item (replicate n []) configuration (Told setting))
told_first setting n set lt =
    let empty : View = replicate n [] in
    let wide : configuration < length empty = subst (λ m. configuration < m) (sym (length-replicate n (let none : List Item = [] in none))) lt in
    inr (inr (
      setting,
      record {
        alone = item_here empty configuration (Told setting) wide ∙ ap (λ (l : List Item). l ++ Told setting ∷ []) (list_at-replicate n configuration);
        ranges = set;
        supported = λ owner before item after other is. absurd (nothing_before before item after (is ∙ item_else empty configuration (Told setting) owner other ∙ list_at-replicate n owner));
      },
    ))

pub untold_first : (n : ℕ) → configuration < n → IsClosed (with_item (replicate n []) configuration Untold)
untold_first n lt =
    let empty : View = replicate n [] in
    let wide : configuration < length empty = subst (λ m. configuration < m) (sym (length-replicate n (let none : List Item = [] in none))) lt in
    inr (inl (item_here empty configuration Untold wide ∙ ap (λ (l : List Item). l ++ Untold ∷ []) (list_at-replicate n configuration)))

-- an offer that is supported may be told
pub offer_closed : (view : View) (setting : Setting) (client position : ℕ) (ballot : Ballot) (entry : Entry) → IsClosed view → list_at view configuration ≡ Told setting ∷ [] → client < setting.clients
    → owner_of_client client < length view → SupportsOffer setting (log_in view) client (offers_told view client) position ballot entry
    → IsClosed (with_item view (owner_of_client client) (Offer (Accept position ballot entry)))
offer_closed view setting client position ballot entry closed told low lt supports =
    let h = tells view setting closed told in
    inr (inr (setting, tells_item setting view (owner_of_client client) (Offer (Accept position ballot entry)) lt (λ e. absurd (omega (arith, e, low, h.ranges.few_clients))) h (inr (client, refl, low, supports))))

-- ---- one condition for boards that tell a setting and for those that claim nothing

pub may_ask : (view : View) (service : ℕ) (event : LogEvent) → service < length view → MayAsk view service event → MayFollow IsClosed (length view) view service (Log event)
may_ask view service event lt h = by h.closed
  where
    by : IsClosed view → MayFollow IsClosed (length view) view service (Log event)
    by (inl none) = absurd (h.begun (none configuration))
    by (inr (inl untold)) = untold_may_follow view service (Log event) untold (λ e. absurd (omega (arith, e, h.service_is)))
    by (inr (inr told)) =
        let s = h.supported told.0 told.1.alone in
        event_may_follow view told.0 service event told.1.alone told.1.ranges s.0 lt s.1

pub may_offer : (view : View) (client position : ℕ) (ballot : Ballot) (entry : Entry) → owner_of_client client < length view → MayOffer view client position ballot entry
    → IsClosed (with_item view (owner_of_client client) (Offer (Accept position ballot entry)))
may_offer view client position ballot entry lt h = by h.closed
  where
    by : IsClosed view → IsClosed (with_item view (owner_of_client client) (Offer (Accept position ballot entry)))
    by (inl none) = absurd (h.begun (none configuration))
    by (inr (inl untold)) = inr (inl (item_else view (owner_of_client client) (Offer (Accept position ballot entry)) configuration (λ e. absurd (omega (arith, e, h.client_is))) ∙ untold))
    by (inr (inr told)) =
        let s = h.supported told.0 told.1.alone in
        offer_closed view told.0 client position ballot entry h.closed told.1.alone s.0 lt s.1

-- ---- what the configuration tells

pub something_told : (view : View) (owner : ℕ) → IsClosed view → list_at view owner ≢ []
    → (list_at view configuration ≡ Untold ∷ []) ⊎ ((setting : Setting) × (list_at view configuration ≡ Told setting ∷ []) × IsSetting setting)
something_told view owner (inl none) some = absurd (some (none owner))
something_told view owner (inr (inl untold)) some = inl untold
something_told view owner (inr (inr told)) some = inr (told.0, told.1.alone, told.1.ranges)

list_past : (view : View) (owner : ℕ) → length view ≤ owner → list_at view owner ≡ []
list_past [] owner past = refl
list_past (items ∷ view) zero past = absurd (omega (arith, past))
list_past (items ∷ view) (suc owner) past = list_past view owner (omega (arith, past))

wide_of : (view : View) (item : Item) → list_at view configuration ≡ item ∷ [] → configuration < length view
wide_of view item alone =
    elim (cases_lt configuration (length view)) [
      | inl less ↦ less
      | inr past ↦ absurd (let q : item ∷ [] ≡ [] = sym alone ∙ list_past view configuration past in cc (q))
    ]

pub told_wide : (view : View) (owner : ℕ) → IsClosed view → list_at view owner ≢ [] → configuration < length view
told_wide view owner closed some = elim (something_told view owner closed some) [ inl untold ↦ wide_of view Untold untold | inr told ↦ wide_of view (Told told.0) told.1 ]
