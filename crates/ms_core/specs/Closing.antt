-- The laws of closed views: every support stays when lists grow, and of two closed views that agree the longer lists are closed.
use Rattle.std.proofs.Common.{◌≡◌, ℕ, List, [], ◌∷◌, ◌++◌, sym, ap, ◌∙◌, subst, inl, inr, ⊎_elim, length, replicate, arith}
use Rattle.std.specs.List.{filter_map}
use Rattle.std.proofs.lemmas.List.Elements.{filter_map-append}
use mathlib.Core.List.{IsPrefix}
use Rattle.ms_core.specs.Growth.{valid_grows, backed_grows, put_stays}
use Rattle.ms_core.specs.Valid.{judging_plan}
use Rattle.ms_core.specs.Views.{View, configuration, owner_of_client, log_in, offers_told, votes_told, WholeBy, IsWhole, SupportsEvent, SupportsLog, SupportsOwn, IsSupported, TellsSetting, IsClosed}
use Rattle.ms_ken.specs.Lists.{list_at, Begins, Agree, longer, longer_lists}
use Rattle.ms_ken.specs.Prefixes.{longer_by, longer_of_nil, longer_first, prefix_get}
use Rattle.ms_ken.specs.Rows.{list_at-replicate, list_at-longer_lists, agree_first, agree_second, same_lists, length-longer_lists}
use Rattle.ms_base.specs.declared.names.Name.{Name}
use Rattle.ms_record.specs.declared.ballot.Ballot.{Ballot}
use Rattle.ms_record.specs.declared.entry.Entry.{Entry}
use Rattle.ms_record.specs.declared.item.Item.{Item}
use Rattle.ms_record.specs.declared.item.Item.TheVariants.{Log, Offer, Told, Untold}
use Rattle.ms_record.specs.declared.log.LogEvent.{LogEvent}
use Rattle.ms_record.specs.declared.log.LogEvent.TheVariants.{Rec, Put, Drop}
use Rattle.ms_record.specs.declared.record.Record.TheVariants.{Prepare, Accept}
use Rattle.ms_record.specs.declared.setting.Setting.{Setting}
use Rattle.ms_record.specs.Growing.{LogsGrow, votes_grow, is_justified_grows}
use Rattle.ms_record.specs.Items.{event_in, offer_in}
use Rattle.ms_record.specs.Logs.{HasPut}
use Rattle.ms_record.specs.Offers.{IsOffered}
use Rattle.ms_record.specs.Plans.{PlanView}
use Rattle.ms_record.specs.Settings.{origin_of}

-- ---- a support stays when lists grow

pub logs_grow : (xs ys : View) → Begins xs ys → LogsGrow (log_in xs) (log_in ys)
logs_grow xs ys begins s = let p = begins s in (filter_map event_in p.0, sym (filter_map-append event_in (list_at xs s) p.0) ∙ ap (filter_map event_in) p.1)

pub offered_stays : (xs ys : View) → Begins xs ys → (k : ℕ) (b : Ballot) (e : Entry) → IsOffered (offers_told xs) k b e → IsOffered (offers_told ys) k b e
offered_stays xs ys begins k b e h =
    let owner = owner_of_client b.client.0 in
    let p = begins owner in
    let q : IsPrefix (offers_told xs b.client.0) (offers_told ys b.client.0) = (filter_map offer_in p.0, sym (filter_map-append offer_in (list_at xs owner) p.0) ∙ ap (filter_map offer_in) p.1) in
    (h.0, prefix_get (offers_told xs b.client.0) (offers_told ys b.client.0) h.0 (Accept k b e) q h.1)

-- what is whole by some stays whole by more
pub whole_more : (has more : ℕ → Name → Type 0) (plan : PlanView) (version : Name) → ((s : ℕ) (name : Name) → has s name → more s name) → WholeBy has plan version → WholeBy more plan version
whole_more has more plan version goes h = record {
  placed = record {
    store = h.placed.store;
    holds = h.placed.holds;
    put = λ name text there. let e = h.placed.put name text there in record { part = e.part; have = λ s is. goes s name (e.have s is); enough = e.enough };
  };
  files = h.files;
  are = h.are;
}

pub whole_stays : (old new : ℕ → List LogEvent) (plan : PlanView) (version : Name) → LogsGrow old new → IsWhole old plan version → IsWhole new plan version
whole_stays old new plan version grows h =
    whole_more (λ s name. HasPut (old s) plan.generation name) (λ s name. HasPut (new s) plan.generation name) plan version (λ s name there. put_stays old new s plan.generation name grows there) h

event_stays : (setting : Setting) (xs ys : View) → Begins xs ys → (event : LogEvent) → SupportsEvent setting (log_in xs) (offers_told xs) event → SupportsEvent setting (log_in ys) (offers_told ys) event
event_stays setting xs ys begins (Rec list text) h = λ votes k b e spells. offered_stays xs ys begins k b e (h votes k b e spells)
event_stays setting xs ys begins (Put generation name text) h = h
event_stays setting xs ys begins (Drop floor) h = backed_grows setting (log_in xs) (log_in ys) floor (logs_grow xs ys begins) h

log_stays : (setting : Setting) (xs ys : View) → Begins xs ys → (item : Item) → SupportsLog setting xs item → SupportsLog setting ys item
log_stays setting xs ys begins (Log event) h = event_stays setting xs ys begins event h
log_stays setting xs ys begins (Offer offer) h = h
log_stays setting xs ys begins (Told other) h = h
log_stays setting xs ys begins Untold h = h

own_stays : (setting : Setting) (xs ys : View) → Begins xs ys → (client : ℕ) (before : List Item) (item : Item) → SupportsOwn setting xs client before item → SupportsOwn setting ys client before item
unfolding valid_grows
own_stays setting xs ys begins client before (Offer (Accept k b e)) h =
    let grows = logs_grow xs ys begins in
    record {
      declared = record {
        own = h.declared.own;
        later = h.declared.later;
        justified = is_justified_grows (votes_told xs) (votes_told ys) (origin_of setting) k b e (votes_grow (log_in xs) (log_in ys) grows) h.declared.justified;
        valid = valid_grows setting (log_in xs) (log_in ys) k e grows h.declared.valid;
      };
      whole = whole_stays (log_in xs) (log_in ys) (judging_plan setting h.declared.valid.next.members e) e.version grows h.whole;
    }
own_stays setting xs ys begins client before (Offer (Prepare k b)) h = h
own_stays setting xs ys begins client before (Log event) h = h
own_stays setting xs ys begins client before (Told other) h = h
own_stays setting xs ys begins client before Untold h = h

pub support_stays : (setting : Setting) (xs ys : View) → Begins xs ys → (owner : ℕ) (before : List Item) (item : Item) → IsSupported setting xs owner before item → IsSupported setting ys owner before item
support_stays setting xs ys begins owner before item h =
    elim h [
      | inl s ↦ inl (s.0, log_stays setting xs ys begins item s.1)
      | inr c ↦ inr (c.0, c.1, c.2, own_stays setting xs ys begins c.0 before item c.3)
    ]

-- ---- the three cases

empty_first : (xs ys : View) → length xs ≡ length ys → ((owner : ℕ) → list_at xs owner ≡ []) → longer_lists xs ys ≡ ys
empty_first xs ys wide none =
    same_lists (longer_lists xs ys) ys (length-longer_lists xs ys wide ∙ wide)
    (λ k. list_at-longer_lists xs ys k ∙ (ap (λ (l : List Item). longer l (list_at ys k)) (none k) ∙ longer_of_nil (list_at ys k)))

empty_second : (xs ys : View) → length xs ≡ length ys → ((owner : ℕ) → list_at ys owner ≡ []) → longer_lists xs ys ≡ xs
empty_second xs ys wide none =
    same_lists (longer_lists xs ys) xs (length-longer_lists xs ys wide)
    (λ k. list_at-longer_lists xs ys k ∙ (ap (λ (l : List Item). longer (list_at xs k) l) (none k) ∙ longer_first (list_at xs k) [] (omega arith)))

-- the configuration tells one item in both
pub one_item : (xs ys : View) (a b : Item) → Agree xs ys → list_at xs configuration ≡ a ∷ [] → list_at ys configuration ≡ b ∷ [] → a ≡ b
one_item xs ys a b agree x y =
    ⊎_elim
    (λ p. alone a b (subst (λ (q : List Item × List Item). IsPrefix q.0 q.1) (λ i. (x i, y i)) p))
    (λ p. sym (alone b a (subst (λ (q : List Item × List Item). IsPrefix q.0 q.1) (λ i. (y i, x i)) p)))
    (agree configuration)
  where
    alone : (c d : Item) → IsPrefix (c ∷ []) (d ∷ []) → c ≡ d
    alone c d p = cc (p.1)

one_longer : (xs ys : View) (a : Item) → list_at xs configuration ≡ a ∷ [] → list_at ys configuration ≡ a ∷ [] → list_at (longer_lists xs ys) configuration ≡ a ∷ []
one_longer xs ys a x y = list_at-longer_lists xs ys configuration ∙ longer_by (λ l. l ≡ a ∷ []) (list_at xs configuration) (list_at ys configuration) (λ _. x) (λ _. y)

told_apart : (setting : Setting) → Untold ≡ Told setting → ⊥
told_apart setting e = cc e

pub told_same : (one other : Setting) → Told one ≡ Told other → one ≡ other
told_same one other e = cc e

told_of_longer : (setting : Setting) (xs ys : View) → TellsSetting xs setting → TellsSetting ys setting → Agree xs ys → TellsSetting (longer_lists xs ys) setting
told_of_longer setting xs ys p q agree = record {
  alone = one_longer xs ys (Told setting) p.alone q.alone;
  ranges = p.ranges;
  supported = λ owner before item after other is.
      longer_by (λ l. before ++ item ∷ after ≡ l → IsSupported setting (longer_lists xs ys) owner before item) (list_at xs owner) (list_at ys owner)
      (λ _ e. support_stays setting xs (longer_lists xs ys) (agree_first xs ys agree) owner before item (p.supported owner before item after other e))
      (λ _ e. support_stays setting ys (longer_lists xs ys) (agree_second xs ys agree) owner before item (q.supported owner before item after other e))
      (is ∙ list_at-longer_lists xs ys owner);
}

pub closed_of_nothing : (n : ℕ) → IsClosed (replicate n [])
closed_of_nothing n = inl (list_at-replicate n)

pub closed_of_longer : (xs ys : View) → length xs ≡ length ys → IsClosed xs → IsClosed ys → Agree xs ys → IsClosed (longer_lists xs ys)
closed_of_longer xs ys wide (inl none) q agree = subst IsClosed (sym (empty_first xs ys wide none)) q
closed_of_longer xs ys wide (inr p) (inl none) agree = subst IsClosed (sym (empty_second xs ys wide none)) (inr p)
closed_of_longer xs ys wide (inr (inl p)) (inr (inl q)) agree = inr (inl (one_longer xs ys Untold p q))
closed_of_longer xs ys wide (inr (inl p)) (inr (inr q)) agree = absurd (told_apart q.0 (one_item xs ys Untold (Told q.0) agree p q.1.alone))
closed_of_longer xs ys wide (inr (inr p)) (inr (inl q)) agree = absurd (told_apart p.0 (sym (one_item xs ys (Told p.0) Untold agree p.1.alone q)))
closed_of_longer xs ys wide (inr (inr p)) (inr (inr q)) agree =
    let one = told_same q.0 p.0 (sym (one_item xs ys (Told p.0) (Told q.0) agree p.1.alone q.1.alone)) in
    inr (inr (p.0, told_of_longer p.0 xs ys p.1 (subst (λ (setting : Setting). TellsSetting ys setting) one q.1) agree))
