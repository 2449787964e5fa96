-- What deeds that keep the rules show.
use Rattle.std.proofs.Common.{◌≡◌, ℕ, zero, suc, ◌≤◌, ◌<◌, Bool, true, false, List, [], ◌∷◌, ◌++◌, length, Option, Some, None, refl, sym, ap, ◌∙◌, subst, ◌⊎◌, inl, inr, arith, Contains, slice_set, slice_index_or, replicate}
use Rattle.std.specs.Prelude.{◌&&◌}
use Rattle.std.proofs.lemmas.List.Elements.{Contains-append_right}
use Rattle.ms_base.specs.declared.names.ServiceId.{ServiceId}
use Rattle.ms_record.specs.declared.record.Record.{Record}
use Rattle.ms_record.specs.declared.record.Record.TheVariants.{Accept, Prepare}
use Rattle.ms_record.specs.declared.sight.Sight.{Sight}
use Rattle.ms_local.specs.declared.deed.Message.{Message}
use Rattle.ms_local.specs.declared.deed.Deed.{Deed}
use Rattle.ms_local.specs.declared.deed.Deed.TheVariants.{Kept, Appended, Declared, Looked}
use Rattle.ms_local.specs.Rules.{Bidding, Intent, MayDeclare, Run, ShowsIn, Step, begun_at, bid_begun, is_voter, kept_after, promised_by, promises, sight_at, taken_by, takes, with_append, with_sight}

-- ---- sights

none_at : (n k : ℕ) (sight : Sight) → slice_index_or (replicate n None) k None ≡ Some sight → ⊥
none_at zero k sight e = absurd cc
none_at (suc n) zero sight e = absurd cc
none_at (suc n) (suc k) sight e = none_at n k sight e

some_is : (one other : Sight) → (let x : Option Sight = Some one in x) ≡ Some other → one ≡ other
some_is one other e = cc

set_shows : (sights : List (Option Sight)) (k j : ℕ) (v : Option Sight) (sight : Sight) → slice_index_or (slice_set sights k v) j None ≡ Some sight
    → (slice_index_or sights j None ≡ Some sight) ⊎ ((k ≡ j) × (v ≡ Some sight))
set_shows [] k j v sight e = inl e
set_shows (x ∷ xs) zero zero v sight e = inr (refl, e)
set_shows (x ∷ xs) zero (suc j) v sight e = inl e
set_shows (x ∷ xs) (suc k) zero v sight e = inl e
set_shows (x ∷ xs) (suc k) (suc j) v sight e = elim (set_shows xs k j v sight e) [ inl h ↦ inl h | inr h ↦ inr (ap (λ n. suc n) h.0, h.1) ]

append_votes : (s : Bidding) (service list : ℕ) (message : Message) (ok : Bool) → (with_append s service list message ok).votes ≡ s.votes
append_votes s service zero message ok = refl
append_votes s service (suc client) message ok = refl

append_declared : (s : Bidding) (service list : ℕ) (message : Message) (ok : Bool) → (with_append s service list message ok).declared ≡ s.declared
append_declared s service zero message ok = refl
append_declared s service (suc client) message ok = refl

append_top : (s : Bidding) (service list : ℕ) (message : Message) (ok : Bool) → (with_append s service list message ok).top ≡ s.top
append_top s service zero message ok = refl
append_top s service (suc client) message ok = refl

-- the sight was there, or the deed showed it
abbrev Shown : Bidding → Deed → ℕ → Sight → Type 0
Shown s deed service sight = (sight_at s.votes service ≡ Some sight) ⊎ ((id : ServiceId) × (id.0 ≡ service) × (deed ≡ Looked id sight true))

look_shown : (s : Bidding) (declared : Option Record) (id : ServiceId) (seen : Sight) (ok : Bool) (service : ℕ) (sight : Sight) → sight_at (with_sight s declared id.0 seen ok).votes service ≡ Some sight
    → Shown s (Looked id seen ok) service sight
look_shown s None id seen true service sight e = inl e
look_shown s None id seen false service sight e = inl e
look_shown s (Some offer) id seen false service sight e = inl e
look_shown s (Some offer) id seen true service sight e =
    elim (set_shows s.votes id.0 service (Some seen) sight e) [ inl h ↦ inl h | inr h ↦ inr (id, h.0, ap (λ (x : Sight). Looked id x true) (some_is seen sight h.1)) ]

step_shown : (who : ℕ) (s mid : Bidding) (own rest : List Intent) (d : Deed) (service : ℕ) (sight : Sight) → Step who s own d mid rest → sight_at mid.votes service ≡ Some sight → Shown s d service sight
step_shown who s mid own rest (Kept round ok) service sight h e = absurd (none_at (length s.failed) service sight (subst (λ (b : Bidding). sight_at b.votes service ≡ Some sight) h.3 e))
step_shown who s mid own rest (Appended id list message ok) service sight h e =
    inl (subst (λ (votes : List (Option Sight)). sight_at votes service ≡ Some sight) (ap (λ (b : Bidding). b.votes) h.2 ∙ append_votes s id.0 list.0 message ok) e)
step_shown who s mid own rest (Looked id seen ok) service sight h e = look_shown s s.declared id seen ok service sight (subst (λ (b : Bidding). sight_at b.votes service ≡ Some sight) h.2 e)
step_shown who s mid own rest d service sight h e = inl (subst (λ (b : Bidding). sight_at b.votes service ≡ Some sight) h.2 e)

later : (d : Deed) (deeds : List Deed) (x : Deed) → Contains deeds x → Contains (d ∷ deeds) x
later d deeds x h = Contains-append_right (d ∷ []) deeds x h

-- what the deeds hold behind this one shows it
abbrev pub ShowsBehind : List Deed → Deed → ℕ → Sight → Type 0
ShowsBehind deeds mark service sight = (front rest : List Deed) × (deeds ≡ front ++ mark ∷ rest) × (id : ServiceId) × (id.0 ≡ service) × Contains rest (Looked id sight true)

-- among these sights one shows it, or it is among the deeds
abbrev IsShownBy : List (Option Sight) → List Deed → ℕ → Sight → Type 0
IsShownBy sights deeds service sight = (sight_at sights service ≡ Some sight) ⊎ ((id : ServiceId) × (id.0 ≡ service) × Contains deeds (Looked id sight true))

-- A mark that a deed leaves, and sights that are none when it is left: what they show is shown behind that deed.
module _ (who : ℕ) (mark : Deed) (Has Holds : Bidding → Type 0) (seen : Bidding → List (Option Sight)) (service : ℕ) (sight : Sight)
    (marks : (s mid : Bidding) (own rest : List Intent) (d : Deed) → Step who s own d mid rest → Has mid → Has s ⊎ (d ≡ mark))
    (shows : (s mid : Bidding) (own rest : List Intent) (d : Deed) → Step who s own d mid rest → sight_at (seen mid) service ≡ Some sight → (sight_at (seen s) service ≡ Some sight) ⊎ ((id : ServiceId) × (id.0 ≡ service) × (d ≡ Looked id sight true)))
    (fresh : (s mid : Bidding) (own rest : List Intent) (d : Deed) → Step who s own d mid rest → Holds s → d ≡ mark → sight_at (seen mid) service ≡ Some sight → ⊥)
    (holds : (s mid : Bidding) (own rest : List Intent) (d : Deed) → Step who s own d mid rest → Holds s → Holds mid)
  where
    pub behind : (s t : Bidding) (own : List Intent) (deeds : List Deed) → Run who s own deeds t → Holds s → Has t → sight_at (seen t) service ≡ Some sight
        → (Has s × IsShownBy (seen s) deeds service sight) ⊎ ShowsBehind deeds mark service sight
    behind s t own [] h inv has e = inl (subst Has h.1 has, inl (subst (λ (b : Bidding). sight_at (seen b) service ≡ Some sight) h.1 e))
    behind s t own (d ∷ deeds) h inv has e =
        elim (behind h.0 t h.1 deeds h.3 (holds s h.0 own h.1 d h.2 inv) has e) [
          | inr b ↦ inr (d ∷ b.0, b.1, ap (λ (xs : List Deed). d ∷ xs) b.2, b.3, b.4, b.5)
          | inl a ↦ elim (marks s h.0 own h.1 d h.2 a.0) [
            | inr is ↦ elim a.1 [
              | inl v ↦ absurd (fresh s h.0 own h.1 d h.2 inv is v)
              | inr c ↦ inr ([], deeds, ap (λ (x : Deed). x ∷ deeds) is, c.0, c.1, c.2)
            ]
            | inl had ↦ elim a.1 [
              | inl v ↦ elim (shows s h.0 own h.1 d h.2 v) [
                | inl there ↦ inl (had, inl there)
                | inr new ↦ inl (had, inr (new.0, new.1, (0, omega arith, new.2)))
              ]
              | inr c ↦ inl (had, inr (c.0, c.1, later d deeds (Looked c.0 sight true) c.2))
            ]
          ]
        ]

takes_some : (o : Option Sight) → takes o ≡ true → (sight : Sight) × (o ≡ Some sight) × (sight.taken ≡ true)
takes_some None e = absurd cc
takes_some (Some sight) e = (sight, refl, e)

second : (a b : Bool) → (a && b) ≡ true → b ≡ true
second true b e = e
second false b e = absurd cc

-- ---- offers

look_declared : (s : Bidding) (declared : Option Record) (service : ℕ) (sight : Sight) (ok : Bool) → (with_sight s declared service sight ok).declared ≡ s.declared
look_declared s None service sight true = refl
look_declared s None service sight false = refl
look_declared s (Some offer) service sight true = refl
look_declared s (Some offer) service sight false = refl

same_offer : (one other : Record) → (let x : Option Record = Some one in x) ≡ Some other → one ≡ other
same_offer one other e = cc

step_declared : (who : ℕ) (s mid : Bidding) (own rest : List Intent) (d : Deed) (offer : Record) → Step who s own d mid rest → mid.declared ≡ Some offer → (s.declared ≡ Some offer) ⊎ (d ≡ Declared offer)
step_declared who s mid own rest (Kept round ok) offer h e = let none : mid.declared ≡ None = ap (λ (b : Bidding). b.declared) h.3 in absurd cc
step_declared who s mid own rest (Appended id list message ok) offer h e = inl (sym (ap (λ (b : Bidding). b.declared) h.2 ∙ append_declared s id.0 list.0 message ok) ∙ e)
step_declared who s mid own rest (Looked id sight ok) offer h e = inl (sym (ap (λ (b : Bidding). b.declared) h.2 ∙ look_declared s s.declared id.0 sight ok) ∙ e)
step_declared who s mid own rest (Declared told) offer h e = inr (ap (λ (r : Record). Declared r) (same_offer told offer (sym (ap (λ (b : Bidding). b.declared) h.2) ∙ e)))
step_declared who s mid own rest d offer h e = inl (sym (ap (λ (b : Bidding). b.declared) h.2) ∙ e)

run_declared : (who : ℕ) (s t : Bidding) (own : List Intent) (deeds : List Deed) (offer : Record) → Run who s own deeds t → t.declared ≡ Some offer → (s.declared ≡ Some offer) ⊎ Contains deeds (Declared offer)
run_declared who s t own [] offer h e = inl (sym (ap (λ (b : Bidding). b.declared) h.1) ∙ e)
run_declared who s t own (d ∷ deeds) offer h e =
    elim (run_declared who h.0 t h.1 deeds offer h.3 e) [
      | inl v ↦ elim (step_declared who s h.0 own h.1 d offer h.2 v) [
        | inl there ↦ inl there
        | inr new ↦ inr (0, omega arith, new)
      ]
      | inr c ↦ inr (later d deeds (Declared offer) c)
    ]

pub decided_shown : (n who round : ℕ) (own : List Intent) (deeds : List Deed) (t : Bidding) (position : ℕ) (offer : Record) → Run who (begun_at n round) own deeds t → t.declared ≡ Some offer → Contains deeds (Declared offer)
decided_shown n who round own deeds t position offer h e =
    elim (run_declared who (begun_at n round) t own deeds offer h e) [
      | inl there ↦ absurd cc
      | inr c ↦ c
    ]

-- ---- who took an offer, and who promised

-- before the declaration there are no sights behind it
abbrev Unvoted : Bidding → Type 0
Unvoted s = (k : ℕ) (x : Sight) → s.declared ≡ None → sight_at s.votes k ≡ Some x → ⊥

look_votes : (s : Bidding) (declared : Option Record) (service : ℕ) (sight : Sight) (ok : Bool) → declared ≡ None → (with_sight s declared service sight ok).votes ≡ s.votes
look_votes s None service sight true e = refl
look_votes s None service sight false e = refl
look_votes s (Some offer) service sight ok e = absurd cc

at_votes : (a b : Bidding) (k : ℕ) (x : Sight) → a.votes ≡ b.votes → sight_at a.votes k ≡ Some x → sight_at b.votes k ≡ Some x
at_votes a b k x e h = subst (λ (votes : List (Option Sight)). sight_at votes k ≡ Some x) e h

step_unvoted : (who : ℕ) (s mid : Bidding) (own rest : List Intent) (d : Deed) → Step who s own d mid rest → Unvoted s → Unvoted mid
step_unvoted who s mid own rest (Kept round ok) h u k x none e = none_at (length s.failed) k x (subst (λ (b : Bidding). sight_at b.votes k ≡ Some x) h.3 e)
step_unvoted who s mid own rest (Appended id list message ok) h u k x none e =
    u k x (sym (append_declared s id.0 list.0 message ok) ∙ (sym (ap (λ (b : Bidding). b.declared) h.2) ∙ none))
    (at_votes mid s k x (ap (λ (b : Bidding). b.votes) h.2 ∙ append_votes s id.0 list.0 message ok) e)
step_unvoted who s mid own rest (Looked id sight ok) h u k x none e =
    let before : s.declared ≡ None = sym (look_declared s s.declared id.0 sight ok) ∙ (sym (ap (λ (b : Bidding). b.declared) h.2) ∙ none) in
    u k x before (at_votes mid s k x (ap (λ (b : Bidding). b.votes) h.2 ∙ look_votes s s.declared id.0 sight ok before) e)
step_unvoted who s mid own rest (Declared offer) h u k x none e =
    let told : mid.declared ≡ Some offer = ap (λ (b : Bidding). b.declared) h.2 in
    (let q : None ≡ Some offer = sym none ∙ told in cc)
step_unvoted who s mid own rest d h u k x none e =
    u k x (sym (ap (λ (b : Bidding). b.declared) h.2) ∙ none) (at_votes mid s k x (ap (λ (b : Bidding). b.votes) h.2) e)

may_declare : (who : ℕ) (s : Bidding) (offer : Record) → MayDeclare who s offer → s.declared ≡ None
may_declare who s (Accept k b e) h = h.4
may_declare who s (Prepare k b) h = absurd h

declares : (who : ℕ) (s mid : Bidding) (own rest : List Intent) (offer : Record) → Step who s own (Declared offer) mid rest → (s.declared ≡ None) × (mid.votes ≡ s.votes)
declares who s mid own rest offer h = (may_declare who s offer h.1, ap (λ (b : Bidding). b.votes) h.2)

pub taken_shown : (n who round : ℕ) (own : List Intent) (deeds : List Deed) (t : Bidding) (voters : List ℕ) (offer : Record) (service : ℕ) → Run who (begun_at n round) own deeds t → t.declared ≡ Some offer
    → taken_by voters t.votes service ≡ true → (front rest : List Deed) × (deeds ≡ front ++ Declared offer ∷ rest) × ShowsIn rest service (λ sight. sight.taken)
taken_shown n who round own deeds t voters offer service h told e =
    let s = takes_some (sight_at t.votes service) (second (is_voter voters service) (takes (sight_at t.votes service)) e) in
    elim (behind who (Declared offer) (λ b. b.declared ≡ Some offer) Unvoted (λ b. b.votes) service s.0
    (λ x y o r d step has. step_declared who x y o r d offer step has)
    (λ x y o r d step shown. step_shown who x y o r d service s.0 step shown)
    (λ x y o r d step unvoted is shown.
    let q = declares who x y o r offer (subst (λ (z : Deed). Step who x o z y r) is step) in
    unvoted service s.0 q.0 (at_votes y x service s.0 q.1 shown))
    (λ x y o r d step unvoted. step_unvoted who x y o r d step unvoted)
    (begun_at n round) t own deeds h (λ k x none there. none_at n k x there) told s.1) [
      | inl a ↦ absurd cc
      | inr b ↦ (b.0, b.1, b.2, (b.3, s.0, b.4, s.2, b.5))
    ]

append_looks : (s : Bidding) (service list : ℕ) (message : Message) (ok : Bool) → (with_append s service list message ok).looks ≡ s.looks
append_looks s service zero message ok = refl
append_looks s service (suc client) message ok = refl

append_kept : (s : Bidding) (service list : ℕ) (message : Message) (ok : Bool) → (with_append s service list message ok).kept ≡ s.kept
append_kept s service zero message ok = refl
append_kept s service (suc client) message ok = refl

look_kept : (s : Bidding) (declared : Option Record) (service : ℕ) (sight : Sight) (ok : Bool) → (with_sight s declared service sight ok).kept ≡ s.kept
look_kept s None service sight true = refl
look_kept s None service sight false = refl
look_kept s (Some offer) service sight true = refl
look_kept s (Some offer) service sight false = refl

kept_is : (round next : ℕ) (ok : Bool) → kept_after next ok ≡ Some round → Kept next ok ≡ Kept round true
kept_is round next true e = cc
kept_is round next false e = absurd cc

step_kept : (who : ℕ) (s mid : Bidding) (own rest : List Intent) (d : Deed) (round : ℕ) → Step who s own d mid rest → mid.kept ≡ Some round → (s.kept ≡ Some round) ⊎ (d ≡ Kept round true)
step_kept who s mid own rest (Kept next ok) round h e = inr (kept_is round next ok (sym (ap (λ (b : Bidding). b.kept) h.3) ∙ e))
step_kept who s mid own rest (Appended id list message ok) round h e = inl (sym (ap (λ (b : Bidding). b.kept) h.2 ∙ append_kept s id.0 list.0 message ok) ∙ e)
step_kept who s mid own rest (Looked id sight ok) round h e = inl (sym (ap (λ (b : Bidding). b.kept) h.2 ∙ look_kept s s.declared id.0 sight ok) ∙ e)
step_kept who s mid own rest d round h e = inl (sym (ap (λ (b : Bidding). b.kept) h.2) ∙ e)

abbrev Looked' : Bidding → Deed → ℕ → Sight → Type 0
Looked' s deed service sight = (sight_at s.looks service ≡ Some sight) ⊎ ((id : ServiceId) × (id.0 ≡ service) × (deed ≡ Looked id sight true))

look_looked : (s : Bidding) (declared : Option Record) (id : ServiceId) (seen : Sight) (ok : Bool) (service : ℕ) (sight : Sight) → sight_at (with_sight s declared id.0 seen ok).looks service ≡ Some sight
    → Looked' s (Looked id seen ok) service sight
look_looked s None id seen true service sight e =
    elim (set_shows s.looks id.0 service (Some seen) sight e) [ inl h ↦ inl h | inr h ↦ inr (id, h.0, ap (λ (x : Sight). Looked id x true) (some_is seen sight h.1)) ]
look_looked s None id seen false service sight e = inl e
look_looked s (Some offer) id seen false service sight e = inl e
look_looked s (Some offer) id seen true service sight e = inl e

step_looked : (who : ℕ) (s mid : Bidding) (own rest : List Intent) (d : Deed) (service : ℕ) (sight : Sight) → Step who s own d mid rest → sight_at mid.looks service ≡ Some sight → Looked' s d service sight
step_looked who s mid own rest (Kept round ok) service sight h e = absurd (none_at (length s.failed) service sight (subst (λ (b : Bidding). sight_at b.looks service ≡ Some sight) h.3 e))
step_looked who s mid own rest (Appended id list message ok) service sight h e =
    inl (subst (λ (looks : List (Option Sight)). sight_at looks service ≡ Some sight) (ap (λ (b : Bidding). b.looks) h.2 ∙ append_looks s id.0 list.0 message ok) e)
step_looked who s mid own rest (Looked id seen ok) service sight h e = look_looked s s.declared id seen ok service sight (subst (λ (b : Bidding). sight_at b.looks service ≡ Some sight) h.2 e)
step_looked who s mid own rest d service sight h e = inl (subst (λ (b : Bidding). sight_at b.looks service ≡ Some sight) h.2 e)

promises_some : (o : Option Sight) → promises o ≡ true → (sight : Sight) × (o ≡ Some sight) × (sight.promised ≡ true)
promises_some None e = absurd cc
promises_some (Some sight) e = (sight, refl, e)

pub promised_shown : (n who read : ℕ) (own : List Intent) (deeds : List Deed) (t : Bidding) (voters : List ℕ) (round service : ℕ) → Run who (begun_at n read) own deeds t → t.kept ≡ Some round
    → promised_by voters t.looks service ≡ true → (front rest : List Deed) × (deeds ≡ front ++ Kept round true ∷ rest) × ShowsIn rest service (λ sight. sight.promised)
promised_shown n who read own deeds t voters round service h kept e =
    let s = promises_some (sight_at t.looks service) (second (is_voter voters service) (promises (sight_at t.looks service)) e) in
    elim (behind who (Kept round true) (λ b. b.kept ≡ Some round) (λ b. Unit {0}) (λ b. b.looks) service s.0
    (λ x y o r d step has. step_kept who x y o r d round step has)
    (λ x y o r d step shown. step_looked who x y o r d service s.0 step shown)
    (λ x y o r d step holds is shown.
    let q = subst (λ (z : Deed). Step who x o z y r) is step in
    none_at (length x.failed) service s.0 (subst (λ (b : Bidding). sight_at b.looks service ≡ Some s.0) q.3 shown))
    (λ x y o r d step holds. tt)
    (begun_at n read) t own deeds h tt kept s.1) [
      | inl a ↦ absurd cc
      | inr b ↦ (b.0, b.1, b.2, (b.3, s.0, b.4, s.2, b.5))
    ]

-- ---- rounds

look_top : (s : Bidding) (declared : Option Record) (service : ℕ) (sight : Sight) (ok : Bool) → s.top ≤ (with_sight s declared service sight ok).top
look_top s None service sight true = omega arith
look_top s (Some offer) service sight true = omega arith
look_top s None service sight false = omega arith
look_top s (Some offer) service sight false = omega arith

begun_top : (s : Bidding) (intent : Intent) (round : ℕ) (ok : Bool) → s.top ≤ (bid_begun s intent round ok).top
begun_top s intent round true = omega arith
begun_top s intent round false = omega arith

step_top : (who : ℕ) (s mid : Bidding) (own rest : List Intent) (d : Deed) → Step who s own d mid rest → s.top ≤ mid.top
step_top who s mid own rest (Kept round ok) h = subst (λ (b : Bidding). s.top ≤ b.top) (sym h.3) (begun_top s h.0 round ok)
step_top who s mid own rest (Appended id list message ok) h = subst (λ (b : Bidding). s.top ≤ b.top) (sym h.2) (let e = append_top s id.0 list.0 message ok in omega arith)
step_top who s mid own rest (Looked id sight ok) h = subst (λ (b : Bidding). s.top ≤ b.top) (sym h.2) (look_top s s.declared id.0 sight ok)
step_top who s mid own rest d h = subst (λ (b : Bidding). s.top ≤ b.top) (sym h.2) (omega arith)

kept_round : (who : ℕ) (s mid : Bidding) (own rest : List Intent) (round : ℕ) (ok : Bool) → Step who s own (Kept round ok) mid rest → s.top < round
kept_round who s mid own rest round ok h = let e = h.2 in omega arith

pub rounds_rise : (who : ℕ) (s t : Bidding) (own : List Intent) (deeds : List Deed) (round : ℕ) (ok : Bool) → Run who s own deeds t → Contains deeds (Kept round ok) → s.top < round
rounds_rise who s t own [] round ok h (k, lt, e) = absurd (omega arith)
rounds_rise who s t own (d ∷ deeds) round ok h (zero, lt, e) = kept_round who s h.0 own h.1 round ok (subst (λ (x : Deed). Step who s own x h.0 h.1) e h.2)
rounds_rise who s t own (d ∷ deeds) round ok h (suc k, lt, e) =
    let rest = rounds_rise who h.0 t h.1 deeds round ok h.3 (k, omega arith, e) in
    let le = step_top who s h.0 own h.1 d h.2 in
    omega arith
