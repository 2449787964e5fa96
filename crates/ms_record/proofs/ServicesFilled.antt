-- Services put into their places, one after another.
use Rattle.std.proofs.Common.{◌≡◌, ℕ, suc, ◌+◌, ◌-◌, ◌<◌, ◌≤◌, ◌⊎◌, inl, inr, List, [], ◌∷◌, ◌++◌, Some, refl, sym, ap, ◌∙◌, append_assoc, arith, length, map, take, drop, slice_get, get_or, zero, subst, below_more}
use Rattle.std.proofs.Math.ListN.{set}
use Rattle.std.specs.Prelude.{replicate, Contains}
use Rattle.std.specs.List.{range_with_len}
use Rattle.std.proofs.lemmas.List.{take_all, take_at, drop_at, length-map, length-take-le, length-append, length-replicate, length_push, map_more}
use Rattle.std.proofs.lemmas.List.FromFn.{get_or-range_with_len, length-range_with_len, map-range_with_len_more}
use Rattle.std.proofs.lemmas.Option.{slice_get_within, get_or_from_slice_get, none-some, same_Some}
use Rattle.ms_base.specs.declared.names.ServiceId.{ServiceId}
use Rattle.ms_record.specs.declared.plan.PlanRow.{PlanRow}
use Rattle.ms_record.specs.declared.services.ServiceSet.TheInside.{Inside}
use Rattle.ms_record.specs.Plans.{PlanView, IsPlan}
use Rattle.ms_record.specs.Chains.{voters_of}
use Rattle.ms_record.specs.Services.{AreServices, numbers_of}
use Rattle.ms_record.specs.ServicesInside.{service_of, places_of, seen, fields_back, IsKept}

set_seam : (xs : List ServiceId) (y z : ServiceId) (ys : List ServiceId) → set (xs ++ y ∷ ys) (length xs) z ≡ xs ++ z ∷ ys
set_seam [] y z ys = refl
set_seam (x ∷ xs) y z ys = ap (λ (l : List ServiceId). x ∷ l) (set_seam xs y z ys)

map_push : (xs : List ℕ) (s : ℕ) → map service_of (xs ++ s ∷ []) ≡ map service_of xs ++ service_of s ∷ []
map_push [] s = refl
map_push (x ∷ xs) s = ap (λ (l : List ServiceId). service_of x ∷ l) (map_push xs s)

-- one more service
pub placed_more : (xs : List ℕ) (s : ℕ) → length xs < 16 → set (places_of xs) (length xs) (service_of s) ≡ places_of (xs ++ s ∷ [])
placed_more xs s few =
    let left : 16 - length xs ≡ suc (16 - (length xs + 1)) = omega arith in
    let after = replicate (16 - (length xs + 1)) (service_of 0) in
    let open_one : places_of xs ≡ map service_of xs ++ service_of 0 ∷ after = ap (λ (n : ℕ). map service_of xs ++ replicate n (service_of 0)) left in
    let long : length (map service_of xs) ≡ length xs = length-map xs service_of in
    let put : set (places_of xs) (length xs) (service_of s) ≡ map service_of xs ++ service_of s ∷ after =
    ap (λ (l : List ServiceId). set l (length xs) (service_of s)) open_one
    ∙ ap (λ (n : ℕ). set (map service_of xs ++ service_of 0 ∷ after) n (service_of s)) (sym long)
    ∙ set_seam (map service_of xs) (service_of 0) (service_of s) after in
    put
    ∙ sym (append_assoc (map service_of xs) (service_of s ∷ []) after)
    ∙ ap (λ (l : List ServiceId). l ++ after) (sym (map_push xs s))
    ∙ ap (λ (n : ℕ). map service_of (xs ++ s ∷ []) ++ replicate (16 - n) (service_of 0)) (sym (length_push xs s))

numbers_back : (xs : List ℕ) → numbers_of (map service_of xs) ≡ xs
numbers_back [] = refl
numbers_back (x ∷ xs) = ap (λ (l : List ℕ). x ∷ l) (numbers_back xs)

pub placed_shows : (xs : List ℕ) → numbers_of (take (length xs) (places_of xs)) ≡ xs
placed_shows xs = ap numbers_of (take_at (map service_of xs) (replicate (16 - length xs) (service_of 0)) (length xs) (length-map xs service_of)) ∙ numbers_back xs

pub placed_keeps : (set : Inside) (xs : List ℕ) → set.services ≡ places_of xs → set.count ≡ length xs → AreServices xs → IsKept set
placed_keeps set xs is count h = record {
  wide = ap length is ∙ length-append (map service_of xs) (replicate (16 - length xs) (service_of 0)) ∙ omega (arith, h.few, length-map xs service_of, length-replicate (16 - length xs) (service_of 0));
  count = omega (arith, count, h.few);
  rest = ap (λ (n : ℕ). drop n set.services) count ∙ ap (λ (l : List ServiceId). drop (length xs) l) is
      ∙ drop_at (map service_of xs) (replicate (16 - length xs) (service_of 0)) (length xs) (length-map xs service_of) ∙ ap (λ (n : ℕ). replicate (16 - n) (service_of 0)) (sym count);
  services =
      let shows : numbers_of (take set.count set.services) ≡ xs = ap (λ (n : ℕ). numbers_of (take n set.services)) count ∙ ap (λ (l : List ServiceId). numbers_of (take (length xs) l)) is ∙ placed_shows xs in
      subst AreServices (sym shows) h;
}

pub set_shows : (set : Inside) (xs : List ℕ) → set.services ≡ places_of xs → set.count ≡ length xs → seen set ≡ xs
set_shows set xs is count = ap (λ (n : ℕ). numbers_of (take n set.services)) count ∙ ap (λ (l : List ServiceId). numbers_of (take (length xs) l)) is ∙ placed_shows xs

-- the set is these services
pub record IsSetOf (set : Inside) (services : List ℕ) : Type 0 where
  pub kept : IsKept set
  pub shows : seen set ≡ services

set_of : (set : Inside) (xs : List ℕ) → set.services ≡ places_of xs → set.count ≡ length xs → AreServices xs → IsSetOf set xs
set_of set xs is count h = record { kept = placed_keeps set xs is count h; shows = set_shows set xs is count }

-- ---- the services of a plan

abbrev pub service_in : PlanRow → ℕ
service_in row = row.service.0

pub plan_more : (rows : List PlanRow) (i : ℕ) (d : PlanRow) (services : List ServiceId) → length rows ≤ 16 → i < length rows → services ≡ places_of (map service_in (take i rows))
    → set services i (get_or rows i d).service ≡ places_of (map service_in (take (i + 1) rows))
plan_more rows i d services few within h =
    let front = map service_in (take i rows) in
    let long : length front ≡ i = length-map (take i rows) service_in ∙ length-take-le i rows (omega (arith, within)) in
    ap (λ (l : List ServiceId). set l i (get_or rows i d).service) h
    ∙ ap (λ (n : ℕ). set (places_of front) n (get_or rows i d).service) (sym long)
    ∙ placed_more front (service_in (get_or rows i d)) (omega (arith, long, within, few))
    ∙ ap places_of (sym (map_more service_in rows i d within))

-- the row of a service
row_found : (rows : List PlanRow) (i s : ℕ) → slice_get (map service_in rows) i ≡ Some s → (row : PlanRow) × (slice_get rows i ≡ Some row) × (row.service.0 ≡ s)
row_found [] i s h = absurd (none-some s h)
row_found (row ∷ rows) zero s h = (row, refl, same_Some (service_in row) s h)
row_found (row ∷ rows) (suc i) s h = row_found rows i s h

pub plan_services : (plan : PlanView) → IsPlan plan → AreServices (voters_of plan)
plan_services plan h = record {
  few = omega (arith, length-map plan.rows service_in, h.few_rows);
  below = λ i s at. let r = row_found plan.rows i s at in omega (arith, r.2, (h.rows i r.0 r.1).service);
  rising = λ i s next at after.
      let r = row_found plan.rows i s at in
      let q = row_found plan.rows (i + 1) next after in
      omega (arith, r.2, q.2, h.rising i r.0 q.0 r.1 q.1);
}

-- ---- the first services

pub all_more : (i : ℕ) (services : List ServiceId) → i < 16 → services ≡ places_of (range_with_len 0 i) → set services i (service_of i) ≡ places_of (range_with_len 0 (i + 1))
all_more i services few h =
    let long : length (range_with_len 0 i) ≡ i = length-range_with_len 0 i in
    let more : range_with_len 0 (i + 1) ≡ range_with_len 0 i ++ i ∷ [] = range_more i in
    ap (λ (l : List ServiceId). set l i (service_of i)) h
    ∙ ap (λ (n : ℕ). set (places_of (range_with_len 0 i)) n (service_of i)) (sym long)
    ∙ placed_more (range_with_len 0 i) i (omega (arith, long, few))
    ∙ ap places_of (sym more)
  where
    same : (xs : List ℕ) → map (λ (n : ℕ). n) xs ≡ xs
    same [] = refl
    same (x ∷ xs) = ap (λ (l : List ℕ). x ∷ l) (same xs)

    range_more : (i : ℕ) → range_with_len 0 (i + 1) ≡ range_with_len 0 i ++ i ∷ []
    range_more i = sym (same (range_with_len 0 (i + 1))) ∙ map-range_with_len_more (λ (n : ℕ). n) 0 i i (omega arith) ∙ ap (λ (l : List ℕ). l ++ i ∷ []) (same (range_with_len 0 i))

service_at : (n i s : ℕ) → slice_get (range_with_len 0 n) i ≡ Some s → (i < n) × (s ≡ i)
service_at n i s h =
    let within : i < n = omega (arith, slice_get_within (range_with_len 0 n) i s h, length-range_with_len 0 n) in
    (within, sym (get_or_from_slice_get (range_with_len 0 n) i s 0 h) ∙ get_or-range_with_len 0 n i 0 within ∙ omega arith)

pub all_services : (n : ℕ) → n ≤ 16 → AreServices (range_with_len 0 n)
all_services n few = record {
  few = omega (arith, length-range_with_len 0 n);
  below = λ i s at. let r = service_at n i s at in omega (arith, r.0, r.1);
  rising = λ i s next at after. let r = service_at n i s at in let q = service_at n (i + 1) next after in omega (arith, r.1, q.1);
}

-- ---- what is placed is a set of services

pub whole_plan : (plan : PlanView) (rows : List PlanRow) (i : ℕ) (services : List ServiceId) → rows ≡ plan.rows → IsPlan plan → length rows ≤ i → services ≡ places_of (map service_in (take i rows))
    → IsSetOf (record { services = services; count = length rows }) (voters_of plan)
whole_plan plan rows i services is h all placed =
    let front : services ≡ places_of (voters_of plan) = placed ∙ ap (λ (l : List PlanRow). places_of (map service_in l)) (take_all i rows all ∙ is) in
    let many : length rows ≡ length (voters_of plan) = ap length is ∙ sym (length-map plan.rows service_in) in
    set_of (record { services = services; count = length rows }) (voters_of plan) front many (plan_services plan h)

pub whole_all : (n i : ℕ) (services : List ServiceId) → n ≤ 16 → n ≤ i → i ≤ n → services ≡ places_of (range_with_len 0 i) → IsSetOf (record { services = services; count = n }) (range_with_len 0 n)
whole_all n i services few low high placed =
    let same : i ≡ n = omega arith in
    set_of (record { services = services; count = n }) (range_with_len 0 n) (placed ∙ ap (λ (m : ℕ). places_of (range_with_len 0 m)) same) (sym (length-range_with_len 0 n)) (all_services n few)

-- ---- whether a service is among some

-- none of the first so many is this service
abbrev pub NoneOf : List ServiceId → ℕ → ℕ → Type 0
NoneOf ids n s = (i : ℕ) → i < n → (get_or ids i (service_of 0)).0 ≡ s → ⊥

pub none_more : (ids : List ServiceId) (n s : ℕ) → NoneOf ids n s → ((get_or ids n (service_of 0)).0 ≡ s → ⊥) → NoneOf ids (n + 1) s
none_more ids n s before here = below_more (λ i. (get_or ids i (service_of 0)).0 ≡ s → ⊥) n before here

number_get : (ids : List ServiceId) (i d : ℕ) → i < length ids → get_or (numbers_of ids) i d ≡ (get_or ids i (service_of 0)).0
number_get [] i d h = absurd (omega arith)
number_get (x ∷ ids) zero d h = refl
number_get (x ∷ ids) (suc i) d h = number_get ids i d (omega arith)

pub is_there : (ids : List ServiceId) (xs : List ℕ) (i s : ℕ) → numbers_of ids ≡ xs → i < length ids → (get_or ids i (service_of 0)).0 ≡ s → Contains xs s
is_there ids xs i s are within is = subst (λ (l : List ℕ). Contains l s) are (i, omega (arith, within, length-map ids (λ (x : ServiceId). x.0)), number_get ids i s within ∙ is)

pub not_there : (ids : List ServiceId) (xs : List ℕ) (n s : ℕ) → numbers_of ids ≡ xs → length ids ≤ n → NoneOf ids n s → Contains xs s → ⊥
not_there ids xs n s are all none c =
    let d : Contains (numbers_of ids) s = subst (λ (l : List ℕ). Contains l s) (sym are) c in
    let within : d.0 < length ids = omega (arith, d.1, length-map ids (λ (x : ServiceId). x.0)) in
    none d.0 (omega (arith, within, all)) (sym (number_get ids d.0 s within) ∙ d.2)

-- ---- a set that grows

no_services : AreServices []
no_services = record { few = omega arith; below = λ i s at. absurd (none-some s at); rising = λ i s next at after. absurd (none-some s at) }

pub none_kept : IsSetOf (record { services = places_of []; count = 0 }) []
none_kept = set_of (record { services = places_of []; count = 0 }) [] refl refl no_services

item_there : (xs : List ℕ) (i : ℕ) → i < length xs → (s : ℕ) × (slice_get xs i ≡ Some s)
item_there [] i h = absurd (omega arith)
item_there (x ∷ xs) zero h = (x, refl)
item_there (x ∷ xs) (suc i) h = item_there xs i (omega arith)

item_in : (xs : List ℕ) (i s : ℕ) → slice_get xs i ≡ Some s → Contains xs s
item_in xs i s at = (i, slice_get_within xs i s at, get_or_from_slice_get xs i s s at)

-- services rise at least as fast as their places
place_below : (xs : List ℕ) → AreServices xs → (i s : ℕ) → slice_get xs i ≡ Some s → i ≤ s
place_below xs h zero s at = omega arith
place_below xs h (suc i) s at =
    let before = item_there xs i (omega (arith, slice_get_within xs (suc i) s at)) in
    let same : i + 1 ≡ suc i = omega arith in
    let next : slice_get xs (i + 1) ≡ Some s = ap (slice_get xs) same ∙ at in
    omega (arith, place_below xs h i before.0 before.1, h.rising i before.0 s before.1 next)

-- there is room for a service above them all
pub room_above : (xs : List ℕ) (s : ℕ) → AreServices xs → ((x : ℕ) → Contains xs x → x < s) → s < 16 → length xs < 16
room_above xs s h above known = elim (some_or_none (length xs) refl) [ inl none ↦ omega (arith, none) | inr some ↦ by_last some ]
  where
    some_or_none : (n : ℕ) → length xs ≡ n → (length xs ≡ 0) ⊎ ((i : ℕ) × (length xs ≡ i + 1))
    some_or_none zero e = inl e
    some_or_none (suc i) e = inr (i, omega (arith, e))

    by_last : ((i : ℕ) × (length xs ≡ i + 1)) → length xs < 16
    by_last last =
        let at = item_there xs last.0 (omega (arith, last.1)) in
        omega (arith, last.1, place_below xs h last.0 at.0 at.1, above at.0 (item_in xs last.0 at.0 at.1), known)

push_cases : (xs : List ℕ) (s i x : ℕ) → slice_get (xs ++ s ∷ []) i ≡ Some x → (slice_get xs i ≡ Some x) ⊎ ((i ≡ length xs) × (x ≡ s))
push_cases [] s zero x at = inr (refl, sym (same_Some s x at))
push_cases [] s (suc i) x at = absurd (none-some x at)
push_cases (y ∷ xs) s zero x at = inl at
push_cases (y ∷ xs) s (suc i) x at = elim (push_cases xs s i x at) [ inl h ↦ inl h | inr h ↦ inr (omega (arith, h.0), h.1) ]

more_services : (xs : List ℕ) (s : ℕ) → AreServices xs → ((x : ℕ) → Contains xs x → x < s) → s < 16 → AreServices (xs ++ s ∷ [])
more_services xs s h above known = record {
  few = omega (arith, length_push xs s, room_above xs s h above known);
  below = λ i x at. elim (push_cases xs s i x at) [ inl old ↦ h.below i x old | inr new ↦ omega (arith, new.1, known) ];
  rising = λ i x next at after. rises i x next (push_cases xs s i x at) (push_cases xs s (i + 1) next after);
}
  where
    rises : (i x next : ℕ) → (slice_get xs i ≡ Some x) ⊎ ((i ≡ length xs) × (x ≡ s)) → (slice_get xs (i + 1) ≡ Some next) ⊎ ((i + 1 ≡ length xs) × (next ≡ s)) → x < next
    rises i x next (inl at) (inl after) = h.rising i x next at after
    rises i x next (inl at) (inr after) = omega (arith, after.1, above x (item_in xs i x at))
    rises i x next (inr at) (inl after) = absurd (omega (arith, at.0, slice_get_within xs (i + 1) next after))
    rises i x next (inr at) (inr after) = absurd (omega (arith, at.0, after.0))

-- one service more behind those of a set
pub room_in : (before : Inside) (xs : List ℕ) (s : ℕ) → IsKept before → seen before ≡ xs → ((x : ℕ) → Contains xs x → x < s) → s < 16 → before.count < 16
room_in before xs s kept shows above known =
    let count : before.count ≡ length (seen before) = sym (ap (λ (b : Inside). b.count) (fields_back before kept)) in
    omega (arith, count, ap (λ (l : List ℕ). length l) shows, room_above xs s (subst AreServices shows kept.services) above known)

pub whole_more : (before : Inside) (xs : List ℕ) (service : ServiceId) → IsKept before → seen before ≡ xs → ((x : ℕ) → Contains xs x → x < service.0) → service.0 < 16
    → IsSetOf (record { services = set before.services before.count service; count = before.count + 1 }) (xs ++ service.0 ∷ [])
whole_more before xs service kept shows above known =
    let back = fields_back before kept in
    let rules : AreServices xs = subst AreServices shows kept.services in
    let fields : before.services ≡ places_of xs = sym (ap (λ (b : Inside). b.services) back) ∙ ap places_of shows in
    let count : before.count ≡ length xs = sym (ap (λ (b : Inside). b.count) back) ∙ ap (λ (l : List ℕ). length l) shows in
    let put : set before.services before.count service ≡ places_of (xs ++ service.0 ∷ []) =
    ap (λ (l : List ServiceId). set l before.count service) fields ∙ ap (λ (n : ℕ). set (places_of xs) n service) count
    ∙ placed_more xs service.0 (room_above xs service.0 rules above known) in
    set_of (record { services = set before.services before.count service; count = before.count + 1 }) (xs ++ service.0 ∷ []) put (omega (arith, count, length_push xs service.0)) (more_services xs service.0 rules above known)
