-- Jobs keep the rule of placing.
use Rattle.std.proofs.Common.{◌≡◌, ◌≢◌, ℕ, zero, suc, ◌+◌, ◌<◌, ◌≤◌, ◌==◌, ◌&&◌, ◌||◌, ◌⊎◌, inl, inr, Bool, true, false, List, [], ◌∷◌, ◌++◌, Some, refl, sym, ap, ◌∙◌, subst, length, map, take, drop, cond, count_by, slice_get, append_assoc, arith}
use Rattle.std.specs.Prelude.{Contains}
use Rattle.std.specs.List.{AllByRecursion, flat_map}
use Rattle.std.specs.List.Sorted.{IsStrictlySortedBy}
use Rattle.std.specs.Ordering.{ordering_reverse}
use Rattle.std.specs.declared.cmp.Ordering.TheVariants.{Less}
use Rattle.std.proofs.lemmas.Cmp.{nat_list_cmp_total}
use Rattle.ms_object.specs.Stores.{name_cmp}
use Rattle.std.specs.List.Sorted.{IsPermutation}
use Rattle.std.proofs.Math.Seq.{take-append_seam}
use Rattle.std.proofs.lemmas.Bool.Decides.{nat_tests}
use Rattle.std.proofs.lemmas.List.{append-nil, map-append, take-append-drop}
use Rattle.std.proofs.lemmas.List.Elements.{Contains-append_cases, Contains-append_right}
use Rattle.ms_base.specs.CountLaws.{count_cons, count_le}
use Rattle.ms_base.specs.Places.{append_left, at_contains, in_cases, in_here, in_later, in_none, map_has, same_or_not, some_or_past, some_same}
use Rattle.ms_base.specs.declared.names.Name.{Name}
use Rattle.ms_base.specs.declared.names.ServiceId.{ServiceId}
use Rattle.ms_local.specs.declared.deed.Deed.{Deed}
use Rattle.ms_local.specs.Placing.{Asking, HasAccepted, IsUnder, MayAsk, Obeys, Placing, PlacesNext, Purpose, WasAsked, asking_of}
use Rattle.ms_plan.specs.Mapping.{order_of, services_of}
use Rattle.ms_record.specs.declared.plan.PlanRow.{PlanRow}
use Rattle.ms_record.specs.Plans.{IsPlan, PlanView}
use Rattle.ms_upload.specs.declared.visit.Met.{Met}
use Rattle.ms_upload.specs.declared.visit.Met.TheVariants.{Present, Taken, AskFailed, PutFailed, AskStale, PutStale}
use Rattle.ms_upload.specs.Jobs.{Follows, IsCutBehind, job_of}
use Rattle.ms_upload.specs.Placings.{jobs_deeds}
use Rattle.ms_upload.specs.Visits.{IsCut, Job, Visit, accepted, accepts, counts_present, counts_put, did_accept, job_deeds, met_deeds, visit_deeds}
use Rattle.ms_upload.proofs.Enough.{accepted_then, count_map, count_same}

-- ---- runs

pub obeys_on : (s m t : Placing) (deeds more : List Deed) → Obeys PlacesNext s deeds m → Obeys PlacesNext m more t → Obeys PlacesNext s (deeds ++ more) t
obeys_on s m t [] more h k = subst (λ (x : Placing). Obeys PlacesNext x more t) h k
obeys_on s m t (d ∷ deeds) more h k = (h.0, h.1, obeys_on h.0 m t deeds more h.2 k)

-- ---- no service stands twice in an order

no_test : (s k : ℕ) → s ≢ k → (s == k) ≡ false
no_test s k e = grind (arith, nat_tests)

cond_no : (s k : ℕ) → s ≢ k → ◌≡◌ {A = ℕ} (cond (s == k) 1 0) 0
cond_no s k e = ap (λ (b : Bool). cond b 1 0) (no_test s k e)

cond_few : (b : Bool) → cond b 1 0 ≤ 1
cond_few true = omega arith
cond_few false = omega arith

rise_none : (low : ℕ) (rows : List PlanRow) → ((row : PlanRow) → slice_get rows 0 ≡ Some row → low < row.service.0) → ((i : ℕ) (row next : PlanRow) → slice_get rows i ≡ Some row → slice_get rows (suc i) ≡ Some next → row.service.0 < next.service.0)
    → count_by (λ (row : PlanRow). low == row.service.0) rows ≡ 0
rise_none low [] first h = refl
rise_none low (r ∷ rows) first h =
    let above : low < r.service.0 = first r refl in
    omega (
      arith,
      count_cons (λ (row : PlanRow). low == row.service.0) r rows,
      cond_no low r.service.0 (λ e. absurd (omega (arith, e, above))),
      rise_none low rows (λ row at. omega (arith, above, h 0 r row refl at)) (λ i row next at after. h (suc i) row next at after),
    )

rise_once : (s : ℕ) (rows : List PlanRow) → ((i : ℕ) (row next : PlanRow) → slice_get rows i ≡ Some row → slice_get rows (suc i) ≡ Some next → row.service.0 < next.service.0)
    → count_by (λ (row : PlanRow). s == row.service.0) rows ≤ 1
rise_once s [] h = omega arith
rise_once s (r ∷ rows) h = elim (same_or_not s r.service.0) [
  | inl e ↦ omega (
    arith,
    count_cons (λ (row : PlanRow). s == row.service.0) r rows,
    cond_few (s == r.service.0),
    rise_none s rows (λ row at. omega (arith, e, h 0 r row refl at)) (λ i row next at after. h (suc i) row next at after),
  )
  | inr n ↦ omega (arith, count_cons (λ (row : PlanRow). s == row.service.0) r rows, cond_no s r.service.0 n, rise_once s rows (λ i row next at after. h (suc i) row next at after))
]

order_once : (plan : PlanView) (name : Name) → IsPlan plan → IsPermutation (services_of plan) (order_of plan name) → (s : ℕ) → count_by (λ (x : ServiceId). s == x.0) (order_of plan name) ≤ 1
order_once plan name rules same s =
    omega (arith, count_same (λ (x : ServiceId). s == x.0) (services_of plan) (order_of plan name) same, count_map (λ (x : ServiceId). s == x.0) (λ (row : PlanRow). row.service) plan.rows, rise_once s plan.rows (λ i row next at after. rules.rising i row next at (subst (λ (n : ℕ). slice_get plan.rows n ≡ Some next) (omega arith) after)))

-- ---- no more of an order accepted than visits say

count_false : {X : Type 0} (xs : List X) → count_by (λ x. false) xs ≡ 0
count_false [] = refl
count_false (x ∷ xs) = omega (arith, count_cons (λ y. false) x xs, count_false xs)

cond_or : (a b : Bool) → cond (a || b) 1 0 ≤ cond a 1 0 + cond b 1 0
cond_or true b = omega arith
cond_or false b = omega arith

count_or : {X : Type 0} (p q : X → Bool) (xs : List X) → count_by (λ x. p x || q x) xs ≤ count_by p xs + count_by q xs
count_or p q [] = omega arith
count_or p q (x ∷ xs) = omega (arith, count_cons (λ y. p y || q y) x xs, count_cons p x xs, count_cons q x xs, cond_or (p x) (q x), count_or p q xs)

one_count : (met : Met) (s : ℕ) (order : List ServiceId) → count_by (λ (x : ServiceId). s == x.0) order ≤ 1 → count_by (λ (x : ServiceId). accepts met && s == x.0) order ≤ counts_present met + counts_put met
one_count Present s order h = omega (arith, h)
one_count Taken s order h = omega (arith, h)
one_count AskFailed s order h = omega (arith, count_false order)
one_count PutFailed s order h = omega (arith, count_false order)
one_count (AskStale floor) s order h = omega (arith, count_false order)
one_count (PutStale floor) s order h = omega (arith, count_false order)

did_count : (visits : List Visit) (order : List ServiceId) → ((s : ℕ) → count_by (λ (x : ServiceId). s == x.0) order ≤ 1) → count_by (λ (x : ServiceId). did_accept visits x.0) order ≤ accepted visits
did_count [] order once = omega (arith, count_false order)
did_count (v ∷ visits) order once =
    omega (arith, count_or (λ (x : ServiceId). accepts v.met && v.service.0 == x.0) (λ (x : ServiceId). did_accept visits x.0) order, one_count v.met v.service.0 order (once v.service.0), did_count visits order once)

-- ---- rows of a job

abbrev pub row_of : ℕ → Name → Visit → Asking
row_of generation name v = asking_of v.service generation name (accepts v.met)

abbrev pub rows_of : ℕ → Name → List Visit → List Asking
rows_of generation name visits = map (row_of generation name) visits

abbrev pub IsApart : List Asking → Name → Type 0
IsApart rows name = (row : Asking) → Contains rows row → row.name ≡ name → ⊥

row_from : (generation : ℕ) (name : Name) (visits : List Visit) (row : Asking) → Contains (rows_of generation name visits) row → (v : Visit) × Contains visits v × (row_of generation name v ≡ row)
row_from generation name [] row there = absurd (in_none row there)
row_from generation name (v ∷ visits) row there = elim (in_cases (row_of generation name v) (rows_of generation name visits) row there) [
  | inl same ↦ (v, in_here v visits, same)
  | inr later ↦ (let p = row_from generation name visits row later in (p.0, in_later v visits p.0 p.1, p.2))
]

abbrev pub all_rows : ℕ → List Job → List Asking
all_rows generation jobs = flat_map (λ (job : Job). rows_of generation job.name job.visits) jobs

-- the names of jobs differ
abbrev pub AreApart : List Job → Type 0
AreApart [] = Unit {0}
AreApart (job ∷ jobs) = ((other : Job) → Contains jobs other → other.name ≡ job.name → ⊥) × AreApart jobs

map_at : {X Y : Type 0} (f : X → Y) (xs : List X) (i : ℕ) (x : X) → slice_get xs i ≡ Some x → slice_get (map f xs) i ≡ Some (f x)
map_at f [] i x at = absurd (cc at)
map_at f (y ∷ xs) zero x at = ap (λ z. Some (f z)) (some_same y x at)
map_at f (y ∷ xs) (suc i) x at = map_at f xs i x at

at_seam : {X : Type 0} (xs : List X) (x : X) (ys : List X) → slice_get (xs ++ x ∷ ys) (length xs) ≡ Some x
at_seam [] x ys = refl
at_seam (z ∷ xs) x ys = at_seam xs x ys

-- the service of a visit is the one of its place in the order
in_order : (plan : PlanView) (job : Job) → Follows plan job → (i : ℕ) (v : Visit) → slice_get job.visits i ≡ Some v → slice_get (order_of plan job.name) i ≡ Some v.service
in_order plan job h i v at =
    let n = length job.visits in
    let mapped : slice_get (map (λ (w : Visit). w.service) job.visits) i ≡ Some v.service = map_at (λ (w : Visit). w.service) job.visits i v at in
    subst (λ (xs : List ServiceId). slice_get xs i ≡ Some v.service) (take-append-drop n (order_of plan job.name))
    (append_left (take n (order_of plan job.name)) (drop n (order_of plan job.name)) i v.service (subst (λ (xs : List ServiceId). slice_get xs i ≡ Some v.service) h.order mapped))

-- who accepted by the rows did so by the visits
did_by : (base : List Asking) (generation : ℕ) (name : Name) (visits : List Visit) (s : ℕ) → IsApart base name → HasAccepted (base ++ rows_of generation name visits) generation name s → did_accept visits s ≡ true
did_by base generation name visits s apart h = elim (Contains-append_cases base (rows_of generation name visits) h.asked.row h.asked.there) [
  | inl old ↦ absurd (apart h.asked.row old h.asked.name_is)
  | inr own ↦
      let p = row_from generation name visits h.asked.row own in
      let service : p.0.service.0 ≡ s = ap (λ (r : Asking). r.service) p.2 ∙ h.asked.service in
      let did : accepts p.0.met ≡ true = ap (λ (r : Asking). r.accepted) p.2 ∙ h.accepted in
      subst (λ (n : ℕ). did_accept visits n ≡ true) service (accepted_then visits p.0 p.1 did)
]

still_apart_of : (generation : ℕ) (s t : Placing) (job other : Job) → t.asked ≡ s.asked ++ rows_of generation job.name job.visits → IsApart s.asked other.name → (other.name ≡ job.name → ⊥) → IsApart t.asked other.name
still_apart_of generation s t job other asked apart differ row there is =
    elim (Contains-append_cases s.asked (rows_of generation job.name job.visits) row (subst (λ (rs : List Asking). Contains rs row) asked there)) [
      | inl old ↦ apart row old is
      | inr own ↦ (let p = row_from generation job.name job.visits row own in differ (sym is ∙ ap (λ (r : Asking). r.name) (sym p.2)))
    ]

module _ (plan : PlanView) (rules : IsPlan plan) (same : (name : Name) → IsPermutation (services_of plan) (order_of plan name)) (rest : List Purpose) where
  pub may_ask : (base : List Asking) (name : Name) (front : List Visit) (service : ServiceId) → IsApart base name → ((i : ℕ) (v : Visit) → slice_get front i ≡ Some v → slice_get (order_of plan name) i ≡ Some v.service)
      → slice_get (order_of plan name) (length front) ≡ Some service → accepted front < plan.replicas → MayAsk plan (base ++ rows_of plan.generation name front) service name
  may_ask base name front service apart order next few = record {
    place = length front;
    next = next;
    before = λ i s lt at. asked_before i s lt at (some_or_past front i);
    wanted = λ part have.
        omega (
          arith,
          count_le (λ (x : ServiceId). part x.0) (λ (x : ServiceId). did_accept front x.0) (order_of plan name) (λ x is. did_by base plan.generation name front x.0 apart (have x.0 is)),
          did_count front (order_of plan name) (order_once plan name rules (same name)),
          few,
        );
  } where
    asked_before : (i : ℕ) (s : ServiceId) → i < length front → slice_get (order_of plan name) i ≡ Some s → ((v : Visit) × (slice_get front i ≡ Some v)) ⊎ (length front ≤ i) → WasAsked (base ++ rows_of plan.generation name front) plan.generation name s.0
    asked_before i s lt at (inl v) = record {
      row = row_of plan.generation name v.0;
      there = Contains-append_right base (rows_of plan.generation name front) (row_of plan.generation name v.0) (map_has (row_of plan.generation name) front v.0 (at_contains front i v.0 v.1));
      service = ap (λ (x : ServiceId). x.0) (some_same v.0.service s (sym (order i v.0 v.1) ∙ at));
      generation_is = refl;
      name_is = refl;
    }
    asked_before i s lt at (inr past) = absurd (omega (arith, lt, past))

  -- one visit
  abbrev asked_state : Placing → ServiceId → Name → Bool → Placing
  asked_state s service name a = record { own = rest; plan = Some plan; asked = s.asked ++ asking_of service plan.generation name a ∷ [] }

  pub visit_obeys : (s : Placing) (service : ServiceId) (name : Name) (met : Met) → IsUnder s plan rest → MayAsk plan s.asked service name
      → (t : Placing) × Obeys PlacesNext s (met_deeds service plan.generation name met) t × IsUnder t plan rest × (t.asked ≡ s.asked ++ asking_of service plan.generation name (accepts met) ∷ [])
  visit_obeys s service name Present under may = (asked_state s service name true, (asked_state s service name true, (plan, rest, under, refl, may, refl), refl), inl (refl, refl), refl)
  visit_obeys s service name AskFailed under may = (asked_state s service name false, (asked_state s service name false, (plan, rest, under, refl, may, refl), refl), inl (refl, refl), refl)
  visit_obeys s service name (AskStale floor) under may = (asked_state s service name false, (asked_state s service name false, (plan, rest, under, refl, may, refl), refl), inl (refl, refl), refl)
  visit_obeys s service name Taken under may =
      (asked_state s service name true, (asked_state s service name false, (plan, rest, under, refl, may, refl), (asked_state s service name true, (s.asked, refl, refl), refl)), inl (refl, refl), refl)
  visit_obeys s service name PutFailed under may =
      (asked_state s service name false, (asked_state s service name false, (plan, rest, under, refl, may, refl), (asked_state s service name false, (s.asked, refl, refl), refl)), inl (refl, refl), refl)
  visit_obeys s service name (PutStale floor) under may =
      (asked_state s service name false, (asked_state s service name false, (plan, rest, under, refl, may, refl), (asked_state s service name false, (s.asked, refl, refl), refl)), inl (refl, refl), refl)

  -- the visits of a job from a place on
  pub visits_obey : (s : Placing) (base : List Asking) (name : Name) (front back : List Visit) → IsApart base name → Follows plan (job_of name (front ++ back)) → s.asked ≡ base ++ rows_of plan.generation name front → IsUnder s plan rest
      → (t : Placing) × Obeys PlacesNext s (flat_map (visit_deeds plan.generation name) back) t × IsUnder t plan rest × (t.asked ≡ base ++ rows_of plan.generation name (front ++ back))
  visits_obey s base name front [] apart h asked under = (s, refl, under, asked ∙ ap (λ (vs : List Visit). base ++ rows_of plan.generation name vs) (sym (append-nil front)))
  visits_obey s base name front (v ∷ back) apart h asked under =
      let at = at_seam front v back in
      let few = subst (λ (vs : List Visit). accepted vs < plan.replicas) (take-append_seam front (v ∷ back)) (h.wanted (length front) v at) in
      let may = may_ask base name front v.service apart (λ i w there. in_order plan (job_of name (front ++ v ∷ back)) h i w (append_left front (v ∷ back) i w there))
      (in_order plan (job_of name (front ++ v ∷ back)) h (length front) v at) few in
      let one = visit_obeys s v.service name v.met under (subst (λ (rows : List Asking). MayAsk plan rows v.service name) (sym asked) may) in
      let same : (front ++ v ∷ []) ++ back ≡ front ++ v ∷ back = append_assoc front (v ∷ []) back in
      let rows : one.0.asked ≡ base ++ rows_of plan.generation name (front ++ v ∷ []) =
      one.3 ∙ (ap (λ (rs : List Asking). rs ++ row_of plan.generation name v ∷ []) asked
      ∙ (append_assoc base (rows_of plan.generation name front) (row_of plan.generation name v ∷ []) ∙ ap (λ (rs : List Asking). base ++ rs) (sym (map-append (row_of plan.generation name) front (v ∷ []))))) in
      let more = visits_obey one.0 base name (front ++ v ∷ []) back apart (subst (λ (vs : List Visit). Follows plan (job_of name vs)) (sym same) h) rows one.2 in (
        more.0,
        obeys_on s one.0 more.0 (visit_deeds plan.generation name v) (flat_map (visit_deeds plan.generation name) back) one.1 more.1,
        more.2,
        more.3 ∙ ap (λ (vs : List Visit). base ++ rows_of plan.generation name vs) same,
      )

  pub job_obeys : (s : Placing) (job : Job) → IsApart s.asked job.name → Follows plan job → IsUnder s plan rest
      → (t : Placing) × Obeys PlacesNext s (job_deeds plan.generation job) t × IsUnder t plan rest × (t.asked ≡ s.asked ++ rows_of plan.generation job.name job.visits)
  job_obeys s job apart h under = visits_obey s s.asked job.name [] job.visits apart h (sym (append-nil s.asked)) under

  pub jobs_obey : (s : Placing) (jobs : List Job) → AreApart jobs → ((job : Job) → Contains jobs job → IsApart s.asked job.name) → ((job : Job) → Contains jobs job → Follows plan job) → IsUnder s plan rest
      → (t : Placing) × Obeys PlacesNext s (jobs_deeds plan.generation jobs) t × IsUnder t plan rest × (t.asked ≡ s.asked ++ all_rows plan.generation jobs)
  jobs_obey s [] names apart h under = (s, refl, under, sym (append-nil s.asked))
  jobs_obey s (job ∷ jobs) names apart h under =
      let one = job_obeys s job (apart job (in_here job jobs)) (h job (in_here job jobs)) under in
      let more = jobs_obey one.0 jobs names.1 (λ other there. still_apart_of plan.generation s one.0 job other one.3 (apart other (in_later job jobs other there)) (names.0 other there)) (λ other there. h other (in_later job jobs other there)) one.2 in (
        more.0,
        obeys_on s one.0 more.0 (job_deeds plan.generation job) (jobs_deeds plan.generation jobs) one.1 more.1,
        more.2,
        more.3 ∙ (ap (λ (rs : List Asking). rs ++ all_rows plan.generation jobs) one.3 ∙ append_assoc s.asked (rows_of plan.generation job.name job.visits) (all_rows plan.generation jobs)),
      )

  -- the visit that no memory cut short is of the next service
  cut_here : (s : Placing) (base : List Asking) (job : Job) (cut : List Deed) → IsApart base job.name → Follows plan job → s.asked ≡ base ++ rows_of plan.generation job.name job.visits → IsUnder s plan rest → (c : IsCutBehind plan job cut) → IsCut c.service plan.generation job.name cut
      → (t : Placing) × Obeys PlacesNext s cut t × IsUnder t plan rest
  cut_here s base job cut apart h asked under c (inl none) = (s, subst (λ (ds : List Deed). Obeys PlacesNext s ds s) (sym none) refl, under)
  cut_here s base job cut apart h asked under c (inr one) =
      let may = may_ask base job.name job.visits c.service apart (in_order plan job h) c.next c.wanted in
      let t = asked_state s c.service job.name false in (
        t,
        subst (λ (ds : List Deed). Obeys PlacesNext s ds t) (sym one) (t, (plan, rest, under, refl, subst (λ (rows : List Asking). MayAsk plan rows c.service job.name) (sym asked) may, refl), refl),
        inl (refl, refl),
      )

  pub cut_obeys : (s : Placing) (front : List Job) (job : Job) (cut : List Deed) → AreApart (front ++ job ∷ []) → ((other : Job) → Contains (front ++ job ∷ []) other → IsApart s.asked other.name) → ((other : Job) → Contains (front ++ job ∷ []) other → Follows plan other)
      → IsUnder s plan rest → IsCutBehind plan job cut → (t : Placing) × Obeys PlacesNext s (jobs_deeds plan.generation (front ++ job ∷ []) ++ cut) t × IsUnder t plan rest
  cut_obeys s [] job cut names apart h under c =
      let one = job_obeys s job (apart job (in_here job [])) (h job (in_here job [])) under in
      let more = cut_here one.0 s.asked job cut (apart job (in_here job [])) (h job (in_here job [])) one.3 one.2 c c.deeds in (
        more.0,
        obeys_on s one.0 more.0 (job_deeds plan.generation job ++ []) cut (subst (λ (ds : List Deed). Obeys PlacesNext s ds one.0) (sym (append-nil (job_deeds plan.generation job))) one.1) more.1,
        more.2,
      )
  cut_obeys s (first ∷ front) job cut names apart h under c =
      let one = job_obeys s first (apart first (in_here first (front ++ job ∷ []))) (h first (in_here first (front ++ job ∷ []))) under in
      let more = cut_obeys one.0 front job cut names.1 (λ other there. still_apart_of plan.generation s one.0 first other one.3 (apart other (in_later first (front ++ job ∷ []) other there)) (names.0 other there))
      (λ other there. h other (in_later first (front ++ job ∷ []) other there)) one.2 c in (
        more.0,
        subst (λ (ds : List Deed). Obeys PlacesNext s ds more.0) (sym (append_assoc (job_deeds plan.generation first) (jobs_deeds plan.generation (front ++ job ∷ [])) cut))
            (obeys_on s one.0 more.0 (job_deeds plan.generation first) (jobs_deeds plan.generation (front ++ job ∷ []) ++ cut) one.1 more.1),
        more.2,
      )

-- ---- the names of jobs differ

not_below : (x : Name) → name_cmp x x ≡ Less → ⊥
not_below x e = cc (sym e ∙ (nat_list_cmp_total.antisymm x.0 x.0 ∙ ap ordering_reverse e))

below_all : (x : Name) (xs : List Name) (y : Name) → AllByRecursion (λ z. name_cmp x z ≡ Less) xs → Contains xs y → name_cmp x y ≡ Less
below_all x [] y all there = absurd (in_none y there)
below_all x (z ∷ xs) y all there = elim (in_cases z xs y there) [ inl same ↦ subst (λ (w : Name). name_cmp x w ≡ Less) same all.0 | inr later ↦ below_all x xs y all.1 later ]

pub jobs_apart : (jobs : List Job) → IsStrictlySortedBy name_cmp (map (λ (job : Job). job.name) jobs) → AreApart jobs
unfolding IsStrictlySortedBy
jobs_apart [] h = tt
jobs_apart (job ∷ jobs) h = (
  λ other there is. not_below job.name (subst (λ (n : Name). name_cmp job.name n ≡ Less) is (below_all job.name (map (λ (j : Job). j.name) jobs) other.name h.0 (map_has (λ (j : Job). j.name) jobs other there))),
  jobs_apart jobs h.1,
)

all_front : (x : Name) (n : ℕ) (xs : List Name) → AllByRecursion (λ z. name_cmp x z ≡ Less) xs → AllByRecursion (λ z. name_cmp x z ≡ Less) (take n xs)
all_front x zero xs h = tt
all_front x (suc n) [] h = tt
all_front x (suc n) (y ∷ xs) h = (h.0, all_front x n xs h.1)

pub sorted_front : (n : ℕ) (xs : List Name) → IsStrictlySortedBy name_cmp xs → IsStrictlySortedBy name_cmp (take n xs)
unfolding IsStrictlySortedBy
sorted_front zero xs h = tt
sorted_front (suc n) [] h = tt
sorted_front (suc n) (x ∷ xs) h = (all_front x n xs h.0, sorted_front n xs h.1)
