-- What is placed is on enough services.
use Rattle.std.proofs.Common.{◌≡◌, ℕ, ◌+◌, ◌<◌, ◌≤◌, ◌==◌, ◌&&◌, ◌||◌, ◌⊎◌, inl, inr, Bool, true, false, not, List, [], ◌∷◌, Option, None, Result, Ok, Err, refl, sym, ap, ◌∙◌, subst, length, map, take, cond, count_by, sum_by, arith}
use Rattle.std.specs.Prelude.{Contains, IfOk, IsSome, ◌↔◌}
use Rattle.std.specs.List.Sorted.{IsPermutation}
use Rattle.std.proofs.Math.Seq.{take-length}
use Rattle.std.proofs.lemmas.Bool.{not-true}
use Rattle.std.proofs.lemmas.Bool.Decides.{nat_tests}
use Rattle.std.proofs.lemmas.List.{length-map}
use Rattle.std.proofs.lemmas.List.Elements.{All-contains}
use Rattle.std.proofs.lemmas.List.Recursion.{is_sum_by}
use Rattle.std.proofs.lemmas.List.Sorted.{sum_by-IsPermutation}
use Rattle.std.proofs.lemmas.List.Sums.{sum_by-take-le}
use Rattle.ms_base.specs.CountLaws.{count_cons}
use Rattle.ms_base.specs.Places.{in_cases, in_here, in_later, in_none}
use Rattle.ms_base.specs.declared.names.Name.{Name}
use Rattle.ms_base.specs.declared.names.ServiceId.{ServiceId}
use Rattle.ms_core.specs.Placing.{HoldsVersion, IsPlaced, OnEnough}
use Rattle.ms_core.specs.Views.{log_in}
use Rattle.ms_local.specs.Desks.{DeskView, OnTold, KnowsTold}
use Rattle.ms_local.specs.Truths.{Stores}
use Rattle.ms_object.specs.Stores.{StoreView, names_in, text_of}
use Rattle.ms_plan.specs.Mapping.{order_of, places_of, services_of}
use Rattle.ms_record.specs.declared.plan.PlanRow.{PlanRow}
use Rattle.ms_record.specs.declared.setting.Setting.{Setting}
use Rattle.ms_record.specs.Logs.{HasPut}
use Rattle.ms_record.specs.Plans.{PlanView}
use Rattle.ms_upload.specs.declared.store.Placed.{Placed}
use Rattle.ms_record.specs.declared.refusal.Refusal.{Refusal}
use Rattle.ms_upload.specs.declared.visit.Met.{Met}
use Rattle.ms_upload.specs.declared.visit.Met.TheVariants.{Present, Taken, AskFailed, PutFailed, AskStale, PutStale}
use Rattle.ms_upload.specs.Jobs.{AreFresh, Follows, IsDone, LacksPlaces}
use Rattle.ms_upload.specs.Placings.{AreOnEnough, Goes, Places}
use Rattle.ms_upload.specs.Visits.{Job, MetAt, Visit, accepted, accepts, counts_present, counts_put, did_accept, did_fail, fails, floor_in}

-- ---- tests

or_cases : (a b : Bool) → (a || b) ≡ true → (a ≡ true) ⊎ (b ≡ true)
or_cases true b e = inl refl
or_cases false b e = inr e

both_true : (a b : Bool) → (a && b) ≡ true → (a ≡ true) × (b ≡ true)
both_true true b e = (refl, e)
both_true false b e = absurd (cc e)

test_same : (s k : ℕ) → (s == k) ≡ true → s ≡ k
test_same s k e = grind (arith, nat_tests)

same_test : (s k : ℕ) → s ≡ k → (s == k) ≡ true
same_test s k e = grind (arith, nat_tests)

or_true : (b : Bool) → (b || true) ≡ true
or_true true = refl
or_true false = refl

or_none : (a b : Bool) → (a || b) ≡ false → (a ≡ false) × (b ≡ false)
or_none true b e = absurd (cc e)
or_none false b e = (refl, e)

and_false : (a b : Bool) → b ≡ true → (a && b) ≡ false → a ≡ false
and_false true b is e = absurd (let q : true ≡ false = sym is ∙ e in cc)
and_false false b is e = refl

-- ---- who accepted

pub accepted_by : (visits : List Visit) (s : ℕ) → did_accept visits s ≡ true → (v : Visit) × Contains visits v × (accepts v.met ≡ true) × (v.service.0 ≡ s)
accepted_by [] s e = absurd (cc e)
accepted_by (v ∷ visits) s e = elim (or_cases (accepts v.met && v.service.0 == s) (did_accept visits s) e) [
  | inl here ↦ (let p = both_true (accepts v.met) (v.service.0 == s) here in (v, in_here v visits, p.0, test_same v.service.0 s p.1))
  | inr later ↦ (let p = accepted_by visits s later in (p.0, in_later v visits p.0 p.1, p.2, p.3))
]

pub accepted_then : (visits : List Visit) (v : Visit) → Contains visits v → accepts v.met ≡ true → did_accept visits v.service.0 ≡ true
accepted_then [] v there is = absurd (in_none v there)
accepted_then (w ∷ visits) v there is = elim (in_cases w visits v there) [
  | inl same ↦
      ap (λ (x : Visit). (accepts x.met && x.service.0 == v.service.0) || did_accept visits v.service.0) same
      ∙ (ap (λ (b : Bool). (b && v.service.0 == v.service.0) || did_accept visits v.service.0) is ∙ ap (λ (b : Bool). b || did_accept visits v.service.0) (same_test v.service.0 v.service.0 refl))
  | inr later ↦ ap (λ (b : Bool). (accepts w.met && w.service.0 == v.service.0) || b) (accepted_then visits v later is) ∙ or_true (accepts w.met && w.service.0 == v.service.0)
]

counts_at_most : (met : Met) (b : Bool) → (accepts met ≡ true → b ≡ true) → counts_present met + counts_put met ≤ cond b 1 0
counts_at_most Present true h = omega arith
counts_at_most Present false h = absurd (cc (h refl))
counts_at_most Taken true h = omega arith
counts_at_most Taken false h = absurd (cc (h refl))
counts_at_most AskFailed true h = omega arith
counts_at_most AskFailed false h = omega arith
counts_at_most PutFailed true h = omega arith
counts_at_most PutFailed false h = omega arith
counts_at_most (AskStale floor) true h = omega arith
counts_at_most (AskStale floor) false h = omega arith
counts_at_most (PutStale floor) true h = omega arith
counts_at_most (PutStale floor) false h = omega arith

accepted_count : (part : ℕ → Bool) (visits : List Visit) → ((v : Visit) → Contains visits v → accepts v.met ≡ true → part v.service.0 ≡ true)
    → accepted visits ≤ count_by (λ (s : ServiceId). part s.0) (map (λ (v : Visit). v.service) visits)
accepted_count part [] h = omega arith
accepted_count part (v ∷ visits) h =
    omega (
      arith,
      count_cons (λ (s : ServiceId). part s.0) v.service (map (λ (w : Visit). w.service) visits),
      counts_at_most v.met (part v.service.0) (h v (in_here v visits)),
      accepted_count part visits (λ w there. h w (in_later v visits w there)),
    )

-- ---- counts over the plan

count_sum : {X : Type 0} (p : X → Bool) (xs : List X) → count_by p xs ≡ sum_by (λ x. cond (p x) 1 0) xs
count_sum p xs = is_sum_by (count_by p) (λ x. cond (p x) 1 0) refl (count_cons p) xs

pub count_map : {X Y : Type 0} (p : Y → Bool) (f : X → Y) (xs : List X) → count_by p (map f xs) ≡ count_by (λ x. p (f x)) xs
count_map p f [] = refl
count_map p f (x ∷ xs) = omega (arith, count_cons p (f x) (map f xs), count_cons (λ y. p (f y)) x xs, count_map p f xs)

count_front : {X : Type 0} (p : X → Bool) (xs : List X) (n : ℕ) → count_by p (take n xs) ≤ count_by p xs
count_front p xs n = omega (arith, count_sum p xs, count_sum p (take n xs), sum_by-take-le (λ x. cond (p x) 1 0) xs n)

pub count_same : {X : Type 0} (p : X → Bool) (xs ys : List X) → IsPermutation xs ys → count_by p ys ≡ count_by p xs
count_same p xs ys same = count_sum p ys ∙ (sum_by-IsPermutation (λ x. cond (p x) 1 0) xs ys same ∙ sym (count_sum p xs))

count_rows : (plan : PlanView) (name : Name) (part : ℕ → Bool) → IsPermutation (services_of plan) (order_of plan name)
    → count_by (λ (row : PlanRow). part row.service.0) plan.rows ≡ count_by (λ (s : ServiceId). part s.0) (order_of plan name)
count_rows plan name part same =
    sym (count_same (λ (s : ServiceId). part s.0) (services_of plan) (order_of plan name) same ∙ count_map (λ (s : ServiceId). part s.0) (λ (row : PlanRow). row.service) plan.rows)

stored : (old new : DeskView) (s generation : ℕ) (name : Name) (met : Met) → accepts met ≡ true → MetAt old new s generation name met → Stores old new s generation name
stored old new s generation name Present e is = is
stored old new s generation name Taken e is = is
stored old new s generation name met e is = absurd (cc e)

pub job_count : (plan : PlanView) (job : Job) → IsPermutation (services_of plan) (order_of plan job.name) → Follows plan job → IsDone plan job → plan.replicas ≤ count_by (λ (row : PlanRow). did_accept job.visits row.service.0) plan.rows
job_count plan job same follows done =
    let front : count_by (λ (s : ServiceId). did_accept job.visits s.0) (map (λ (v : Visit). v.service) job.visits) ≡ count_by (λ (s : ServiceId). did_accept job.visits s.0) (take (length job.visits) (order_of plan job.name)) =
    ap (count_by (λ (s : ServiceId). did_accept job.visits s.0)) follows.order in
    omega (
      arith,
      done,
      accepted_count (did_accept job.visits) job.visits (accepted_then job.visits),
      front,
      count_front (λ (s : ServiceId). did_accept job.visits s.0) (order_of plan job.name) (length job.visits),
      count_rows plan job.name (did_accept job.visits) same,
    )

pub job_enough : (plan : PlanView) (old new : DeskView) (job : Job) (setting : Setting) → IsPermutation (services_of plan) (order_of plan job.name) → Goes plan old new job → IsDone plan job → KnowsTold old setting
    → OnEnough (λ s. HasPut (log_in new.pass.lists s) plan.generation job.name) plan
job_enough plan old new job setting same goes done known = record {
  part = did_accept job.visits;
  have = λ s did.
      let p = accepted_by job.visits s did in
      subst (λ (n : ℕ). HasPut (log_in new.pass.lists n) plan.generation job.name) p.3
      (stored old new p.0.service.0 plan.generation job.name p.0.met p.2 (goes.met p.0 p.1) setting known);
  enough = job_count plan job same goes.follows done;
}

pub job_named : (jobs : List Job) (name : Name) → Contains (map (λ (job : Job). job.name) jobs) name → (job : Job) × Contains jobs job × (job.name ≡ name)
job_named [] name there = absurd (in_none name there)
job_named (job ∷ jobs) name there = elim (in_cases job.name (map (λ (j : Job). j.name) jobs) name there) [
  | inl same ↦ (job, in_here job jobs, same)
  | inr later ↦ (let p = job_named jobs name later in (p.0, in_later job jobs p.0 p.1, p.2))
]

pub all_enough : (plan : PlanView) (objects : StoreView) (old new : DeskView) (result : Result Placed Refusal) → ((name : Name) → IsPermutation (services_of plan) (order_of plan name)) → Places plan objects old new result
    → OnTold old (IfOk result (λ placed. AreOnEnough plan objects new))
all_enough plan objects old new (Ok placed) same h = λ setting known name there.
    let names : map (λ (job : Job). job.name) h.jobs ≡ names_in objects = h.names ∙ (ap (λ (n : ℕ). take n (names_in objects)) h.answer.1 ∙ take-length (names_in objects)) in
    let p = job_named h.jobs name (subst (λ (xs : List Name). Contains xs name) (sym names) there) in
    subst (λ (n : Name). OnEnough (λ s. HasPut (log_in new.pass.lists s) plan.generation n) plan) p.2
    (job_enough plan old new p.0 setting (same p.0.name) (All-contains (Goes plan old new) h.jobs p.0 h.goes p.1) (All-contains (IsDone plan) h.jobs p.0 h.answer.2 p.1) known)
all_enough plan objects old new (Err error) same h = λ setting known. tt

-- the objects of a version are placed where those of the store are
pub all_placed : (plan : PlanView) (objects : StoreView) (old new : DeskView) (version : Name) (result : Result Placed Refusal) → ((name : Name) → Contains (names_in objects) name ↔ IsSome (text_of objects name.0))
    → HoldsVersion plan.format (text_of objects) version → OnTold old (IfOk result (λ placed. AreOnEnough plan objects new)) → OnTold old (IfOk result (λ placed. IsPlaced (log_in new.pass.lists) plan version))
all_placed plan objects old new version (Ok placed) there holds enough = λ setting known. record {
  store = text_of objects;
  holds = holds;
  put = λ name text is. enough setting known name ((there name).1 (subst (λ (o : Option (List ℕ)). IsSome o) (sym is) refl));
}
all_placed plan objects old new version (Err error) there holds enough = λ setting known. tt

count_all : {X : Type 0} (xs : List X) → count_by (λ x. true) xs ≡ length xs
count_all [] = refl
count_all (x ∷ xs) = omega (arith, count_cons (λ y. true) x xs, count_all xs)

permuted_length : (plan : PlanView) (name : Name) → IsPermutation (services_of plan) (order_of plan name) → length (order_of plan name) ≡ length plan.rows
permuted_length plan name same =
    sym (count_all (order_of plan name)) ∙ (count_same (λ (s : ServiceId). true) (services_of plan) (order_of plan name) same ∙ (count_all (services_of plan) ∙ length-map plan.rows (λ (row : PlanRow). row.service)))

-- ---- without a fault, and with too few services

did_none : (v : Visit) (visits : List Visit) (s : ℕ) → did_fail (v ∷ visits) s ≡ false → ((fails v.met && v.service.0 == s) ≡ false) × (did_fail visits s ≡ false)
did_none v visits s e = or_none (fails v.met && v.service.0 == s) (did_fail visits s) e

one_unless : (met : Met) → fails met ≡ false → floor_in met ≡ None → counts_present met + counts_put met ≡ 1
one_unless Present e n = omega arith
one_unless Taken e n = omega arith
one_unless AskFailed e n = absurd (cc e)
one_unless PutFailed e n = absurd (cc e)
one_unless (AskStale floor) e n = absurd (cc n)
one_unless (PutStale floor) e n = absurd (cc n)

own_fails : (v : Visit) → (fails v.met && v.service.0 == v.service.0) ≡ false → fails v.met ≡ false
own_fails v e = and_false (fails v.met) (v.service.0 == v.service.0) (same_test v.service.0 v.service.0 refl) e

all_accepted : (visits : List Visit) → ((v : Visit) → Contains visits v → fails v.met ≡ false) → ((v : Visit) → Contains visits v → floor_in v.met ≡ None) → accepted visits ≡ length visits
all_accepted [] h fresh = omega arith
all_accepted (v ∷ visits) h fresh =
    omega (arith, one_unless v.met (h v (in_here v visits)) (fresh v (in_here v visits)), all_accepted visits (λ w there. h w (in_later v visits w there)) (λ w there. fresh w (in_later v visits w there)))

not_failing : (visits : List Visit) (v : Visit) → Contains visits v → did_fail visits v.service.0 ≡ false → fails v.met ≡ false
not_failing [] v there e = absurd (in_none v there)
not_failing (w ∷ visits) v there e = elim (in_cases w visits v there) [
  | inl same ↦ own_fails v (subst (λ (x : Visit). (fails x.met && x.service.0 == v.service.0) ≡ false) same (did_none w visits v.service.0 e).0)
  | inr later ↦ not_failing visits v later (did_none w visits v.service.0 e).1
]

pub exact_places : (plan : PlanView) (job : Job) → Follows plan job → IsDone plan job → AreFresh job.visits → ((s : ℕ) → did_fail job.visits s ≡ false) → map (λ (v : Visit). v.service) job.visits ≡ places_of plan job.name
exact_places plan job h done fresh none =
    let many : length job.visits ≡ plan.replicas = omega (arith, done, all_accepted job.visits (λ v there. not_failing job.visits v there (none v.service.0)) fresh) in
    h.order ∙ ap (λ (n : ℕ). take n (order_of plan job.name)) many

counts_unless : (met : Met) (b : Bool) → (b ≡ true → fails met ≡ false) → floor_in met ≡ None → cond b 1 0 ≤ counts_present met + counts_put met
counts_unless met true h none = omega (arith, one_unless met (h refl) none)
counts_unless met false h none = omega arith

others_accepted : (part : ℕ → Bool) (visits : List Visit) → ((v : Visit) → Contains visits v → part v.service.0 ≡ true → fails v.met ≡ false) → ((v : Visit) → Contains visits v → floor_in v.met ≡ None)
    → count_by (λ (s : ServiceId). part s.0) (map (λ (v : Visit). v.service) visits) ≤ accepted visits
others_accepted part [] h fresh = omega arith
others_accepted part (v ∷ visits) h fresh =
    omega (
      arith,
      count_cons (λ (s : ServiceId). part s.0) v.service (map (λ (w : Visit). w.service) visits),
      counts_unless v.met (part v.service.0) (h v (in_here v visits)) (fresh v (in_here v visits)),
      others_accepted part visits (λ w there. h w (in_later v visits w there)) (λ w there. fresh w (in_later v visits w there)),
    )

pub few_others : (plan : PlanView) (job : Job) (failed : List ℕ) → IsPermutation (services_of plan) (order_of plan job.name) → Follows plan job → LacksPlaces plan job failed
    → count_by (λ (row : PlanRow). not (did_fail job.visits row.service.0)) plan.rows < plan.replicas
few_others plan job failed same h lacks =
    let part : ℕ → Bool = λ s. not (did_fail job.visits s) in
    let wide : length (order_of plan job.name) ≡ length job.visits = permuted_length plan job.name same ∙ sym lacks.all in
    let visited : map (λ (v : Visit). v.service) job.visits ≡ order_of plan job.name = h.order ∙ (ap (λ (n : ℕ). take n (order_of plan job.name)) (sym wide) ∙ take-length (order_of plan job.name)) in
    omega (
      arith,
      count_rows plan job.name part same,
      ap (count_by (λ (s : ServiceId). part s.0)) visited,
      others_accepted part job.visits (λ v there e. not_failing job.visits v there (not-true (did_fail job.visits v.service.0) e)) lacks.fresh,
      lacks.few,
    )
