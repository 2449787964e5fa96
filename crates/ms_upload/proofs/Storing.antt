-- How the jobs of a store go on.
use Rattle.std.proofs.Common.{◌≡◌, ℕ, ◌+◌, ◌<◌, ◌≤◌, inl, inr, true, false, List, [], ◌∷◌, ◌++◌, Some, Result, Ok, Err, refl, sym, ap, ◌∙◌, subst, length, map, take, slice_get, slice_index_or, append_assoc, arith}
use Rattle.std.specs.Prelude.{All, Contains}
use Rattle.std.specs.List.{flat_map}
use Rattle.std.proofs.lemmas.Grind.{flat_map-append}
use Rattle.std.proofs.lemmas.List.{append-nil, append_cancel_left, length-append, map-append}
use Rattle.std.proofs.lemmas.List.Elements.{All-append, All-contains, Contains-append_left, Contains-append_right}
use Rattle.ms_base.specs.Places.{all_from, in_cases, in_here, in_later, in_none, take_next}
use Rattle.std.proofs.lemmas.Option.{slice_get-get_or}
use Rattle.ms_base.specs.declared.bytes.NoMemory.{NoMemory as BaseNoMemory}
use Rattle.ms_base.specs.declared.names.Name.{Name}
use Rattle.ms_base.specs.declared.names.ServiceId.{ServiceId}
use Rattle.ms_core.specs.Views.{log_in}
use Rattle.ms_local.specs.declared.deed.Deed.{Deed}
use Rattle.ms_local.specs.declared.objects.Miss.TheVariants.{Failed, Stale}
use Rattle.ms_local.specs.Desks.{DeskView, OnTold}
use Rattle.ms_local.specs.Truths.{IsTrueDeed}
use Rattle.ms_object.specs.Stores.{StoreView, names_in}
use Rattle.ms_record.specs.declared.log.LogEvent.TheVariants.{Drop}
use Rattle.ms_record.specs.Plans.{PlanView}
use Rattle.ms_upload.specs.declared.store.Placed.{Placed}
use Rattle.ms_record.specs.declared.refusal.Refusal.{Refusal}
use Rattle.ms_record.specs.declared.refusal.Refusal.TheVariants.{Collected, NoMemory, TooFew}
use Rattle.ms_upload.specs.declared.visit.Met.{Met}
use Rattle.ms_upload.specs.declared.visit.Met.TheVariants.{Present, Taken, AskFailed, PutFailed, AskStale, PutStale}
use Rattle.ms_upload.specs.declared.placing.End.TheVariants.{Done, Stale as EndStale, TooFew as EndTooFew}
use Rattle.ms_upload.specs.Jobs.{AreBelow, EndsStale, Follows, IsCutBehind, IsDone, LacksPlaces, PlacesOne, Visited}
use Rattle.ms_local.specs.Laying.{Lays}
use Rattle.ms_upload.specs.Placings.{Answers, FirstUndone, Goes, PlacedTo, Places, all_present, all_puts, jobs_deeds}
use Rattle.ms_upload.specs.Visits.{Job, MetAt, Visit, asked_deed, counts_present, counts_put, floor_in, job_deeds, met_deeds, present_in, put_deed, puts_in, visit_deeds}

all_none : {X : Type 0} (P : X → Type 0) → All P []
all_none P = all_from P [] (λ x there. absurd (in_none x there))

all_one : {X : Type 0} (P : X → Type 0) (x : X) → P x → All P (x ∷ [])
all_one P x is = all_from P (x ∷ []) (λ y there. elim (in_cases x [] y there) [ inl same ↦ subst P same is | inr later ↦ absurd (in_none y later) ])

-- ---- what deeds show of a visit

met_true : (old new : DeskView) (s : ServiceId) (generation : ℕ) (name : Name) (met : Met) → ((deed : Deed) → Contains (met_deeds s generation name met) deed → IsTrueDeed old new deed) → MetAt old new s.0 generation name met
met_true old new s generation name Present each = each (asked_deed s generation name (Ok true)) (in_here _ [])
met_true old new s generation name Taken each = each (put_deed s generation name (Ok tt)) (in_later (asked_deed s generation name (Ok false)) (put_deed s generation name (Ok tt) ∷ []) (put_deed s generation name (Ok tt)) (in_here (put_deed s generation name (Ok tt)) []))
met_true old new s generation name AskFailed each = each (asked_deed s generation name (Err Failed)) (in_here _ [])
met_true old new s generation name PutFailed each = each (put_deed s generation name (Err Failed)) (in_later (asked_deed s generation name (Ok false)) (put_deed s generation name (Err Failed) ∷ []) (put_deed s generation name (Err Failed)) (in_here (put_deed s generation name (Err Failed)) []))
met_true old new s generation name (AskStale floor) each = each (asked_deed s generation name (Err (Stale floor))) (in_here _ [])
met_true old new s generation name (PutStale floor) each = each (put_deed s generation name (Err (Stale floor))) (in_later (asked_deed s generation name (Ok false)) (put_deed s generation name (Err (Stale floor)) ∷ []) (put_deed s generation name (Err (Stale floor))) (in_here (put_deed s generation name (Err (Stale floor))) []))

stale_true : (old new : DeskView) (s generation : ℕ) (name : Name) (met : Met) (floor : ℕ) → floor_in met ≡ Some floor → MetAt old new s generation name met → (generation < floor) × OnTold old (Contains (log_in new.pass.lists s) (Drop floor))
stale_true old new s generation name (AskStale other) floor e is = subst (λ (n : ℕ). (generation < n) × OnTold old (Contains (log_in new.pass.lists s) (Drop n))) (let q : other ≡ floor = cc e in q) is
stale_true old new s generation name (PutStale other) floor e is = subst (λ (n : ℕ). (generation < n) × OnTold old (Contains (log_in new.pass.lists s) (Drop n))) (let q : other ≡ floor = cc e in q) is
stale_true old new s generation name met floor e is = absurd (cc e)

pub flat_has : {X Y : Type 0} (f : X → List Y) (xs : List X) (x : X) (y : Y) → Contains xs x → Contains (f x) y → Contains (flat_map f xs) y
flat_has f [] x y there is = absurd (in_none x there)
flat_has f (z ∷ xs) x y there is = elim (in_cases z xs x there) [
  | inl same ↦ Contains-append_left (f z) (flat_map f xs) y (subst (λ w. Contains (f w) y) (sym same) is)
  | inr later ↦ Contains-append_right (f z) (flat_map f xs) y (flat_has f xs x y later is)
]

-- the deeds that were laid are true
laid_true : (old new : DeskView) (deeds : List Deed) → Lays old new deeds → (deed : Deed) → Contains deeds deed → IsTrueDeed old new deed
laid_true old new deeds h deed there =
    h.truths.each deed (subst (λ (xs : List Deed). Contains xs deed) (append_cancel_left old.deeds deeds h.truths.deeds (sym h.grows ∙ h.truths.grows)) there)

pub goes_all : (plan : PlanView) (old new : DeskView) (jobs : List Job) (cut : List Deed) → All (Follows plan) jobs → Lays old new (jobs_deeds plan.generation jobs ++ cut) → All (Goes plan old new) jobs
goes_all plan old new jobs cut follows lays = all_from (Goes plan old new) jobs (λ job there. record {
  follows = All-contains (Follows plan) jobs job follows there;
  met = λ v has.
      met_true old new v.service plan.generation job.name v.met (λ deed is.
      laid_true old new (jobs_deeds plan.generation jobs ++ cut) lays deed
      (Contains-append_left (jobs_deeds plan.generation jobs) cut deed
      (flat_has (job_deeds plan.generation) jobs job deed there (flat_has (visit_deeds plan.generation job.name) job.visits v deed has is))));
})

-- ---- counts

counts_fit : (s : ServiceId) (generation : ℕ) (name : Name) (met : Met) → counts_present met + counts_put met ≤ length (met_deeds s generation name met)
counts_fit s generation name Present = omega arith
counts_fit s generation name Taken = omega arith
counts_fit s generation name AskFailed = omega arith
counts_fit s generation name PutFailed = omega arith
counts_fit s generation name (AskStale floor) = omega arith
counts_fit s generation name (PutStale floor) = omega arith

visits_fit : (generation : ℕ) (name : Name) (visits : List Visit) → present_in visits + puts_in visits ≤ length (flat_map (visit_deeds generation name) visits)
visits_fit generation name [] = omega arith
visits_fit generation name (v ∷ visits) =
    omega (arith, length-append (visit_deeds generation name v) (flat_map (visit_deeds generation name) visits), counts_fit v.service generation name v.met, visits_fit generation name visits)

jobs_fit : (generation : ℕ) (jobs : List Job) → all_present jobs + all_puts jobs ≤ length (jobs_deeds generation jobs)
jobs_fit generation [] = omega arith
jobs_fit generation (job ∷ jobs) =
    omega (arith, length-append (job_deeds generation job) (jobs_deeds generation jobs), visits_fit generation job.name job.visits, jobs_fit generation jobs)

all_present_one : (jobs : List Job) (job : Job) → all_present (jobs ++ job ∷ []) ≡ all_present jobs + present_in job.visits
all_present_one [] job = omega arith
all_present_one (other ∷ jobs) job = omega (arith, all_present_one jobs job)

all_puts_one : (jobs : List Job) (job : Job) → all_puts (jobs ++ job ∷ []) ≡ all_puts jobs + puts_in job.visits
all_puts_one [] job = omega arith
all_puts_one (other ∷ jobs) job = omega (arith, all_puts_one jobs job)

-- ---- jobs

pub placed_none : (plan : PlanView) (names : List Name) (desk : DeskView) (placed : Placed) → placed.present ≡ 0 → placed.puts ≡ 0 → Lays desk desk [] → PlacedTo plan names desk desk 0 placed
placed_none plan names desk placed present puts lays = record {
  jobs = [];
  many = refl;
  names_are = refl;
  follows = all_none (Follows plan);
  done = all_none (IsDone plan);
  lays = lays;
  present = present;
  puts = puts;
}

pub unplaced_none : (plan : PlanView) (objects : StoreView) (desk : DeskView) → Lays desk desk [] → Places plan objects desk desk (Err NoMemory)
unplaced_none plan objects desk lays = record { jobs = []; cut = []; names = refl; goes = all_none (Goes plan desk desk); lays = lays; answer = inl refl }

module _ (plan : PlanView) (objects : StoreView) (old mid : DeskView) (place : ℕ) (placed : Placed) (h : PlacedTo plan (names_in objects) old mid place placed) where
  pub placed_all : place ≡ length (names_in objects) → Places plan objects old mid (Ok placed)
  placed_all all =
      let lays : Lays old mid (jobs_deeds plan.generation h.jobs ++ []) = subst (Lays old mid) (sym (append-nil (jobs_deeds plan.generation h.jobs))) h.lays in
      record {
        jobs = h.jobs;
        cut = [];
        names = h.names_are ∙ ap (λ (n : ℕ). take n (names_in objects)) (sym h.many);
        goes = goes_all plan old mid h.jobs [] h.follows lays;
        lays = lays;
        answer = (refl, h.many ∙ all, h.done, h.present, h.puts);
      }

  module _ (new : DeskView) (name : Name) (cut : List Deed) (v : Visited plan name mid new cut) (on : (old mid new : DeskView) (deeds more : List Deed) → Lays old mid deeds → Lays mid new more → Lays old new (deeds ++ more))
      (next : slice_get (names_in objects) place ≡ Some name) where
    abbrev jobs_next : List Job
    jobs_next = h.jobs ++ v.job ∷ []

    many_next : length (h.jobs ++ v.job ∷ []) ≡ place + 1
    many_next = omega (arith, length-append h.jobs (v.job ∷ []), h.many)

    names_next : map (λ (job : Job). job.name) (h.jobs ++ v.job ∷ []) ≡ take (place + 1) (names_in objects)
    names_next =
        map-append (λ (job : Job). job.name) h.jobs (v.job ∷ [])
        ∙ (ap (λ (xs : List Name). xs ++ v.job.name ∷ []) h.names_are
        ∙ (ap (λ (n : Name). take place (names_in objects) ++ n ∷ []) v.name_is ∙ sym (take_next (names_in objects) place name next)))

    all_next : All (Follows plan) (h.jobs ++ v.job ∷ [])
    all_next = All-append (Follows plan) h.jobs (v.job ∷ []) h.follows (all_one (Follows plan) v.job v.follows)

    deeds_next : jobs_deeds plan.generation h.jobs ++ (job_deeds plan.generation v.job ++ cut) ≡ jobs_deeds plan.generation (h.jobs ++ v.job ∷ []) ++ cut
    deeds_next =
        sym (append_assoc (jobs_deeds plan.generation h.jobs) (job_deeds plan.generation v.job) cut)
        ∙ ap (λ (xs : List Deed). xs ++ cut)
        (ap (λ (xs : List Deed). jobs_deeds plan.generation h.jobs ++ xs) (sym (append-nil (job_deeds plan.generation v.job))) ∙ sym (flat_map-append (job_deeds plan.generation) h.jobs (v.job ∷ [])))

    lays_next : Lays old new (jobs_deeds plan.generation (h.jobs ++ v.job ∷ []) ++ cut)
    lays_next = subst (Lays old new) deeds_next (on old mid new (jobs_deeds plan.generation h.jobs) (job_deeds plan.generation v.job ++ cut) h.lays v.lays)

    names_all : map (λ (job : Job). job.name) (h.jobs ++ v.job ∷ []) ≡ take (length (h.jobs ++ v.job ∷ [])) (names_in objects)
    names_all = names_next ∙ ap (λ (n : ℕ). take n (names_in objects)) (sym many_next)

    abbrev pub first_here : FirstUndone plan (h.jobs ++ v.job ∷ [])
    first_here = record { front = h.jobs; job = v.job; back = []; jobs_are = refl; done = h.done }

    pub places_by : (result : Result Placed Refusal) → Answers plan objects old new (h.jobs ++ v.job ∷ []) cut result → Places plan objects old new result
    places_by result answer = record { jobs = h.jobs ++ v.job ∷ []; cut = cut; names = names_all; goes = goes_all plan old new (h.jobs ++ v.job ∷ []) cut all_next lays_next; lays = lays_next; answer = answer }

    pub placed_cut : IsCutBehind plan v.job cut → Places plan objects old new (Err NoMemory)
    placed_cut is = places_by (Err NoMemory) (inr (h.jobs, v.job, refl, is))

    pub placed_few : cut ≡ [] → (failed : List ℕ) → LacksPlaces plan v.job failed → Places plan objects old new (Err (TooFew name failed))
    placed_few none failed lacks = places_by (Err (TooFew name failed)) (none, first_here, sym v.name_is, lacks)

    pub placed_stale : cut ≡ [] → (floor : ℕ) → EndsStale v.job floor → Places plan objects old new (Err (Collected floor))
    placed_stale none floor ends =
        let goes = goes_all plan old new (h.jobs ++ v.job ∷ []) cut all_next lays_next in
        let job = All-contains (Goes plan old new) (h.jobs ++ v.job ∷ []) v.job goes (Contains-append_right h.jobs (v.job ∷ []) v.job (in_here v.job [])) in
        let met = job.met ends.last (subst (λ (xs : List Visit). Contains xs ends.last) (sym ends.visits) (Contains-append_right ends.front (ends.last ∷ []) ends.last (in_here ends.last []))) in
        let shown = stale_true old new ends.last.service.0 plan.generation v.job.name ends.last.met floor ends.shown met in
        places_by (Err (Collected floor)) (none, first_here, ends, shown.0, λ setting known. (ends.last.service.0, shown.1 setting known))

    pub placed_next : cut ≡ [] → IsDone plan v.job → (placed' : Placed) → placed'.present ≡ placed.present + present_in v.job.visits → placed'.puts ≡ placed.puts + puts_in v.job.visits
        → PlacedTo plan (names_in objects) old new (place + 1) placed'
    placed_next none is placed' present puts = record {
      jobs = h.jobs ++ v.job ∷ [];
      many = many_next;
      names_are = names_next;
      follows = all_next;
      done = All-append (IsDone plan) h.jobs (v.job ∷ []) h.done (all_one (IsDone plan) v.job is);
      lays = subst (Lays old new) (ap (λ (xs : List Deed). jobs_deeds plan.generation (h.jobs ++ v.job ∷ []) ++ xs) none ∙ append-nil (jobs_deeds plan.generation (h.jobs ++ v.job ∷ []))) lays_next;
      present = omega (arith, present, h.present, all_present_one h.jobs v.job);
      puts = omega (arith, puts, h.puts, all_puts_one h.jobs v.job);
    }

    -- what is counted is no more than the deeds
    pub sums_fit : placed.present + present_in v.job.visits + (placed.puts + puts_in v.job.visits) ≤ length new.deeds
    sums_fit =
        omega (
          arith,
          ap length lays_next.grows,
          length-append old.deeds (jobs_deeds plan.generation (h.jobs ++ v.job ∷ []) ++ cut),
          length-append (jobs_deeds plan.generation (h.jobs ++ v.job ∷ [])) cut,
          jobs_fit plan.generation (h.jobs ++ v.job ∷ []),
          all_present_one h.jobs v.job,
          all_puts_one h.jobs v.job,
          h.present,
          h.puts,
        )

-- the name at a place
pub next_name : (slice names : List Name) (place : ℕ) (d : Name) → slice ≡ names → place < length slice → slice_get names place ≡ Some (slice_index_or slice place d)
next_name slice names place d same lt = ap (λ (xs : List Name). slice_get xs place) (sym same) ∙ slice_get-get_or slice place d lt

pub below_later : (plan : PlanView) (old new : DeskView) (deeds : List Deed) → Lays old new deeds → AreBelow plan old.services → AreBelow plan new.services
below_later plan old new deeds h below = subst (AreBelow plan) (sym (ap (λ (d : DeskView). d.services) h.effect.same)) below

module _ (plan : PlanView) (objects : StoreView) (old mid new : DeskView) (place : ℕ) (placed : Placed) (h : PlacedTo plan (names_in objects) old mid place placed)
    (on : (old mid new : DeskView) (deeds more : List Deed) → Lays old mid deeds → Lays mid new more → Lays old new (deeds ++ more)) (name : Name) (next : slice_get (names_in objects) place ≡ Some name) where
  pub ends_cut : (error : BaseNoMemory) → PlacesOne plan name mid new (Err error) → Places plan objects old new (Err NoMemory)
  ends_cut error e = placed_cut plan objects old mid place placed h new name e.0 e.1 on next e.2

  pub ends_few : (failed : List ℕ) → PlacesOne plan name mid new (Ok (EndTooFew failed)) → Places plan objects old new (Err (TooFew name failed))
  ends_few failed e = placed_few plan objects old mid place placed h new name [] e.0 on next refl failed e.1

  pub ends_stale : (floor : ℕ) → PlacesOne plan name mid new (Ok (EndStale floor)) → Places plan objects old new (Err (Collected floor))
  ends_stale floor e = placed_stale plan objects old mid place placed h new name [] e.0 on next refl floor e.1

  pub ends_done : (present puts : ℕ) → PlacesOne plan name mid new (Ok (Done present puts)) → PlacedTo plan (names_in objects) old new (place + 1) (record { puts = placed.puts + puts; present = placed.present + present })
  ends_done present puts e =
      placed_next plan objects old mid place placed h new name [] e.0 on next refl e.1 (record { puts = placed.puts + puts; present = placed.present + present }) (ap (λ (n : ℕ). placed.present + n) e.2) (ap (λ (n : ℕ). placed.puts + n) e.3)

  pub ends_fit : (present puts : ℕ) → PlacesOne plan name mid new (Ok (Done present puts)) → placed.present + present + (placed.puts + puts) ≤ length new.deeds
  ends_fit present puts e = omega (arith, sums_fit plan objects old mid place placed h new name [] e.0 on next, e.2, e.3)
