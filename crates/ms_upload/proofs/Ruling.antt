-- Placing keeps the rule of placing.
use Rattle.std.proofs.Common.{◌≡◌, ◌≢◌, ◌⊎◌, ℕ, inl, inr, true, false, List, [], ◌∷◌, ◌++◌, Some, None, Result, Ok, Err, refl, sym, ap, ◌∙◌, subst, length, map, take}
use Rattle.std.specs.Prelude.{All, Contains, IfOk}
use Rattle.std.specs.List.{flat_map}
use Rattle.std.specs.List.Sorted.{IsPermutation, IsStrictlySortedBy}
use Rattle.std.proofs.Math.Seq.{take-length}
use Rattle.std.proofs.lemmas.List.{append-nil}
use Rattle.std.proofs.lemmas.List.Elements.{All-contains, Contains-append_cases}
use Rattle.ms_base.specs.Places.{in_cases, in_here, in_later, in_none, map_has}
use Rattle.ms_base.specs.declared.names.Name.{Name}
use Rattle.ms_core.specs.Placing.{OnEnough}
use Rattle.ms_base.specs.declared.names.ServiceId.{ServiceId}
use Rattle.ms_local.specs.declared.deed.Deed.{Deed}
use Rattle.ms_local.specs.declared.deed.Deed.TheVariants.{Asked, Put}
use Rattle.ms_local.specs.declared.objects.Miss.TheVariants.{Failed, Stale}
use Rattle.ms_local.specs.Desks.{DeskView}
use Rattle.ms_local.specs.Placing.{Asking, HasAccepted, IsUnder, Obeys, Placing, PlacesNext, Purpose, asking_of}
use Rattle.ms_object.specs.Stores.{StoreView, name_cmp, names_in}
use Rattle.ms_plan.specs.Mapping.{order_of, services_of}
use Rattle.ms_record.specs.Plans.{IsPlan, PlanView}
use Rattle.ms_upload.specs.declared.store.Placed.{Placed}
use Rattle.ms_record.specs.declared.refusal.Refusal.{Refusal}
use Rattle.ms_record.specs.declared.refusal.Refusal.TheVariants.{Broken, Collected, Contended, LocalDamaged, Limit, LostObject, NoMajority, NoMemory, NotEnabled, OutsideFault, BadInput, Split, TooFew, Unlisted, Usage}
use Rattle.ms_upload.specs.Jobs.{Follows, IsCutBehind, IsDone}
use Rattle.ms_upload.specs.declared.visit.Met.{Met}
use Rattle.ms_upload.specs.declared.visit.Met.TheVariants.{Present, Taken, AskFailed, PutFailed, AskStale, PutStale}
use Rattle.ms_upload.specs.Placings.{Goes, KeepsPlacing, Places, jobs_deeds}
use Rattle.ms_upload.specs.Visits.{Job, asked_deed, did_accept, job_deeds, met_deeds, put_deed, visit_deeds}
use Rattle.ms_upload.proofs.Enough.{accepted_by, job_count, job_named}
use Rattle.ms_upload.proofs.Obeying.{AreApart, IsApart, all_rows, cut_obeys, jobs_apart, jobs_obey, row_of, rows_of, sorted_front}
use Rattle.ms_upload.proofs.Storing.{flat_has}

-- a deed of placing
abbrev IsPlacingDeed : Deed → Type 0
IsPlacingDeed (Asked service generation name present ok floor) = Unit {0}
IsPlacingDeed (Put service generation name ok floor) = Unit {0}
IsPlacingDeed deed = ⊥

-- ---- a placing has begun with its first deed

some_none : {X : Type 0} (x : X) → Some x ≡ None → ⊥
some_none x e = cc e

none_ends : {X : Type 0} (xs : List X) (x : X) → xs ++ x ∷ [] ≡ [] → ⊥
none_ends [] x e = cc e
none_ends (y ∷ xs) x e = cc e

one_object : (d deed : Deed) → IsPlacingDeed d → Contains (d ∷ []) deed → IsPlacingDeed deed
one_object d deed is there = elim (in_cases d [] deed there) [ inl same ↦ subst IsPlacingDeed same is | inr later ↦ absurd (in_none deed later) ]

two_objects : (d e deed : Deed) → IsPlacingDeed d → IsPlacingDeed e → Contains (d ∷ e ∷ []) deed → IsPlacingDeed deed
two_objects d e deed is also there = elim (in_cases d (e ∷ []) deed there) [ inl same ↦ subst IsPlacingDeed same is | inr later ↦ one_object e deed also later ]

met_objects : (s : ServiceId) (generation : ℕ) (name : Name) (met : Met) (deed : Deed) → Contains (met_deeds s generation name met) deed → IsPlacingDeed deed
met_objects s generation name Present deed there = one_object (asked_deed s generation name (Ok true)) deed tt there
met_objects s generation name AskFailed deed there = one_object (asked_deed s generation name (Err Failed)) deed tt there
met_objects s generation name (AskStale floor) deed there = one_object (asked_deed s generation name (Err (Stale floor))) deed tt there
met_objects s generation name Taken deed there = two_objects (asked_deed s generation name (Ok false)) (put_deed s generation name (Ok tt)) deed tt tt there
met_objects s generation name PutFailed deed there = two_objects (asked_deed s generation name (Ok false)) (put_deed s generation name (Err Failed)) deed tt tt there
met_objects s generation name (PutStale floor) deed there = two_objects (asked_deed s generation name (Ok false)) (put_deed s generation name (Err (Stale floor))) deed tt tt there

flat_from : {X Y : Type 0} (f : X → List Y) (xs : List X) (y : Y) → Contains (flat_map f xs) y → (x : X) × Contains (f x) y
flat_from f [] y there = absurd (in_none y there)
flat_from f (x ∷ xs) y there = elim (Contains-append_cases (f x) (flat_map f xs) y there) [ inl here ↦ (x, here) | inr later ↦ flat_from f xs y later ]

jobs_objects : (generation : ℕ) (jobs : List Job) (deed : Deed) → Contains (jobs_deeds generation jobs) deed → IsPlacingDeed deed
jobs_objects generation jobs deed there =
    let job = flat_from (job_deeds generation) jobs deed there in
    let v = flat_from (visit_deeds generation job.0.name) job.0.visits deed job.1 in
    met_objects v.0.service generation job.0.name v.0.met deed v.1

cut_objects : (plan : PlanView) (job : Job) (cut : List Deed) → IsCutBehind plan job cut → (deed : Deed) → Contains cut deed → IsPlacingDeed deed
cut_objects plan job cut c deed there = elim c.deeds [
  | inl none ↦ absurd (in_none deed (subst (λ (ds : List Deed). Contains ds deed) none there))
  | inr one ↦ one_object (asked_deed c.service plan.generation job.name (Ok false)) deed tt (subst (λ (ds : List Deed). Contains ds deed) one there)
]

-- a plan under which is placed stays
plan_stays : (s t : Placing) (deeds : List Deed) → ((deed : Deed) → Contains deeds deed → IsPlacingDeed deed) → Obeys PlacesNext s deeds t → s.plan ≢ None → t.plan ≢ None
plan_stays s t [] objects h some = λ none. some (ap (λ (x : Placing). x.plan) (sym h) ∙ none)
plan_stays s t (Asked service generation name present ok floor ∷ deeds) objects h some =
    plan_stays h.0 t deeds (λ deed there. objects deed (in_later (Asked service generation name present ok floor) deeds deed there)) h.2 (λ e. some_none h.1.0 (sym (ap (λ (x : Placing). x.plan) h.1.5) ∙ e))
plan_stays s t (Put service generation name ok floor ∷ deeds) objects h some =
    plan_stays h.0 t deeds (λ deed there. objects deed (in_later (Put service generation name ok floor) deeds deed there)) h.2 (λ e. some (sym (ap (λ (x : Placing). x.plan) h.1.2) ∙ e))
plan_stays s t (deed ∷ deeds) objects h some = absurd (objects deed (in_here deed deeds))

begins : (s t : Placing) (plan : PlanView) (rest : List Purpose) (deeds : List Deed) → s.asked ≡ [] → ((deed : Deed) → Contains deeds deed → IsPlacingDeed deed) → Obeys PlacesNext s deeds t → IsUnder t plan rest
    → ((deeds ≡ []) × (t ≡ s)) ⊎ ((t.plan ≡ Some plan) × (t.own ≡ rest))
begins s t plan rest [] fresh objects h under = inl (refl, h)
begins s t plan rest (Asked service generation name present ok floor ∷ deeds) fresh objects h (inl is) = inr (is.0, sym is.1)
begins s t plan rest (Asked service generation name present ok floor ∷ deeds) fresh objects h (inr not_yet) =
    absurd (plan_stays h.0 t deeds (λ deed there. objects deed (in_later (Asked service generation name present ok floor) deeds deed there)) h.2 (λ e. some_none h.1.0 (sym (ap (λ (x : Placing). x.plan) h.1.5) ∙ e)) not_yet.0)
begins s t plan rest (Put service generation name ok floor ∷ deeds) fresh objects h under = absurd (none_ends h.1.0 (asking_of service generation name false) (sym h.1.1 ∙ fresh))
begins s t plan rest (deed ∷ deeds) fresh objects h under = absurd (objects deed (in_here deed deeds))

module _ (plan : PlanView) (objects : StoreView) (old new : DeskView) (rules : IsPlan plan) (same : (name : Name) → IsPermutation (services_of plan) (order_of plan name)) (rising : IsStrictlySortedBy name_cmp (names_in objects))
    (s : Placing) (rest : List Purpose) (fresh : s.asked ≡ []) (under : IsUnder s plan rest) where
  none_asked : (name : Name) → IsApart s.asked name
  none_asked name row there is = in_none row (subst (λ (rs : List Asking). Contains rs row) fresh there)

  apart_by : (jobs : List Job) → map (λ (job : Job). job.name) jobs ≡ take (length jobs) (names_in objects) → AreApart jobs
  apart_by jobs names = jobs_apart jobs (subst (IsStrictlySortedBy name_cmp) (sym names) (sorted_front (length jobs) (names_in objects) rising))

  follow_by : (jobs : List Job) → All (Goes plan old new) jobs → (job : Job) → Contains jobs job → Follows plan job
  follow_by jobs goes job there = (All-contains (Goes plan old new) jobs job goes there).follows

  accepted_rows : (jobs : List Job) (asked : List Asking) → asked ≡ s.asked ++ all_rows plan.generation jobs → (job : Job) → Contains jobs job → Follows plan job → IsDone plan job → OnEnough (HasAccepted asked plan.generation job.name) plan
  accepted_rows jobs asked is job there follows done = record {
    part = did_accept job.visits;
    have = λ n did.
        let p = accepted_by job.visits n did in
        let row = row_of plan.generation job.name p.0 in
        record {
          asked = record {
            row = row;
            there = subst (λ (rs : List Asking). Contains rs row) (sym (is ∙ ap (λ (rs : List Asking). rs ++ all_rows plan.generation jobs) fresh))
                (flat_has (λ (j : Job). rows_of plan.generation j.name j.visits) jobs job row there (map_has (row_of plan.generation job.name) job.visits p.0 p.1));
            service = p.3;
            generation_is = refl;
            name_is = refl;
          };
          accepted = p.2;
        };
    enough = job_count plan job (same job.name) follows done;
  }

  -- without a cut
  plain : (result : Result Placed Refusal) (h : Places plan objects old new result) → h.cut ≡ [] → ((t : Placing) → t.asked ≡ s.asked ++ all_rows plan.generation h.jobs
      → IfOk result (λ placed. (name : Name) → Contains (names_in objects) name → OnEnough (HasAccepted t.asked plan.generation name) plan)) → KeepsPlacing plan objects old new s rest result
  plain result h none ends =
      let run = jobs_obey plan rules same rest s h.jobs (apart_by h.jobs h.names) (λ job there. none_asked job.name) (follow_by h.jobs h.goes) under in
      record {
        t = run.0;
        deeds = jobs_deeds plan.generation h.jobs;
        grows = h.lays.grows ∙ ap (λ (ds : List Deed). old.deeds ++ ds) (ap (λ (ds : List Deed). jobs_deeds plan.generation h.jobs ++ ds) none ∙ append-nil (jobs_deeds plan.generation h.jobs));
        obeys = run.1;
        begun = begins s run.0 plan rest (jobs_deeds plan.generation h.jobs) fresh (jobs_objects plan.generation h.jobs) run.1 run.2;
        accepted = ends run.0 run.3;
      }

  pub rule_kept : (result : Result Placed Refusal) → Places plan objects old new result → KeepsPlacing plan objects old new s rest result
  rule_kept (Ok placed) h = plain (Ok placed) h h.answer.0 (λ t asked name there.
      let names : map (λ (job : Job). job.name) h.jobs ≡ names_in objects = h.names ∙ (ap (λ (n : ℕ). take n (names_in objects)) h.answer.1 ∙ take-length (names_in objects)) in
      let p = job_named h.jobs name (subst (λ (xs : List Name). Contains xs name) (sym names) there) in
      subst (λ (n : Name). OnEnough (HasAccepted t.asked plan.generation n) plan) p.2
      (accepted_rows h.jobs t.asked asked p.0 p.1 (follow_by h.jobs h.goes p.0 p.1) (All-contains (IsDone plan) h.jobs p.0 h.answer.2 p.1)))
  rule_kept (Err (TooFew name failed)) h = plain (Err (TooFew name failed)) h h.answer.0 (λ t asked. tt)
  rule_kept (Err (Collected floor)) h = plain (Err (Collected floor)) h h.answer.0 (λ t asked. tt)
  rule_kept (Err Usage) h = absurd h.answer
  rule_kept (Err (BadInput spot line)) h = absurd h.answer
  rule_kept (Err (OutsideFault spot)) h = absurd h.answer
  rule_kept (Err (NoMajority failed)) h = absurd h.answer
  rule_kept (Err (Contended rivals)) h = absurd h.answer
  rule_kept (Err (LostObject name rows)) h = absurd h.answer
  rule_kept (Err (LocalDamaged key)) h = absurd h.answer
  rule_kept (Err (Split position first second)) h = absurd h.answer
  rule_kept (Err (Limit what value)) h = absurd h.answer
  rule_kept (Err (NotEnabled event why)) h = absurd h.answer
  rule_kept (Err (Unlisted service ballot)) h = absurd h.answer
  rule_kept (Err (Broken name)) h = absurd h.answer
  rule_kept (Err NoMemory) h = elim h.answer [
    | inl none ↦ plain (Err NoMemory) h none (λ t asked. tt)
    | inr c ↦
        let apart = subst AreApart c.2 (apart_by h.jobs h.names) in
        let follows = subst (λ (jobs : List Job). (job : Job) → Contains jobs job → Follows plan job) c.2 (follow_by h.jobs h.goes) in
        let run = cut_obeys plan rules same rest s c.0 c.1 h.cut apart (λ job there. none_asked job.name) follows under c.3 in
        record {
          t = run.0;
          deeds = jobs_deeds plan.generation (c.0 ++ c.1 ∷ []) ++ h.cut;
          grows = h.lays.grows ∙ ap (λ (jobs : List Job). old.deeds ++ (jobs_deeds plan.generation jobs ++ h.cut)) c.2;
          obeys = run.1;
          begun = begins s run.0 plan rest (jobs_deeds plan.generation (c.0 ++ c.1 ∷ []) ++ h.cut) fresh
              (λ deed there. elim (Contains-append_cases (jobs_deeds plan.generation (c.0 ++ c.1 ∷ [])) h.cut deed there) [ inl own ↦ jobs_objects plan.generation (c.0 ++ c.1 ∷ []) deed own | inr last ↦ cut_objects plan c.1 h.cut c.3 deed last ]) run.1 run.2;
          accepted = tt;
        }
  ]
