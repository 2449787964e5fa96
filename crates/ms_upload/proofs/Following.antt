-- How the visits of an object go on.
use Rattle.std.proofs.Common.{◌≡◌, ◌≢◌, ℕ, ◌+◌, ◌<◌, ◌≤◌, inl, inr, List, [], ◌∷◌, ◌++◌, Some, None, Ok, Err, refl, sym, ap, ◌∙◌, subst, length, map, take, slice_get, slice_index_or, arith}
use Rattle.std.specs.List.{flat_map}
use Rattle.std.proofs.lemmas.Grind.{flat_map-append}
use Rattle.std.proofs.lemmas.List.{append-nil, length-append, map-append, take-append-le}
use Rattle.std.proofs.Math.Seq.{take-length}
use Rattle.std.proofs.lemmas.List.Elements.{Contains-append_cases}
use Rattle.std.specs.List.Sorted.{IsPermutation}
use Rattle.std.proofs.lemmas.List.Sorted.{Contains-permutation, IsPermutation-sym}
use Rattle.std.proofs.lemmas.Option.{slice_get-get_or, slice_get_within}
use Rattle.ms_base.specs.Places.{alone, append_cases, at_contains, in_cases, in_none, same_or_not, take_next}
use Rattle.ms_base.specs.declared.bytes.NoMemory.{NoMemory}
use Rattle.ms_base.specs.declared.names.Name.{Name}
use Rattle.ms_base.specs.declared.names.ServiceId.{ServiceId}
use Rattle.ms_local.specs.declared.deed.Deed.{Deed}
use Rattle.ms_local.specs.Desks.{DeskView}
use Rattle.ms_plan.specs.Mapping.{order_of, services_of}
use Rattle.ms_record.specs.Plans.{PlanView}
use Rattle.ms_upload.specs.declared.placing.End.{End}
use Rattle.ms_upload.specs.declared.placing.End.TheVariants.{Done, Stale, TooFew}
use Rattle.ms_upload.specs.declared.tally.Tally.{Tally}
use Rattle.ms_upload.specs.declared.visit.Met.{Met}
use Rattle.ms_upload.specs.declared.visit.Met.TheVariants.{Present, Taken}
use Rattle.ms_upload.specs.Jobs.{AreBelow, AreFresh, EndsBy, Follows, PlacesOne, Visited, VisitedTo, job_of}
use Rattle.ms_local.specs.Laying.{Lays}
use Rattle.ms_upload.specs.Asking.{Visits}
use Rattle.ms_upload.specs.Tallies.{IsTally}
use Rattle.ms_upload.specs.Visits.{Visit, accepted, counts_present, counts_put, floor_in, job_deeds, met_deeds, visit_deeds}
use Rattle.ms_upload.proofs.Counting.{present_one, puts_one}

abbrev pub visit_of : ServiceId → Met → Visit
visit_of s met = record { service = s; met = met }

pub deeds_one : (generation : ℕ) (name : Name) (visits : List Visit) (v : Visit) → job_deeds generation (job_of name (visits ++ v ∷ [])) ≡ job_deeds generation (job_of name visits) ++ visit_deeds generation name v
deeds_one generation name visits v =
    flat_map-append (visit_deeds generation name) visits (v ∷ []) ∙ ap (λ (xs : List Deed). flat_map (visit_deeds generation name) visits ++ xs) (append-nil (visit_deeds generation name v))

pub follows_none : (plan : PlanView) (name : Name) → Follows plan (job_of name [])
follows_none plan name = record { order = refl; wanted = λ i v at. absurd (cc at); last = λ i v floor at shown. absurd (cc at) }

none_some : (n : ℕ) → None ≡ Some n → ⊥
none_some n e = cc e

length_one : {X : Type 0} (xs : List X) (x : X) → length (xs ++ x ∷ []) ≡ length xs + 1
length_one xs x = length-append xs (x ∷ [])

module _ (plan : PlanView) (name : Name) (visits : List Visit) (v : Visit) (h : Follows plan (job_of name visits)) (fresh : AreFresh visits) (next : slice_get (order_of plan name) (length visits) ≡ Some v.service)
    (wanted : accepted visits < plan.replicas) where
  order_next : map (λ (w : Visit). w.service) (visits ++ v ∷ []) ≡ take (length (visits ++ v ∷ [])) (order_of plan name)
  order_next =
      map-append (λ (w : Visit). w.service) visits (v ∷ [])
      ∙ (ap (λ (xs : List ServiceId). xs ++ v.service ∷ []) h.order
      ∙ (sym (take_next (order_of plan name) (length visits) v.service next) ∙ ap (λ (n : ℕ). take n (order_of plan name)) (sym (length_one visits v))))

  wanted_next : (i : ℕ) (w : Visit) → slice_get (visits ++ v ∷ []) i ≡ Some w → accepted (take i (visits ++ v ∷ [])) < plan.replicas
  wanted_next i w at = elim (append_cases visits (v ∷ []) i w at) [
    | inl was ↦ subst (λ (xs : List Visit). accepted xs < plan.replicas) (sym (take-append-le i visits (v ∷ []) (within (slice_get_within visits i w was)))) (h.wanted i w was)
    | inr r ↦
        let here : i ≡ length visits = omega (arith, r.1, (alone v w r.0 r.2).0) in
        subst (λ (xs : List Visit). accepted xs < plan.replicas) (sym (take-append-le i visits (v ∷ []) (omega (arith, here)) ∙ all_taken i here)) wanted
  ] where
    within : i < length visits → i ≤ length visits
    within lt = omega (arith, lt)

    all_taken : (n : ℕ) → n ≡ length visits → take n visits ≡ visits
    all_taken n e = ap (λ (k : ℕ). take k visits) e ∙ take-length visits

  last_next : (i : ℕ) (w : Visit) (floor : ℕ) → slice_get (visits ++ v ∷ []) i ≡ Some w → floor_in w.met ≡ Some floor → i + 1 ≡ length (visits ++ v ∷ [])
  last_next i w floor at shown = elim (append_cases visits (v ∷ []) i w at) [
    | inl was ↦ absurd (none_some floor (sym (fresh w (at_contains visits i w was)) ∙ shown))
    | inr r ↦ omega (arith, r.1, (alone v w r.0 r.2).0, length_one visits v)
  ]

  pub follows_next : Follows plan (job_of name (visits ++ v ∷ []))
  follows_next = record { order = order_next; wanted = wanted_next; last = last_next }

fresh_next : (visits : List Visit) (v : Visit) → AreFresh visits → floor_in v.met ≡ None → AreFresh (visits ++ v ∷ [])
fresh_next visits v h none w there = elim (Contains-append_cases visits (v ∷ []) w there) [
  | inl was ↦ h w was
  | inr is ↦ elim (in_cases v [] w is) [ inl same ↦ subst (λ (x : Visit). floor_in x.met ≡ None) same none | inr no_more ↦ absurd (in_none w no_more) ]
]

counts_few : (met : Met) → counts_present met + counts_put met ≤ 1
counts_few Present = omega arith
counts_few Taken = omega arith
counts_few met = omega arith

accepted_few : (visits : List Visit) (v : Visit) → accepted (visits ++ v ∷ []) ≤ accepted visits + 1
accepted_few visits v = omega (arith, present_one visits v, puts_one visits v, counts_few v.met)

pub visited_none : (plan : PlanView) (name : Name) (desk : DeskView) (tally : Tally) → Lays desk desk [] → IsTally [] tally → VisitedTo plan name desk desk 0 tally
visited_none plan name desk tally lays counts = record {
  visits = [];
  many = refl;
  counts = counts;
  enough = omega arith;
  fresh = λ v there. absurd (in_none v there);
  follows = follows_none plan name;
  lays = lays;
}

-- without a cut
whole : (old new : DeskView) (deeds : List Deed) → Lays old new deeds → Lays old new (deeds ++ [])
whole old new deeds h = subst (Lays old new) (sym (append-nil deeds)) h

module _ (plan : PlanView) (name : Name) (old mid : DeskView) (place : ℕ) (tally : Tally) (h : VisitedTo plan name old mid place tally) where
  abbrev pub job_here : (cut : List Deed) → Lays old mid (job_deeds plan.generation (job_of name h.visits) ++ cut) → Visited plan name old mid cut
  job_here cut lays = record { job = job_of name h.visits; name_is = refl; follows = h.follows; lays = lays }

  pub visited_done : tally.present + tally.puts ≡ plan.replicas → PlacesOne plan name old mid (Ok (Done tally.present tally.puts))
  visited_done enough =
      (job_here [] (whole old mid (job_deeds plan.generation (job_of name h.visits)) h.lays), omega (arith, enough, h.counts.present, h.counts.puts), h.counts.present, h.counts.puts)

  pub visited_all : length (order_of plan name) ≡ place → length (order_of plan name) ≡ length plan.rows → (end : End) → EndsBy tally plan.replicas end → PlacesOne plan name old mid (Ok end)
  visited_all all rows (Done present puts) is =
      (job_here [] (whole old mid (job_deeds plan.generation (job_of name h.visits)) h.lays), omega (arith, is.0, h.counts.present, h.counts.puts), is.1 ∙ h.counts.present, is.2 ∙ h.counts.puts)
  visited_all all rows (TooFew failed) is = (
    job_here [] (whole old mid (job_deeds plan.generation (job_of name h.visits)) h.lays),
    record {
      all = omega (arith, h.many, all, rows);
      few = omega (arith, is.0, h.counts.present, h.counts.puts);
      fresh = h.fresh;
      failed_are = λ s. (λ there. sym (h.counts.failed s) ∙ (is.1 s).0 there, λ did. (is.1 s).1 (h.counts.failed s ∙ did));
    },
  )
  visited_all all rows (Stale floor) is = absurd is

  module _ (new : DeskView) (s : ServiceId) (met : Met) (on : (old mid new : DeskView) (deeds more : List Deed) → Lays old mid deeds → Lays mid new more → Lays old new (deeds ++ more))
      (next : slice_get (order_of plan name) place ≡ Some s) (more : tally.present + tally.puts ≢ plan.replicas) where
    wanted_here : accepted h.visits < plan.replicas
    wanted_here = below (omega (arith, h.enough)) (λ e. more (omega (arith, e, h.counts.present, h.counts.puts))) where
      below : accepted h.visits ≤ plan.replicas → accepted h.visits ≢ plan.replicas → accepted h.visits < plan.replicas
      below le ne = elim (same_or_not (accepted h.visits) plan.replicas) [ inl e ↦ absurd (ne e) | inr n ↦ omega (arith, le, n) ]

    next_here : slice_get (order_of plan name) (length h.visits) ≡ Some s
    next_here = ap (slice_get (order_of plan name)) h.many ∙ next

    job_next : Lays mid new (met_deeds s plan.generation name met) → Lays old new (job_deeds plan.generation (job_of name (h.visits ++ visit_of s met ∷ [])))
    job_next lays =
        subst (Lays old new) (sym (deeds_one plan.generation name h.visits (visit_of s met)))
        (on old mid new (job_deeds plan.generation (job_of name h.visits)) (met_deeds s plan.generation name met) h.lays lays)

    pub visited_next : (tally' : Tally) → Lays mid new (met_deeds s plan.generation name met) → floor_in met ≡ None → IsTally (h.visits ++ visit_of s met ∷ []) tally' → VisitedTo plan name old new (place + 1) tally'
    visited_next tally' lays none counts = record {
      visits = h.visits ++ visit_of s met ∷ [];
      many = omega (arith, length_one h.visits (visit_of s met), h.many);
      counts = counts;
      enough = omega (arith, accepted_few h.visits (visit_of s met), wanted_here);
      fresh = fresh_next h.visits (visit_of s met) h.fresh none;
      follows = follows_next plan name h.visits (visit_of s met) h.follows h.fresh next_here wanted_here;
      lays = job_next lays;
    }

    pub visited_stale : (floor : ℕ) → Lays mid new (met_deeds s plan.generation name met) → floor_in met ≡ Some floor → PlacesOne plan name old new (Ok (Stale floor))
    visited_stale floor lays shown = (
      record {
        job = job_of name (h.visits ++ visit_of s met ∷ []);
        name_is = refl;
        follows = follows_next plan name h.visits (visit_of s met) h.follows h.fresh next_here wanted_here;
        lays = whole old new (job_deeds plan.generation (job_of name (h.visits ++ visit_of s met ∷ []))) (job_next lays);
      },
      record { front = h.visits; last = visit_of s met; visits = refl; shown = shown },
    )

    pub visited_cut : (error : NoMemory) → Visits mid new s plan.generation name (Err error) → PlacesOne plan name old new (Err error)
    visited_cut error cut = (
      cut.0,
      record {
        job = job_of name h.visits;
        name_is = refl;
        follows = h.follows;
        lays = on old mid new (job_deeds plan.generation (job_of name h.visits)) cut.0 h.lays cut.2;
      },
      record { service = s; next = next_here; wanted = wanted_here; fresh = h.fresh; deeds = cut.1 },
    )

-- ---- the desk stays one of the same services

pub services_stay : (old new : DeskView) (deeds : List Deed) → Lays old new deeds → new.services ≡ old.services
services_stay old new deeds h = ap (λ (d : DeskView). d.services) h.effect.same

-- the service at a place of the order
pub next_service : (plan : PlanView) (name : Name) (order : List ServiceId) (place : ℕ) → order ≡ order_of plan name → place < length order
    → slice_get (order_of plan name) place ≡ Some (slice_index_or order place (record { 0 = 0 }))
next_service plan name order place is lt = ap (λ (xs : List ServiceId). slice_get xs place) (sym is) ∙ slice_get-get_or order place (record { 0 = 0 }) lt

-- so it is one of the plan's
pub known_service : (plan : PlanView) (order : List ServiceId) (place n : ℕ) → IsPermutation (services_of plan) order → AreBelow plan n → place < length order → (slice_index_or order place (record { 0 = 0 })).0 < n
known_service plan order place n same below lt =
    let s = slice_index_or order place (record { 0 = 0 }) in
    below s (Contains-permutation order (services_of plan) s (IsPermutation-sym (services_of plan) order same) (at_contains order place s (slice_get-get_or order place (record { 0 = 0 }) lt)))
