-- Jobs: how one object is placed.
use Rattle.std.specs.Prelude.{◌≡◌, ◌↔◌, ℕ, ◌+◌, ◌<◌, true, List, [], ◌∷◌, ◌++◌, Some, None, Result, Ok, Err, Contains, length, map, slice_get, take}
use Rattle.ms_base.specs.declared.bytes.NoMemory.{NoMemory}
use Rattle.ms_base.specs.declared.names.Name.{Name}
use Rattle.ms_base.specs.declared.names.ServiceId.{ServiceId}
use Rattle.ms_bid.specs.Ends.{flag_at}
use Rattle.ms_local.specs.declared.deed.Deed.{Deed}
use Rattle.ms_local.specs.Desks.{DeskView}
use Rattle.ms_plan.specs.Mapping.{order_of, services_of}
use Rattle.ms_record.specs.Plans.{PlanView}
use Rattle.ms_upload.specs.declared.placing.End.{End}
use Rattle.ms_upload.specs.declared.placing.End.TheVariants.{Done, Stale, TooFew}
use Rattle.ms_upload.specs.declared.tally.Tally.{Tally}
use Rattle.ms_local.specs.Laying.{Lays}
use Rattle.ms_upload.specs.Tallies.{IsTally}
use Rattle.ms_upload.specs.Visits.{IsCut, Job, Visit, accepted, did_fail, floor_in, job_deeds, present_in, puts_in}

-- the services of the plan are numbered below this
abbrev pub AreBelow : PlanView → ℕ → Type 0
AreBelow plan n = (s : ServiceId) → Contains (services_of plan) s → s.0 < n

-- no service showed a floor
abbrev pub AreFresh : List Visit → Type 0
AreFresh visits = (v : Visit) → Contains visits v → floor_in v.met ≡ None

-- The services that were visited are the first of the plan's order. Before each fewer than the plan's replicas had accepted the
-- object, and one that showed a floor is the last.
pub record Follows (plan : PlanView) (job : Job) : Type 0 where
  pub order : map (λ (v : Visit). v.service) job.visits ≡ take (length job.visits) (order_of plan job.name)
  pub wanted : (i : ℕ) (v : Visit) → slice_get job.visits i ≡ Some v → accepted (take i job.visits) < plan.replicas
  pub last : (i : ℕ) (v : Visit) (floor : ℕ) → slice_get job.visits i ≡ Some v → floor_in v.met ≡ Some floor → i + 1 ≡ length job.visits

-- as many services accepted it as the plan has replicas
abbrev pub IsDone : PlanView → Job → Type 0
IsDone plan job = accepted job.visits ≡ plan.replicas

-- the last service that was visited showed this floor
pub record EndsStale (job : Job) (floor : ℕ) : Type 0 where
  pub front : List Visit
  pub last : Visit
  pub visits : job.visits ≡ front ++ last ∷ []
  pub shown : floor_in last.met ≡ Some floor

-- all services of the plan were visited, none showed a floor, and too few accepted it; these failed
pub record LacksPlaces (plan : PlanView) (job : Job) (failed : List ℕ) : Type 0 where
  pub all : length job.visits ≡ length plan.rows
  pub few : accepted job.visits < plan.replicas
  pub fresh : AreFresh job.visits
  pub failed_are : (s : ℕ) → Contains failed s ↔ (did_fail job.visits s ≡ true)

-- the deeds of the visit that no memory cut short, which was the next
pub record IsCutBehind (plan : PlanView) (job : Job) (cut : List Deed) : Type 0 where
  pub service : ServiceId
  pub next : slice_get (order_of plan job.name) (length job.visits) ≡ Some service
  pub wanted : accepted job.visits < plan.replicas
  pub fresh : AreFresh job.visits
  pub deeds : IsCut service plan.generation job.name cut

-- the visits of this object, and what they leave of the desk
pub record Visited (plan : PlanView) (name : Name) (old new : DeskView) (cut : List Deed) : Type 0 where
  pub job : Job
  pub name_is : job.name ≡ name
  pub follows : Follows plan job
  pub lays : Lays old new (job_deeds plan.generation job ++ cut)

abbrev pub PlacesOne : PlanView → Name → DeskView → DeskView → Result End NoMemory → Type 0
PlacesOne plan name old new (Ok (Done present puts)) = (v : Visited plan name old new []) × IsDone plan v.job × (present ≡ present_in v.job.visits) × (puts ≡ puts_in v.job.visits)
PlacesOne plan name old new (Ok (Stale floor)) = (v : Visited plan name old new []) × EndsStale v.job floor
PlacesOne plan name old new (Ok (TooFew failed)) = (v : Visited plan name old new []) × LacksPlaces plan v.job failed
PlacesOne plan name old new (Err error) = (cut : List Deed) × (v : Visited plan name old new cut) × IsCutBehind plan v.job cut

-- how it ends where all services were visited
abbrev pub EndsBy : Tally → ℕ → End → Type 0
EndsBy tally replicas (Done present puts) = (tally.present + tally.puts ≡ replicas) × (present ≡ tally.present) × (puts ≡ tally.puts)
EndsBy tally replicas (TooFew failed) = (tally.present + tally.puts < replicas) × ((s : ℕ) → Contains failed s ↔ (flag_at tally.failed s ≡ true))
EndsBy tally replicas (Stale floor) = ⊥

abbrev pub job_of : Name → List Visit → Job
job_of name visits = record { name = name; visits = visits }

-- so many services of the order were visited, and more accepted copies may be wanted
pub record VisitedTo (plan : PlanView) (name : Name) (old new : DeskView) (place : ℕ) (tally : Tally) : Type 0 where
  pub visits : List Visit
  pub many : length visits ≡ place
  pub counts : IsTally visits tally
  pub enough : accepted visits < plan.replicas + 1
  pub fresh : AreFresh visits
  pub follows : Follows plan (job_of name visits)
  pub lays : Lays old new (job_deeds plan.generation (job_of name visits))
