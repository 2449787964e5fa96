-- Placing the objects of a store: one job for each, in the order of their names.
use Rattle.std.specs.Prelude.{◌≡◌, ℕ, ◌+◌, ◌<◌, ◌⊎◌, List, [], ◌∷◌, ◌++◌, Some, Result, Ok, Err, IfOk, All, Contains, length, map, take}
use Rattle.std.specs.List.{flat_map}
use Rattle.ms_core.specs.Placing.{OnEnough}
use Rattle.ms_core.specs.Views.{log_in}
use Rattle.ms_local.specs.declared.deed.Deed.{Deed}
use Rattle.ms_local.specs.Desks.{DeskView, OnTold}
use Rattle.ms_local.specs.Placing.{HasAccepted, Obeys, Placing, PlacesNext, Purpose}
use Rattle.ms_object.specs.Stores.{StoreView, names_in}
use Rattle.ms_base.specs.declared.names.Name.{Name}
use Rattle.ms_record.specs.declared.log.LogEvent.TheVariants.{Drop}
use Rattle.ms_record.specs.Logs.{HasPut}
use Rattle.ms_record.specs.Plans.{PlanView}
use Rattle.ms_upload.specs.declared.store.Placed.{Placed}
use Rattle.ms_record.specs.declared.refusal.Refusal.{Refusal}
use Rattle.ms_record.specs.declared.refusal.Refusal.TheVariants.{Collected, NoMemory, TooFew}
use Rattle.ms_upload.specs.Jobs.{EndsStale, Follows, IsCutBehind, IsDone, LacksPlaces}
use Rattle.ms_local.specs.Laying.{Lays}
use Rattle.ms_upload.specs.Visits.{Job, TrueMet, Visit, job_deeds, present_in, puts_in}

-- the deeds of jobs, one behind the other, and what was counted of them
abbrev pub jobs_deeds : ℕ → List Job → List Deed
jobs_deeds generation jobs = flat_map (job_deeds generation) jobs

abbrev pub all_present : List Job → ℕ
all_present [] = 0
all_present (job ∷ jobs) = present_in job.visits + all_present jobs

abbrev pub all_puts : List Job → ℕ
all_puts [] = 0
all_puts (job ∷ jobs) = puts_in job.visits + all_puts jobs

-- the job keeps the plan's order, and each of its visits shows what is true
pub record Goes (plan : PlanView) (old new : DeskView) (job : Job) : Type 0 where
  pub follows : Follows plan job
  pub met : (v : Visit) → Contains job.visits v → TrueMet old new plan.generation job.name v

-- the first job that is not done, behind jobs that are
pub record FirstUndone (plan : PlanView) (jobs : List Job) : Type 0 where
  pub front : List Job
  pub job : Job
  pub back : List Job
  pub jobs_are : jobs ≡ front ++ job ∷ back
  pub done : All (IsDone plan) front

-- of the jobs and of the deeds behind them, by the answer
abbrev pub Answers : PlanView → StoreView → DeskView → DeskView → List Job → List Deed → Result Placed Refusal → Type 0
Answers plan objects old new jobs cut (Ok placed) =
    (cut ≡ []) × (length jobs ≡ length (names_in objects)) × All (IsDone plan) jobs × (placed.present ≡ all_present jobs) × (placed.puts ≡ all_puts jobs)
Answers plan objects old new jobs cut (Err (TooFew name failed)) = (cut ≡ []) × (first : FirstUndone plan jobs) × (name ≡ first.job.name) × LacksPlaces plan first.job failed
Answers plan objects old new jobs cut (Err (Collected floor)) =
    (cut ≡ []) × (first : FirstUndone plan jobs) × EndsStale first.job floor × (plan.generation < floor) × OnTold old ((s : ℕ) × Contains (log_in new.pass.lists s) (Drop floor))
Answers plan objects old new jobs cut (Err NoMemory) = (cut ≡ []) ⊎ ((front : List Job) × (job : Job) × (jobs ≡ front ++ job ∷ []) × IsCutBehind plan job cut)
Answers plan objects old new jobs cut (Err refusal) = ⊥

-- the jobs of the first names of the store, and what they leave of the desk
pub record Places (plan : PlanView) (objects : StoreView) (old new : DeskView) (result : Result Placed Refusal) : Type 0 where
  pub jobs : List Job
  pub cut : List Deed
  pub names : map (λ (job : Job). job.name) jobs ≡ take (length jobs) (names_in objects)
  pub goes : All (Goes plan old new) jobs
  pub lays : Lays old new (jobs_deeds plan.generation jobs ++ cut)
  pub answer : Answers plan objects old new jobs cut result

-- the jobs of so many names are done
pub record PlacedTo (plan : PlanView) (names : List Name) (old new : DeskView) (place : ℕ) (placed : Placed) : Type 0 where
  pub jobs : List Job
  pub many : length jobs ≡ place
  pub names_are : map (λ (job : Job). job.name) jobs ≡ take place names
  pub follows : All (Follows plan) jobs
  pub done : All (IsDone plan) jobs
  pub lays : Lays old new (jobs_deeds plan.generation jobs)
  pub present : placed.present ≡ all_present jobs
  pub puts : placed.puts ≡ all_puts jobs

-- where all is placed, each object was put on enough services of the plan
abbrev pub AreOnEnough : PlanView → StoreView → DeskView → Type 0
AreOnEnough plan objects new = (name : Name) → Contains (names_in objects) name → OnEnough (λ s. HasPut (log_in new.pass.lists s) plan.generation name) plan

-- From a state in which is placed under this plan the deeds keep the rule of placing: without a deed the state is as before, else it is
-- placed under the plan by then. Where all is placed, enough services of the plan have accepted each object.
pub record KeepsPlacing (plan : PlanView) (objects : StoreView) (old new : DeskView) (s : Placing) (rest : List Purpose) (result : Result Placed Refusal) : Type 0 where
  pub t : Placing
  pub deeds : List Deed
  pub grows : new.deeds ≡ old.deeds ++ deeds
  pub obeys : Obeys PlacesNext s deeds t
  pub begun : ((deeds ≡ []) × (t ≡ s)) ⊎ ((t.plan ≡ Some plan) × (t.own ≡ rest))
  pub accepted : IfOk result (λ placed. (name : Name) → Contains (names_in objects) name → OnEnough (HasAccepted t.asked plan.generation name) plan)
