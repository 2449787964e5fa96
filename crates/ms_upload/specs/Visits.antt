-- Visits: how a service met an object, and the deeds that were done there.
use Rattle.std.specs.Prelude.{◌≡◌, ℕ, ◌+◌, ◌==◌, ◌&&◌, ◌⊎◌, Bool, true, false, List, [], ◌∷◌, Option, Some, None, Result, Ok, Err}
use Rattle.std.specs.List.{flat_map, list_any}
use Rattle.ms_base.specs.declared.names.Name.{Name}
use Rattle.ms_base.specs.declared.names.ServiceId.{ServiceId}
use Rattle.ms_local.specs.declared.deed.Deed.{Deed}
use Rattle.ms_local.specs.declared.deed.Deed.TheVariants.{Asked, Put}
use Rattle.ms_local.specs.declared.objects.Miss.{Miss}
use Rattle.ms_local.specs.declared.objects.Miss.TheVariants.{Failed, Stale}
use Rattle.ms_local.specs.Desks.{DeskView}
use Rattle.ms_local.specs.Truths.{IsMissed, Stores}
use Rattle.ms_upload.specs.declared.visit.Met.{Met}
use Rattle.ms_upload.specs.declared.visit.Met.TheVariants.{Present, Taken, AskFailed, PutFailed, AskStale, PutStale}

pub record Visit : Type 0 where
  pub service : ServiceId
  pub met : Met

-- the visits of an object
pub record Job : Type 0 where
  pub name : Name
  pub visits : List Visit

-- ---- deeds

-- the question whether the service has the name, and the put, by what was answered
abbrev pub asked_deed : ServiceId → ℕ → Name → Result Bool Miss → Deed
asked_deed service generation name (Ok present) = Asked service generation name present true None
asked_deed service generation name (Err Failed) = Asked service generation name false false None
asked_deed service generation name (Err (Stale floor)) = Asked service generation name false false (Some floor)

abbrev pub put_deed : ServiceId → ℕ → Name → Result Unit Miss → Deed
put_deed service generation name (Ok u) = Put service generation name true None
put_deed service generation name (Err Failed) = Put service generation name false None
put_deed service generation name (Err (Stale floor)) = Put service generation name false (Some floor)

-- what is not there is put
abbrev pub met_deeds : ServiceId → ℕ → Name → Met → List Deed
met_deeds service generation name Present = asked_deed service generation name (Ok true) ∷ []
met_deeds service generation name Taken = asked_deed service generation name (Ok false) ∷ put_deed service generation name (Ok tt) ∷ []
met_deeds service generation name AskFailed = asked_deed service generation name (Err Failed) ∷ []
met_deeds service generation name PutFailed = asked_deed service generation name (Ok false) ∷ put_deed service generation name (Err Failed) ∷ []
met_deeds service generation name (AskStale floor) = asked_deed service generation name (Err (Stale floor)) ∷ []
met_deeds service generation name (PutStale floor) = asked_deed service generation name (Ok false) ∷ put_deed service generation name (Err (Stale floor)) ∷ []

abbrev pub visit_deeds : ℕ → Name → Visit → List Deed
visit_deeds generation name v = met_deeds v.service generation name v.met

abbrev pub job_deeds : ℕ → Job → List Deed
job_deeds generation job = flat_map (visit_deeds generation job.name) job.visits

-- how the service met what was put, by what it answered
abbrev pub met_by : Result Unit Miss → Met
met_by (Ok u) = Taken
met_by (Err Failed) = PutFailed
met_by (Err (Stale floor)) = PutStale floor

-- of a visit that no memory cut short: nothing was asked, or what is not there was not put
abbrev pub IsCut : ServiceId → ℕ → Name → List Deed → Type 0
IsCut service generation name deeds = (deeds ≡ []) ⊎ (deeds ≡ asked_deed service generation name (Ok false) ∷ [])

-- ---- counts

abbrev pub counts_present : Met → ℕ
counts_present Present = 1
counts_present met = 0

abbrev pub counts_put : Met → ℕ
counts_put Taken = 1
counts_put met = 0

abbrev pub present_in : List Visit → ℕ
present_in [] = 0
present_in (v ∷ vs) = counts_present v.met + present_in vs

abbrev pub puts_in : List Visit → ℕ
puts_in [] = 0
puts_in (v ∷ vs) = counts_put v.met + puts_in vs

-- the services that accepted the object: it was there, or its put answered
abbrev pub accepted : List Visit → ℕ
accepted visits = present_in visits + puts_in visits

abbrev pub accepts : Met → Bool
accepts Present = true
accepts Taken = true
accepts met = false

-- the call failed
abbrev pub fails : Met → Bool
fails AskFailed = true
fails PutFailed = true
fails met = false

abbrev pub did_accept : List Visit → ℕ → Bool
did_accept visits s = list_any (λ v. accepts v.met && v.service.0 == s) visits

abbrev pub did_fail : List Visit → ℕ → Bool
did_fail visits s = list_any (λ v. fails v.met && v.service.0 == s) visits

-- the greatest floor that the service dropped was shown, which is above the generation
abbrev pub floor_in : Met → Option ℕ
floor_in (AskStale floor) = Some floor
floor_in (PutStale floor) = Some floor
floor_in met = None

-- ---- what a visit shows

-- of a service that accepted the object: it was put there, where a setting is told; of one that did not: its count of faults rose, or
-- it dropped what lies below a floor
abbrev pub MetAt : DeskView → DeskView → ℕ → ℕ → Name → Met → Type 0
MetAt old new s generation name Present = Stores old new s generation name
MetAt old new s generation name Taken = Stores old new s generation name
MetAt old new s generation name AskFailed = IsMissed old new s generation None
MetAt old new s generation name PutFailed = IsMissed old new s generation None
MetAt old new s generation name (AskStale floor) = IsMissed old new s generation (Some floor)
MetAt old new s generation name (PutStale floor) = IsMissed old new s generation (Some floor)

abbrev pub TrueMet : DeskView → DeskView → ℕ → Name → Visit → Type 0
TrueMet old new generation name v = MetAt old new v.service.0 generation name v.met
