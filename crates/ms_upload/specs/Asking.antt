-- What a visit leaves of a desk.
use Rattle.std.specs.Prelude.{◌≡◌, ℕ, Bool, false, List, [], ◌∷◌, Result, Ok, Err}
use Rattle.ms_base.specs.declared.bytes.NoMemory.{NoMemory}
use Rattle.ms_base.specs.declared.names.Name.{Name}
use Rattle.ms_base.specs.declared.names.ServiceId.{ServiceId}
use Rattle.ms_local.specs.declared.deed.Deed.{Deed}
use Rattle.ms_local.specs.declared.objects.Miss.{Miss}
use Rattle.ms_local.specs.Desks.{DeskView}
use Rattle.ms_local.specs.Laying.{Lays}
use Rattle.ms_upload.specs.declared.visit.Met.{Met}
use Rattle.ms_upload.specs.Visits.{IsCut, asked_deed, met_deeds}

abbrev pub AsksOne : DeskView → DeskView → ServiceId → ℕ → Name → Result (Result Bool Miss) NoMemory → Type 0
AsksOne old new service generation name (Ok answer) = Lays old new (asked_deed service generation name answer ∷ [])
AsksOne old new service generation name (Err error) = Lays old new []

-- the put of what is not there, by what it was met with
abbrev pub PutsThere : DeskView → DeskView → ServiceId → ℕ → Name → Result Met NoMemory → Type 0
PutsThere old new service generation name (Ok met) = (deed : Deed) × (met_deeds service generation name met ≡ asked_deed service generation name (Ok false) ∷ deed ∷ []) × Lays old new (deed ∷ [])
PutsThere old new service generation name (Err error) = Lays old new []

abbrev pub Visits : DeskView → DeskView → ServiceId → ℕ → Name → Result Met NoMemory → Type 0
Visits old new service generation name (Ok met) = Lays old new (met_deeds service generation name met)
Visits old new service generation name (Err error) = (cut : List Deed) × IsCut service generation name cut × Lays old new cut
