-- Services that were asked for an object and gave no bytes of its name.
use Rattle.std.specs.Prelude.{◌≡◌, ◌≢◌, ℕ, ◌≤◌, true, false, List, Option, Some, None, Contains, map, max}
use Rattle.ms_base.specs.declared.names.Name.{Name}
use Rattle.ms_base.specs.declared.names.ServiceId.{ServiceId}
use Rattle.ms_core.specs.Views.{log_in}
use Rattle.ms_record.specs.declared.refusal.Reason.TheVariants.{Failed, Absent, Altered}
use Rattle.ms_record.specs.declared.refusal.ReasonRow.{ReasonRow}
use Rattle.ms_record.specs.Logs.{HasPut}
use Rattle.ms_local.specs.declared.deed.Deed.{Deed}
use Rattle.ms_local.specs.declared.deed.Deed.TheVariants.{Got}
use Rattle.ms_local.specs.Desks.{DeskView, HasFault, OnTold}
use Rattle.ms_local.specs.Truths.{IsMissed}
use Rattle.ms_fetch.specs.declared.ask.Lack.{Lack}
use Rattle.ms_fetch.specs.declared.ask.Lack.TheVariants.{Stale, Unread}
use Rattle.ms_local.specs.Laying.{TellsObjects}

-- a service, and why it gave no bytes of the name
pub record Lacking : Type 0 where
  pub service : ServiceId
  pub lack : Lack

-- the question, by what was answered
abbrev pub lack_deed : ℕ → Name → ServiceId → Lack → Deed
lack_deed generation name service (Unread Failed) = Got service generation name None false None
lack_deed generation name service (Unread Absent) = Got service generation name None true None
lack_deed generation name service (Unread (Altered found)) = Got service generation name (Some found) true None
lack_deed generation name service (Stale floor) = Got service generation name None false (Some floor)

abbrev pub lacks_deeds : ℕ → Name → List Lacking → List Deed
lacks_deeds generation name lacks = map (λ (l : Lacking). lack_deed generation name l.service l.lack) lacks

-- A call that failed has its fault. Where a setting is told, and the service's objects are, a service without the object had no put of
-- it as far as the pass knew before, and none gives other bytes; and a floor above the generation is one that the service dropped.
abbrev pub TrueLack : DeskView → DeskView → ℕ → Name → ServiceId → Lack → Type 0
TrueLack old new generation name service (Unread Failed) = HasFault old new service.0
TrueLack old new generation name service (Unread Absent) = TellsObjects old service.0 → OnTold old (HasPut (log_in old.pass.lists service.0) generation name → ⊥)
TrueLack old new generation name service (Unread (Altered found)) = (found ≢ name) × (TellsObjects old service.0 → OnTold old ⊥)
TrueLack old new generation name service (Stale floor) = IsMissed old new service.0 generation (Some floor)

-- a service that showed no floor, with its reason
abbrev pub lacking_of : ReasonRow → Lacking
lacking_of row = record { service = row.service; lack = Unread row.reason }

-- no service showed a floor, and these are the services with their reasons
abbrev pub HaveReasons : List Lacking → List ReasonRow → Type 0
HaveReasons lacks rows = lacks ≡ map lacking_of rows

-- the greatest floor that a service showed
pub record IsGreatestFloor (lacks : List Lacking) (floor : ℕ) : Type 0 where
  pub shown : (l : Lacking) × Contains lacks l × (l.lack ≡ Stale floor)
  pub greatest : (l : Lacking) (other : ℕ) → Contains lacks l → l.lack ≡ Stale other → other ≤ floor

-- the greater of two floors, one of which may be missing
abbrev pub greater_floor : Option ℕ → ℕ → ℕ
greater_floor None other = other
greater_floor (Some floor) other = max floor other
