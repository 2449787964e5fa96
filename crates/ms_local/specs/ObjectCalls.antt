-- Calls on objects that are noted, each by one deed, and what each leaves, by the answer; none is noted where memory ran out.
use Rattle.std.specs.Prelude.{◌≡◌, ℕ, Bool, true, false, List, Option, Some, None, Result, Ok, Err}
use Rattle.ms_object.specs.Objects.{name_of as sha_name}
use Rattle.ms_base.specs.declared.bytes.NoMemory.{NoMemory}
use Rattle.ms_base.specs.declared.names.Name.{Name}
use Rattle.ms_base.specs.declared.names.ServiceId.{ServiceId}
use Rattle.ms_record.specs.declared.log.LogEvent.TheVariants.{Put as Stored}
use Rattle.ms_local.specs.declared.deed.Deed.TheVariants.{Asked, Got, Put}
use Rattle.ms_local.specs.declared.objects.Found.{Found}
use Rattle.ms_local.specs.declared.objects.Miss.{Miss}
use Rattle.ms_local.specs.declared.objects.Miss.TheVariants.{Failed, Stale}
use Rattle.ms_local.specs.Calls.{DeskCalls, GetsAt, HasAt, IsFloor, PutsAt}
use Rattle.ms_local.specs.Desks.{DeskView, HasFault, with_deed}

abbrev pub HasNoted : DeskView → DeskView → ServiceId → ℕ → Name → Result (Result Bool Miss) NoMemory → Type 0
HasNoted old new service generation name (Ok (Ok present)) =
    HasAt old new service.0 generation name (Ok present) × DeskCalls service.0 (with_deed old (Asked service generation name present true None)) new
HasNoted old new service generation name (Ok (Err Failed)) = HasFault old new service.0 × DeskCalls service.0 (with_deed old (Asked service generation name false false None)) new
HasNoted old new service generation name (Ok (Err (Stale floor))) =
    IsFloor old new service.0 generation floor × DeskCalls service.0 (with_deed old (Asked service generation name false false (Some floor))) new
HasNoted old new service generation name (Err error) = DeskCalls service.0 old new

abbrev pub PutsNoted : DeskView → DeskView → ServiceId → ℕ → Name → List ℕ → Result (Result Unit Miss) NoMemory → Type 0
PutsNoted old new service generation name text (Ok (Ok u)) =
    PutsAt old new service.0 generation (Stored generation name text) (Ok u) × DeskCalls service.0 (with_deed old (Put service generation name true None)) new
PutsNoted old new service generation name text (Ok (Err Failed)) = HasFault old new service.0 × DeskCalls service.0 (with_deed old (Put service generation name false None)) new
PutsNoted old new service generation name text (Ok (Err (Stale floor))) =
    IsFloor old new service.0 generation floor × DeskCalls service.0 (with_deed old (Put service generation name false (Some floor))) new
PutsNoted old new service generation name text (Err error) = DeskCalls service.0 old new

-- bytes that came have their own name
abbrev pub GetsNoted : DeskView → DeskView → ServiceId → ℕ → Name → Result (Result (Option Found) Miss) NoMemory → Type 0
GetsNoted old new service generation name (Ok (Ok (Some found))) =
    (found.name.0 ≡ sha_name found.text) × GetsAt old new service.0 generation name (Ok (Some found.text))
    × DeskCalls service.0 (with_deed old (Got service generation name (Some found.name) true None)) new
GetsNoted old new service generation name (Ok (Ok None)) =
    GetsAt old new service.0 generation name (Ok None) × DeskCalls service.0 (with_deed old (Got service generation name None true None)) new
GetsNoted old new service generation name (Ok (Err Failed)) = HasFault old new service.0 × DeskCalls service.0 (with_deed old (Got service generation name None false None)) new
GetsNoted old new service generation name (Ok (Err (Stale floor))) =
    IsFloor old new service.0 generation floor × DeskCalls service.0 (with_deed old (Got service generation name None false (Some floor))) new
GetsNoted old new service generation name (Err error) = DeskCalls service.0 old new
