-- Calls on the services by the first lane of a desk, and what each leaves, by the answer.
use Rattle.std.specs.Prelude.{◌≡◌, ◌≢◌, ℕ, ◌<◌, ◌≤◌, Bool, true, false, List, drop, length, slice_get, Option, Some, None, Result, Ok, Err, Contains}
use Rattle.ms_base.specs.declared.bytes.NoMemory.{NoMemory}
use Rattle.ms_base.specs.declared.names.Name.{Name}
use Rattle.ms_base.specs.declared.names.ServiceId.{ServiceId}
use Rattle.ms_ken.specs.Lists.{list_at}
use Rattle.ms_record.specs.declared.item.Item.TheVariants.{Log}
use Rattle.ms_core.specs.Views.{log_in, offers_told, SupportsEvent}
use Rattle.ms_link.specs.Links.{IsAbsent, IsKept, Learns as PassLearns, LinkView}
use Rattle.ms_link.specs.declared.fault.LinkError.{LinkError}
use Rattle.ms_link.specs.declared.fault.LinkError.TheVariants as errors
use Rattle.ms_record.specs.declared.log.ListId.{ListId}
use Rattle.ms_record.specs.declared.log.LogEvent.{LogEvent}
use Rattle.ms_record.specs.declared.log.LogEvent.TheVariants.{Drop, Rec}
use Rattle.ms_record.specs.declared.setting.Setting.{Setting}
use Rattle.ms_record.specs.Logs.{NoDropAbove, Stands, texts_in}
use Rattle.ms_record.specs.Records.{record_text}
use Rattle.ms_local.specs.declared.deed.Deed.TheVariants.{Appended, Listed}
use Rattle.ms_local.specs.declared.deed.Message.{Message}
use Rattle.ms_local.specs.declared.deed.Message.TheVariants.{Ref, Vote}
use Rattle.ms_local.specs.Desks.{DeskView, KnowsTold, HasFault, LanesStay, OnTold, first_link, with_deed}

-- the first lane's link to this service was called, and the pass learns; all else stays
pub record DeskCalls (service : ℕ) (old new : DeskView) : Type 0 where
  pub same : new ≡ record old { pass = new.pass; lanes = new.lanes }
  pub pass : PassLearns old.pass new.pass
  pub lanes : LanesStay old.lanes new.lanes
  pub others : (s : ℕ) → s ≢ service → first_link new s ≡ first_link old s

-- links of any lane were called and the pass learns, and deeds were noted; all else stays
pub record DeskGoes (old new : DeskView) : Type 0 where
  pub same : new ≡ record old { pass = new.pass; lanes = new.lanes; deeds = new.deeds }
  pub pass : PassLearns old.pass new.pass
  pub lanes : LanesStay old.lanes new.lanes

-- a setting that was told stays told
abbrev pub StaysTold : DeskView → DeskView → Type 0
StaysTold old new = (setting : Setting) → KnowsTold old setting → KnowsTold new setting

-- the texts of a service's list, from a place on, to an end that the pass then knows
abbrev pub ListsAt : DeskView → DeskView → ℕ → ℕ → ℕ → Result (List (List ℕ)) LinkError → Type 0
ListsAt old new s list from (Ok texts) = OnTold old (texts ≡ drop from (texts_in list (log_in new.pass.lists s)))
ListsAt old new s list from (Err errors.Failed) = HasFault old new s
ListsAt old new s list from (Err (errors.Stale floor)) = ⊥
ListsAt old new s list from (Err errors.NoMemory) = Unit {0}

-- an event of a service's log, which the pass then knows, behind all that it knew before
abbrev pub AppendsAt : DeskView → DeskView → ℕ → LogEvent → Result Unit LinkError → Type 0
AppendsAt old new s event (Ok u) = OnTold old ((place : ℕ) × (length (list_at old.pass.lists s) ≤ place) × (slice_get (list_at new.pass.lists s) place ≡ Some (Log event)))
AppendsAt old new s event (Err errors.Failed) = HasFault old new s
AppendsAt old new s event (Err (errors.Stale floor)) = ⊥
AppendsAt old new s event (Err errors.NoMemory) = Unit {0}

-- the fact where a setting is told, and the first lane's link to the service tells its objects
abbrev pub OnKept : DeskView → ℕ → Type 0 → Type 0
OnKept desk s P = ((link : LinkView) → first_link desk s ≡ Some link → link.objects ≡ true) → OnTold desk P

-- the greatest floor that the service dropped is above the generation
pub record IsFloor (old new : DeskView) (s generation floor : ℕ) : Type 0 where
  pub below : generation < floor
  pub dropped : OnTold old (Contains (log_in new.pass.lists s) (Drop floor))
  pub greatest : OnTold old (NoDropAbove (log_in new.pass.lists s) floor)

-- whether a put of the name in the generation stands, in the log that the pass then knows
abbrev pub HasAt : DeskView → DeskView → ℕ → ℕ → Name → Result Bool LinkError → Type 0
HasAt old new s generation name (Ok true) = OnTold old (Stands (log_in new.pass.lists s) generation name)
HasAt old new s generation name (Ok false) = OnKept old s (IsAbsent (log_in new.pass.lists s) generation name)
HasAt old new s generation name (Err errors.Failed) = HasFault old new s
HasAt old new s generation name (Err (errors.Stale floor)) = IsFloor old new s generation floor
HasAt old new s generation name (Err errors.NoMemory) = Unit {0}

-- a put, which the pass then knows, behind all that it knew before
abbrev pub PutsAt : DeskView → DeskView → ℕ → ℕ → LogEvent → Result Unit LinkError → Type 0
PutsAt old new s generation event (Ok u) = AppendsAt old new s event (Ok u) × OnKept old s (NoDropAbove (log_in new.pass.lists s) generation)
PutsAt old new s generation event (Err errors.Failed) = HasFault old new s
PutsAt old new s generation event (Err (errors.Stale floor)) = IsFloor old new s generation floor
PutsAt old new s generation event (Err errors.NoMemory) = Unit {0}

-- the text of a put of the name in the generation that stands
abbrev pub GetsAt : DeskView → DeskView → ℕ → ℕ → Name → Result (Option (List ℕ)) LinkError → Type 0
GetsAt old new s generation name (Ok None) = OnKept old s (IsAbsent (log_in new.pass.lists s) generation name)
GetsAt old new s generation name (Ok (Some text)) = OnKept old s (IsKept (log_in new.pass.lists s) generation name text)
GetsAt old new s generation name (Err errors.Failed) = HasFault old new s
GetsAt old new s generation name (Err (errors.Stale floor)) = IsFloor old new s generation floor
GetsAt old new s generation name (Err errors.NoMemory) = Unit {0}

-- where a setting is told, it supports the event by what the pass knows
abbrev pub IsSupportedAt : DeskView → LogEvent → Type 0
IsSupportedAt desk event = (setting : Setting) → KnowsTold desk setting → SupportsEvent setting (log_in desk.pass.lists) (offers_told desk.pass.lists) event

-- the text of what is appended
abbrev pub message_text : Message → List ℕ
message_text (Vote message) = record_text message
message_text (Ref text) = text

-- the same calls, each noted by one deed; none where memory ran out. None and false: the link failed
abbrev pub ListsNoted : DeskView → DeskView → ServiceId → ListId → ℕ → Result (Option (List (List ℕ))) NoMemory → Type 0
ListsNoted old new service list from (Ok (Some texts)) = ListsAt old new service.0 list.0 from (Ok texts) × DeskCalls service.0 (with_deed old (Listed service list from (length texts) true)) new
ListsNoted old new service list from (Ok None) = HasFault old new service.0 × DeskCalls service.0 (with_deed old (Listed service list from 0 false)) new
ListsNoted old new service list from (Err error) = DeskCalls service.0 old new

abbrev pub AppendsNoted : DeskView → DeskView → ServiceId → ListId → Message → Result Bool NoMemory → Type 0
AppendsNoted old new service list message (Ok true) =
    AppendsAt old new service.0 (Rec list (message_text message)) (Ok tt) × DeskCalls service.0 (with_deed old (Appended service list message true)) new
AppendsNoted old new service list message (Ok false) = HasFault old new service.0 × DeskCalls service.0 (with_deed old (Appended service list message false)) new
AppendsNoted old new service list message (Err error) = DeskCalls service.0 old new
