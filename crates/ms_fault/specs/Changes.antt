-- Changes of a service, and the events that they are.
use Rattle.std.specs.Prelude.{ℕ, length, Result}
use Rattle.ms_fault.specs.declared.change.Change.{Change}
use Rattle.ms_fault.specs.declared.change.Change.TheVariants as changes
use Rattle.ms_ken.specs.Known.{Known}
use Rattle.ms_link.specs.declared.fault.LinkError.{LinkError}
use Rattle.ms_link.specs.Links.{LinkView, Tells, Puts}
use Rattle.ms_record.specs.declared.item.Item.{Item}
use Rattle.ms_record.specs.declared.log.LogEvent.{LogEvent}
use Rattle.ms_record.specs.declared.log.LogEvent.TheVariants.{Rec, Put, Drop}

abbrev pub event_of : Change → LogEvent
event_of (changes.Append list text) = Rec list text.now
event_of (changes.Put generation name text) = Put generation name.now text.now
event_of (changes.DropBelow generation) = Drop generation

-- the bytes of the text of an event
abbrev pub size_of : LogEvent → ℕ
size_of (Rec list text) = length text
size_of (Put generation name text) = length text
size_of (Drop floor) = 0

-- what a link leaves of a change, by the answer
abbrev pub Changes : LinkView → LinkView → Known Item → Known Item → LogEvent → Result Unit LinkError → Type 0
Changes link after old new (Rec list text) result = Tells link after old new (Rec list text) result
Changes link after old new (Put generation name text) result = Puts link after old new generation (Put generation name text) result
Changes link after old new (Drop floor) result = Tells link after old new (Drop floor) result
