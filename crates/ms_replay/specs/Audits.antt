-- What the lists of a dump show: the agreed chain, or the least position at which two entries are chosen.
use Rattle.std.specs.Prelude.{◌≡◌, ℕ, ◌+◌, ◌<◌, List, [], length, slice_index_or}
use Rattle.ms_record.specs.declared.entry.Entry.{Entry}
use Rattle.ms_record.specs.declared.record.Record.{Record}
use Rattle.ms_record.specs.Chains.{Origin, IsLinked, AgreesAt, Agrees, IsChain, voters_behind}
use Rattle.ms_record.specs.Entries.{name_of}
use Rattle.ms_record.specs.Reading.{votes_of}
use Rattle.ms_record.specs.Settings.{even_plan}
use Rattle.ms_record.specs.Votes.{services_below}
use Rattle.ms_replay.specs.declared.audit.Audit.{Audit}
use Rattle.ms_replay.specs.declared.audit.Audit.TheVariants as audits
use Rattle.ms_replay.specs.declared.dump.Dump.{Dump}
use Rattle.ms_replay.specs.declared.standing.Standing.TheVariants.{Split}
use Rattle.ms_replay.specs.Standings.{IsStanding}

-- the records of each list
abbrev pub lists_of : List (List (List ℕ)) → ℕ → List Record
lists_of lists s = votes_of (slice_index_or lists s [])

-- at this position two entries are chosen by the voters behind a linked list, as a tally picks them, and at no lower one
pub record IsLeastSplit (lists : ℕ → List Record) (origin : Origin) (position : ℕ) (first second : Entry) : Type 0 where
  pub members : List Entry
  pub linked : IsLinked lists origin members
  pub at : position ≡ length members + 1
  pub split : IsStanding lists (services_below origin.services) (voters_behind origin members) position (Split first second)
  pub least : (k : ℕ) → k < position → AgreesAt lists origin k

-- the same, known by the names of the two
pub record NamesSplit (lists : ℕ → List Record) (origin : Origin) (position : ℕ) (first second : List ℕ) : Type 0 where
  pub one : Entry
  pub other : Entry
  pub split : IsLeastSplit lists origin position one other
  pub first_is : first ≡ name_of one
  pub second_is : second ≡ name_of other

-- a dump's genesis is known by its name; its plan is a first plan over all services
abbrev pub origin_of : List ℕ → ℕ → Origin
origin_of genesis services = record { name = genesis; plan = even_plan services 1; services = services }

-- the chain behind the genesis, where no position has two chosen entries; else the split of least position
abbrev pub AuditsLists : (ℕ → List Record) → Origin → Audit → Type 0
AuditsLists lists origin (audits.Linked entries) = Agrees lists origin × IsChain lists origin entries
AuditsLists lists origin (audits.Split position first second) = NamesSplit lists origin position first.0 second.0

abbrev pub IsAudit : Dump → Audit → Type 0
IsAudit dump audit = AuditsLists (lists_of dump.lists) (origin_of dump.genesis.0 dump.services) audit
