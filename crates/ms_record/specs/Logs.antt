-- The log of a service: its votes, and the objects that it was given.
use Rattle.std.specs.Prelude.{ℕ, ◌≤◌, ◌==◌, List, [], ◌∷◌, Contains, if◌then◌else◌}
use Rattle.ms_base.specs.declared.names.Name.{Name}
use Rattle.ms_record.specs.declared.log.LogEvent.{LogEvent}
use Rattle.ms_record.specs.declared.log.LogEvent.TheVariants.{Rec, Put, Drop}
use Rattle.ms_record.specs.declared.record.Record.{Record}
use Rattle.ms_record.specs.Reading.{votes_of}

-- the texts of the list with this number, in order
abbrev pub texts_in : ℕ → List LogEvent → List (List ℕ)
texts_in number [] = []
texts_in number (Rec list text ∷ log) = if list.0 == number then text ∷ texts_in number log else texts_in number log
texts_in number (Put generation name text ∷ log) = texts_in number log
texts_in number (Drop floor ∷ log) = texts_in number log

-- the texts of the vote list
abbrev pub vote_texts : List LogEvent → List (List ℕ)
vote_texts log = texts_in 0 log

-- the records of list 0, in order; texts that are none are skipped
abbrev pub votes_in : List LogEvent → List Record
votes_in log = votes_of (vote_texts log)

-- a text of that name was put in that generation
abbrev pub HasPut : List LogEvent → ℕ → Name → Type 0
HasPut log generation name = (text : List ℕ) × Contains log (Put generation name text)

-- the log has no drop above the generation
abbrev pub NoDropAbove : List LogEvent → ℕ → Type 0
NoDropAbove log generation = (floor : ℕ) → Contains log (Drop floor) → floor ≤ generation

-- a put of that name in that generation stands: it is there, and no drop above the generation
pub record Stands (log : List LogEvent) (generation : ℕ) (name : Name) : Type 0 where
  pub put : HasPut log generation name
  pub kept : NoDropAbove log generation
