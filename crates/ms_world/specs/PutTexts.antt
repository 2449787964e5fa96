-- When a version is placed by the first text that was put under each name.
use Rattle.std.specs.Prelude.{◌≡◌, ℕ, ◌==◌, ◌&&◌, bytes_eq, List, [], ◌∷◌, Option, Some, None, Contains, slice_index_or, if◌then◌else◌}
use Rattle.std.specs.Option.{option_or}
use Rattle.sha2.specs.Sha256.{sha256}
use Rattle.ms_base.specs.declared.names.Name.{Name}
use Rattle.ms_core.specs.Placing.{PlacedBy}
use Rattle.ms_record.specs.declared.log.LogEvent.{LogEvent}
use Rattle.ms_record.specs.declared.log.LogEvent.TheVariants.{Put}
use Rattle.ms_record.specs.Logs.{HasPut}
use Rattle.ms_record.specs.Plans.{PlanView}

-- the text that an event puts under that name in that generation
abbrev pub text_put_by : ℕ → Name → LogEvent → Option (List ℕ)
text_put_by generation name (Put g x text) = if (g == generation) && bytes_eq x.0 name.0 then Some text else None
text_put_by generation name _ = None

-- the first text that a log puts under that name in that generation
abbrev pub text_put : ℕ → Name → List LogEvent → Option (List ℕ)
text_put generation name [] = None
text_put generation name (event ∷ log) = option_or (text_put_by generation name event) (text_put generation name log)

-- the same of all logs, in the order of the services
abbrev pub text_of_puts : List (List LogEvent) → ℕ → Name → Option (List ℕ)
text_of_puts [] generation name = None
text_of_puts (log ∷ logs) generation name = option_or (text_put generation name log) (text_of_puts logs generation name)

-- placed by the first text that was put under each name, where these are the logs of the services
pub record IsPlacedInLogs (logs : List (List LogEvent)) (plan : PlanView) (version : Name) : Type 0 where
  pub placed : PlacedBy (λ s name. HasPut (slice_index_or logs s []) plan.generation name) plan version
  pub texts : (name : Name) (text : List ℕ) → placed.store name.0 ≡ Some text → text_of_puts logs plan.generation name ≡ Some text

-- each text was put under its SHA-256
abbrev pub ArePutsNamed : List LogEvent → Type 0
ArePutsNamed log = (generation : ℕ) (name : Name) (text : List ℕ) → Contains log (Put generation name text) → name.0 ≡ sha256 text
