-- What the logs have of a generation, by name: the first text, and which services were given one.
use Rattle.std.specs.Prelude.{◌≡◌, ℕ, ◌<◌, ◌==◌, ◌&&◌, ◌||◌, Bool, false, bytes_eq, is_some, List, [], Option, Some, None, slice_index_or, if◌then◌else◌}
use Rattle.std.specs.Map.{lookup}
use Rattle.std.specs.Ordering.{is_eq}
use Rattle.std.specs.Option.{option_or}
use Rattle.ms_base.specs.declared.limits.TheConstants.{SERVICES}
use Rattle.ms_base.specs.declared.names.Name.{Name}
use Rattle.ms_world.specs.declared.puts.Found.{Found}
use Rattle.ms_world.specs.PutTexts.{text_put, text_of_puts}
use Rattle.ms_object.specs.Stores.{name_cmp}
use Rattle.ms_record.specs.declared.log.LogEvent.{LogEvent}

-- what was put under each name
abbrev pub PutsView : Type 0
PutsView = List (Name × Found)

abbrev pub found_at : PutsView → Name → Option Found
found_at puts name = lookup (λ key. is_eq (name_cmp name key)) puts

abbrev pub text_found : Option Found → Option (List ℕ)
text_found None = None
text_found (Some found) = Some found.text.now

-- the service is marked
abbrev pub is_on : Option Found → ℕ → Bool
is_on None s = false
is_on (Some found) s = slice_index_or found.services s false

-- one text more, for each name that it was put under
pub record AddsTexts (given : Name → Option (List ℕ)) (service : ℕ) (old new : PutsView) : Type 0 where
  pub texts : (name : Name) → text_found (found_at new name) ≡ option_or (text_found (found_at old name)) (given name)
  pub services : (name : Name) (s : ℕ) → s < SERVICES → is_on (found_at new name) s ≡ (is_on (found_at old name) s || ((s == service) && is_some (given name)))

-- the text where the names are one
abbrev pub text_under : Name → List ℕ → Name → Option (List ℕ)
text_under put text name = if bytes_eq put.0 name.0 then Some text else None

-- the first text of each name in these logs, and which of the services 0 to 15 have one
pub record Knows (logs : List (List LogEvent)) (generation : ℕ) (puts : PutsView) : Type 0 where
  pub texts : (name : Name) → text_found (found_at puts name) ≡ text_of_puts logs generation name
  pub services : (name : Name) (s : ℕ) → s < SERVICES → is_on (found_at puts name) s ≡ is_some (text_put generation name (slice_index_or logs s []))
