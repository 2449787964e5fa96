-- The lines of a configuration: each is one JSON value, and has one of three forms.
use Rattle.std.specs.Prelude.{ℕ, ◌==◌, ◌&&◌, codes, List, Option, Some, None, if◌then◌else◌, option_and_then}
use Rattle.std.specs.Option.{option_map_or}
use Rattle.std.specs.Str.{is_utf8}
use Rattle.serde_json.specs.Data.{Data, number, object, string, member, no_members, unsigned}
use Rattle.serde_json.specs.Events.{members_len}
use Rattle.serde_json.specs.Find.{get, as_number, as_object, as_str, as_u64}
use Rattle.serde_json.specs.Read.{read}
use Rattle.ms_base.specs.Options.{◌>>=◌}
use Rattle.ms_text.specs.Labels.{IsClientLabel, label_if}
use Rattle.ms_plan.specs.declared.config_line.Line.{Line}
use Rattle.ms_plan.specs.declared.config_line.Line.TheVariants as forms

-- the value that `serde_json` reads of a line; none where it is no UTF-8 or no JSON
abbrev pub json_of : List ℕ → Option Data
json_of line = if is_utf8 line then read line else None

-- how many keys an object has; each has one value
abbrev pub key_count : Data → ℕ
key_count d = option_map_or members_len (as_object d) 0

-- the whole number at a key
abbrev pub number_in : Data → List ℕ → Option ℕ
number_in d key = option_and_then as_u64 (option_and_then as_number (get key d))

-- the label at a key
abbrev pub label_in : Data → List ℕ → Option (List ℕ)
label_in d key = option_and_then label_if (option_and_then as_str (get key d))

-- exactly the keys `metasync`, which is 1, `replicas` and `unit`
unfoldable pub head_in : Data → Option Line
head_in d = do
  version ← number_in d (codes "metasync")
  replicas ← number_in d (codes "replicas")
  unit ← number_in d (codes "unit")
  if (key_count d == 3) && (version == 1) then Some (forms.Head replicas unit) else None

-- exactly the keys `service` and `capacity`
unfoldable pub service_in : Data → Option Line
service_in d = do
  label ← label_in d (codes "service")
  capacity ← number_in d (codes "capacity")
  if key_count d == 2 then Some (forms.Service (record { label = label; capacity = capacity })) else None

-- exactly the key `client`
unfoldable pub client_in : Data → Option Line
client_in d = do
  label ← label_in d (codes "client")
  if key_count d == 1 then Some (forms.Client label) else None

-- the form that the line has: no two have the same number of keys
abbrev pub first_of : Option Line → Option Line → Option Line
first_of (Some line) other = Some line
first_of None other = other

abbrev pub line_in : Data → Option Line
line_in d = first_of (head_in d) (first_of (service_in d) (client_in d))

-- what a line says
abbrev pub line_at : List ℕ → Option Line
line_at text = option_and_then line_in (json_of text)

-- the object that says it
abbrev pub data_of : Line → Data
data_of (forms.Head replicas unit) =
    object (member (codes "metasync") (number (unsigned 1)) (member (codes "replicas") (number (unsigned replicas)) (member (codes "unit") (number (unsigned unit)) no_members)))
data_of (forms.Service service) = object (member (codes "capacity") (number (unsigned service.capacity)) (member (codes "service") (string service.label) no_members))
data_of (forms.Client label) = object (member (codes "client") (string label) no_members)

-- where it has a label, that is one
abbrev pub HasLabel : Line → Type 0
HasLabel (forms.Head replicas unit) = Unit {0}
HasLabel (forms.Service service) = IsClientLabel service.label
HasLabel (forms.Client label) = IsClientLabel label
