-- The configuration: what all clients agree on from the start, and the labels of services and clients.
use Rattle.std.specs.Prelude.{◌≡◌, ℕ, ◌+◌, nat_lt, List, [], ◌∷◌, length, Option, Some, None, Result, Ok, Err, option_and_then, option_map, if◌then◌else◌}
use Rattle.ms_base.specs.declared.names.ClientId.{ClientId}
use Rattle.ms_base.specs.declared.names.Name.{Name}
use Rattle.ms_object.specs.Objects.{empty_version, name_of}
use Rattle.ms_record.specs.Plans.{PlanView, plan_of}
use Rattle.ms_record.specs.Settings.{IsSetting, first_setting}
use Rattle.ms_record.specs.declared.plan.PlanRow.{PlanRow}
use Rattle.ms_record.specs.declared.refusal.Place.TheVariants as places
use Rattle.ms_record.specs.declared.refusal.Refusal.{Refusal}
use Rattle.ms_record.specs.declared.refusal.Refusal.TheVariants as refusals
use Rattle.ms_record.specs.declared.setting.Setting.{Setting}
use Rattle.ms_text.specs.Lines.{lines_of, read_lines}
use Rattle.ms_plan.specs.ConfigLines.{line_at}
use Rattle.ms_plan.specs.Drafts.{AreLabels, DraftView, labels_of, with_line}
use Rattle.ms_plan.specs.declared.config_line.ServiceLine.{ServiceLine}

-- the setting, and the labels of services and clients by their numbers
pub record ConfigView : Type 0 where
  pub setting : Setting
  pub services : List (List ℕ)
  pub clients : List (List ℕ)

-- the setting is in its ranges, and each service and client of it has a label of its own
pub record IsConfig (config : ConfigView) : Type 0 where
  pub setting : IsSetting config.setting
  pub services : length config.services ≡ config.setting.services
  pub clients : length config.clients ≡ config.setting.clients
  pub service_labels : AreLabels config.services
  pub client_labels : AreLabels config.clients

abbrev pub client_of : ℕ → ClientId
client_of n = record { 0 = n }

-- the name of a text
abbrev pub named : List ℕ → Name
named text = record { 0 = name_of text }

abbrev pub row_of : ℕ → ServiceLine → PlanRow
row_of number service = record { service = record { 0 = number }; capacity = service.capacity }

-- the services in their order, numbered from some number on
abbrev pub rows_from : ℕ → List ServiceLine → List PlanRow
rows_from number [] = []
rows_from number (service ∷ services) = row_of number service ∷ rows_from (number + 1) services

-- the first plan: generation 1, format 1, and all services
abbrev pub first_plan : DraftView → PlanView
first_plan draft = plan_of 1 1 draft.replicas draft.unit (rows_from 0 draft.services)

-- the setting, before whose genesis the SHA-256 of the whole text stands
abbrev pub setting_of : List ℕ → DraftView → Setting
setting_of text draft = first_setting (length draft.services) (length draft.clients) (named text) empty_version (first_plan draft)

abbrev pub config_of : List ℕ → DraftView → ConfigView
config_of text draft = record { setting = setting_of text draft; services = labels_of draft.services; clients = draft.clients }

-- on with a line of the text, where it is right in its place
abbrev pub draft_after : Option DraftView → List ℕ → Option DraftView
draft_after so_far line = option_and_then (with_line so_far) (line_at line)

abbrev pub config_line : Option DraftView → List ℕ → Option (Option DraftView)
config_line so_far line = option_map (λ (draft : DraftView). Some draft) (draft_after so_far line)

-- at the end there is a client
abbrev pub config_if : List ℕ → DraftView → Option ConfigView
config_if text draft = if nat_lt 0 (length draft.clients) then Some (config_of text draft) else None

abbrev pub whole : List ℕ → Option DraftView → Option ConfigView
whole text so_far = option_and_then (config_if text) so_far

-- the configuration that the text says, or its first wrong line
abbrev pub config_at : List ℕ → Result ConfigView ℕ
config_at text = read_lines config_line (whole text) 1 None (lines_of text)

-- the configuration, the first wrong line, or no memory; no other answer comes
abbrev pub ReadsConfig : Result ConfigView ℕ → Result ConfigView Refusal → Type 0
ReadsConfig said (Ok config) = said ≡ Ok config
ReadsConfig said (Err (refusals.BadInput places.Config line)) = said ≡ Err line
ReadsConfig said (Err refusals.NoMemory) = Unit {0}
ReadsConfig said (Err other) = ⊥
