-- A configuration of which some lines were read.
use Rattle.std.specs.Prelude.{◌≡◌, ℕ, ◌+◌, ◌/◌, ◌^◌, ◌<◌, ◌≤◌, ◌==◌, ◌&&◌, not, nat_le, nat_lt, bytes_eq, Bool, List, [], ◌∷◌, ◌++◌, length, map, slice_get, Option, Some, None, if◌then◌else◌}
use Rattle.std.specs.List.{list_any}
use Rattle.ms_base.specs.declared.limits.TheConstants.{CLIENTS, COPIES, SERVICES}
use Rattle.ms_plan.specs.declared.config_line.Line.{Line}
use Rattle.ms_plan.specs.declared.config_line.Line.TheVariants as forms
use Rattle.ms_plan.specs.declared.config_line.ServiceLine.{ServiceLine}
use Rattle.ms_text.specs.Labels.{IsClientLabel}

-- what the head says, the services, and the labels of the clients, in their order
pub record DraftView : Type 0 where
  pub replicas : ℕ
  pub unit : ℕ
  pub services : List ServiceLine
  pub clients : List (List ℕ)

-- of line 1: as many replicas as there may be services, at least one, and a unit
abbrev pub begun : ℕ → ℕ → Option DraftView
begun replicas unit =
    if nat_le 1 replicas && nat_le replicas SERVICES && nat_le 1 unit then Some (record { replicas = replicas; unit = unit; services = []; clients = [] }) else None

-- the capacity is a number of units, rounded down, that there may be of copies
abbrev pub has_copies : ℕ → ℕ → Bool
has_copies unit capacity = nat_le 1 (capacity / unit) && nat_le (capacity / unit) COPIES

-- a service more, where there is room, before the clients: with copies, and a label that no service has
abbrev pub with_service : DraftView → ServiceLine → Option DraftView
with_service draft service =
    if (length draft.clients == 0) && nat_lt (length draft.services) SERVICES && has_copies draft.unit service.capacity
    && not (list_any (λ (s : ServiceLine). bytes_eq s.label service.label) draft.services)
    then Some (record draft { services = draft.services ++ service ∷ [] }) else None

-- a client more, behind the services, of which there are as many as replicas, where there is room: with a label that no client has
abbrev pub with_client : DraftView → List ℕ → Option DraftView
with_client draft label =
    if nat_le draft.replicas (length draft.services) && nat_lt (length draft.clients) CLIENTS && not (list_any (λ l. bytes_eq l label) draft.clients)
    then Some (record draft { clients = draft.clients ++ label ∷ [] }) else None

-- on with a line, where it is right in its place
abbrev pub with_line : Option DraftView → Line → Option DraftView
with_line None (forms.Head replicas unit) = begun replicas unit
with_line None (forms.Service service) = None
with_line None (forms.Client label) = None
with_line (Some draft) (forms.Head replicas unit) = None
with_line (Some draft) (forms.Service service) = with_service draft service
with_line (Some draft) (forms.Client label) = with_client draft label

abbrev pub labels_of : List ServiceLine → List (List ℕ)
labels_of services = map (λ (s : ServiceLine). s.label) services

-- each is a label, and no two are alike
pub record AreLabels (labels : List (List ℕ)) : Type 0 where
  pub form : (i : ℕ) (label : List ℕ) → slice_get labels i ≡ Some label → IsClientLabel label
  pub differ : (i j : ℕ) (label : List ℕ) → slice_get labels i ≡ Some label → slice_get labels j ≡ Some label → i ≡ j

-- a capacity of so many units, rounded down, as there may be copies
pub record IsCapacity (unit capacity : ℕ) : Type 0 where
  pub some_copies : 1 ≤ capacity / unit
  pub few_copies : capacity / unit ≤ COPIES

-- what holds of what was read
pub record IsDraft (draft : DraftView) : Type 0 where
  pub some_replicas : 1 ≤ draft.replicas
  pub few_replicas : draft.replicas ≤ SERVICES
  pub some_unit : 1 ≤ draft.unit
  pub few_services : length draft.services ≤ SERVICES
  pub few_clients : length draft.clients ≤ CLIENTS
  pub capacities : (i : ℕ) (service : ServiceLine) → slice_get draft.services i ≡ Some service → IsCapacity draft.unit service.capacity
  pub service_labels : AreLabels (labels_of draft.services)
  pub client_labels : AreLabels draft.clients
  pub enough : 0 < length draft.clients → draft.replicas ≤ length draft.services

-- its numbers have 64 bits
pub record AreNumbers (draft : DraftView) : Type 0 where
  pub unit : draft.unit < 2 ^ 64
  pub capacities : (i : ℕ) (service : ServiceLine) → slice_get draft.services i ≡ Some service → service.capacity < 2 ^ 64

-- how many lines were read
abbrev pub lines_in : DraftView → ℕ
lines_in draft = 1 + length draft.services + length draft.clients
