-- What is printed of a report, and its status: `docs/FORMATS.md`, reports.
use Rattle.std.specs.Prelude.{ℕ, ◌+◌, List, [], ◌∷◌, ◌++◌, codes, length, Option, Some, None}
use Rattle.std.specs.Fmt.{decimal}
use Rattle.hex.specs.Hex.{encode_lower}
use Rattle.ms_base.specs.declared.names.Name.{Name}
use Rattle.ms_base.specs.declared.names.Quantity.{Quantity}
use Rattle.ms_base.specs.declared.names.Quantity.TheVariants as quantities
use Rattle.ms_record.specs.declared.entry.Entry.{Entry}
use Rattle.ms_record.specs.declared.refusal.Place.{Place}
use Rattle.ms_record.specs.declared.refusal.Place.TheVariants as places
use Rattle.ms_record.specs.declared.refusal.Refusal.{Refusal}
use Rattle.ms_record.specs.declared.key.Key.{Key}
use Rattle.ms_record.specs.declared.key.Key.TheVariants as keys
use Rattle.ms_record.specs.declared.refusal.Reason.{Reason}
use Rattle.ms_record.specs.declared.refusal.Reason.TheVariants as reasons
use Rattle.ms_record.specs.declared.refusal.ReasonRow.{ReasonRow}
use Rattle.ms_record.specs.declared.refusal.Refusal.TheVariants.{Usage, BadInput, OutsideFault, NoMajority, Contended, LostObject, NoMemory, LocalDamaged, Split, Limit, Collected, TooFew, NotEnabled, Unlisted, Broken}
use Rattle.ms_record.specs.declared.refusal.Rival.{Rival}
use Rattle.ms_record.specs.declared.refusal.Why.{Why}
use Rattle.ms_record.specs.declared.refusal.Why.TheVariants as whys
use Rattle.ms_record.specs.Entries.{name_of}
use Rattle.ms_record.specs.Plans.{PlanView}
use Rattle.ms_words.specs.declared.report.Report.{Report}
use Rattle.ms_words.specs.declared.report.Report.TheVariants.{Audit, Drill, Hash, Refused}

abbrev pub refusal_status : Refusal → ℕ
refusal_status Usage = 1
refusal_status (BadInput place line) = 2
refusal_status (OutsideFault place) = 3
refusal_status (NoMajority failed) = 5
refusal_status (Contended rivals) = 6
refusal_status (LostObject name rows) = 7
refusal_status NoMemory = 8
refusal_status (LocalDamaged key) = 9
refusal_status (Split position first second) = 10
refusal_status (Limit what value) = 11
refusal_status (Collected floor) = 13
refusal_status (TooFew name failed) = 14
refusal_status (NotEnabled event why) = 16
refusal_status (Unlisted service ballot) = 17
refusal_status (Broken name) = 18

abbrev pub status_of : Report → ℕ
status_of (Refused refusal) = refusal_status refusal
status_of (Audit genesis entries) = 0
status_of (Drill genesis entries known) = 0
status_of (Hash files objects root) = 0

-- where a fault is
abbrev pub place_word : Place → List ℕ
place_word places.Config = codes "config"
place_word places.Input = codes "input"
place_word places.Desk = codes "desk"
place_word places.Work = codes "work"
place_word places.Keep = codes "keep"

-- a wrong line is one of the configuration or of an input
abbrev pub text_word : Place → List ℕ
text_word places.Config = codes "config"
text_word _ = codes "input"

abbrev pub quantity_word : Quantity → List ℕ
quantity_word quantities.Service = codes "service"
quantity_word quantities.Clients = codes "clients"
quantity_word quantities.Path = codes "path"
quantity_word quantities.Part = codes "part"
quantity_word quantities.Levels = codes "levels"
quantity_word quantities.File = codes "file"
quantity_word quantities.Files = codes "files"
quantity_word quantities.Total = codes "total"
quantity_word quantities.Object = codes "object"
quantity_word quantities.Position = codes "position"
quantity_word quantities.Round = codes "round"
quantity_word quantities.Number = codes "number"
quantity_word quantities.Generation = codes "generation"
quantity_word quantities.Input = codes "input"
quantity_word quantities.Events = codes "events"
quantity_word quantities.Asked = codes "asked"

-- the condition of an event that fails
abbrev pub why_word : Why → List ℕ
why_word whys.Client = codes "client"
why_word whys.On = codes "on"
why_word whys.Off = codes "off"
why_word whys.Position = codes "position"
why_word whys.Round = codes "round"
why_word whys.Placed = codes "placed"
why_word whys.Plan = codes "plan"
why_word whys.Request = codes "request"
why_word whys.Service = codes "service"
why_word whys.Prefix = codes "prefix"
why_word whys.Bid = codes "bid"
why_word whys.Promises = codes "promises"
why_word whys.Nothing = codes "nothing"
why_word whys.Chosen = codes "chosen"
why_word whys.Generation = codes "generation"
why_word whys.Turned = codes "turned"

unfoldable pub kind_word : Option PlanView → List ℕ
kind_word None = codes " push "
kind_word (Some plan) = codes " plan "

-- the generation of a plan
unfoldable pub generation_word : Option PlanView → List ℕ
generation_word None = []
generation_word (Some plan) = codes " " ++ decimal plan.generation

-- the client, its number and the version
unfoldable pub author_text : Entry → List ℕ
author_text e = decimal e.client.0 ++ codes " " ++ decimal e.number ++ codes " " ++ encode_lower e.version.0

-- `K NAME push CLIENT NUMBER VERSION` or `K NAME plan CLIENT NUMBER VERSION GENERATION`
unfoldable pub member_line : ℕ → Entry → List ℕ
member_line k e = decimal k ++ codes " " ++ encode_lower (name_of e) ++ kind_word e.plan ++ author_text e ++ generation_word e.plan ++ codes "\n"

abbrev pub member_lines : ℕ → List Entry → List ℕ
member_lines k [] = []
member_lines k (e ∷ es) = member_line k e ++ member_lines (k + 1) es

-- the genesis, the members by position, and the last position
unfoldable pub audit_text : List ℕ → List Entry → List ℕ
audit_text genesis entries =
    codes "0 " ++ encode_lower genesis ++ codes "\n" ++ member_lines 1 entries ++ codes "end " ++ decimal (length entries) ++ codes "\n"

-- `client C knows K`
unfoldable pub known_line : ℕ → ℕ → List ℕ
known_line client k = codes "client " ++ decimal client ++ codes " knows " ++ decimal k ++ codes "\n"

-- the position that each client knows, by number
abbrev pub known_lines : ℕ → List ℕ → List ℕ
known_lines client [] = []
known_lines client (k ∷ ks) = known_line client k ++ known_lines (client + 1) ks

-- the chain, and what each client knows
unfoldable pub drill_text : List ℕ → List Entry → List ℕ → List ℕ
drill_text genesis entries known = audit_text genesis entries ++ known_lines 0 known

-- the number of files and of objects, and the root
unfoldable pub hash_text : ℕ → ℕ → List ℕ → List ℕ
hash_text files objects root = codes "files " ++ decimal files ++ codes "\nobjects " ++ decimal objects ++ codes "\nroot " ++ encode_lower root ++ codes "\n"

-- `bad TEXT LINE`
unfoldable pub bad_line : Place → ℕ → List ℕ
bad_line place line = codes "bad " ++ text_word place ++ codes " " ++ decimal line ++ codes "\n"

-- `fault PLACE`
unfoldable pub fault_line : Place → List ℕ
fault_line place = codes "fault " ++ place_word place ++ codes "\n"

-- the numbers of services, each behind a space
abbrev pub service_words : List ℕ → List ℕ
service_words [] = []
service_words (s ∷ services) = codes " " ++ decimal s ++ service_words services

-- `no majority` and the numbers of the services that failed
unfoldable pub no_majority_line : List ℕ → List ℕ
no_majority_line failed = codes "no majority" ++ service_words failed ++ codes "\n"

-- `service S round ROUND client C`
unfoldable pub rival_line : Rival → List ℕ
rival_line rival = codes "service " ++ decimal rival.service.0 ++ codes " round " ++ decimal rival.top.round ++ codes " client " ++ decimal rival.top.client.0 ++ codes "\n"

abbrev pub rival_lines : List Rival → List ℕ
rival_lines [] = []
rival_lines (rival ∷ rivals) = rival_line rival ++ rival_lines rivals

-- why a service did not give an object's bytes: `failed`, `absent` or `altered HASH`
unfoldable pub reason_word : Reason → List ℕ
reason_word reasons.Failed = codes "failed"
reason_word reasons.Absent = codes "absent"
reason_word (reasons.Altered found) = codes "altered " ++ encode_lower found.0

-- `service S REASON`
unfoldable pub reason_line : ReasonRow → List ℕ
reason_line row = codes "service " ++ decimal row.service.0 ++ codes " " ++ reason_word row.reason ++ codes "\n"

abbrev pub reason_lines : List ReasonRow → List ℕ
reason_lines [] = []
reason_lines (row ∷ rows) = reason_line row ++ reason_lines rows

-- `lost NAME`, then a line for each service that was asked
unfoldable pub lost_lines : Name → List ReasonRow → List ℕ
lost_lines name rows = codes "lost " ++ encode_lower name.0 ++ codes "\n" ++ reason_lines rows

-- `damaged state` or `damaged NAME`
unfoldable pub damaged_line : Key → List ℕ
damaged_line keys.State = codes "damaged state\n"
damaged_line (keys.Object name) = codes "damaged " ++ encode_lower name.0 ++ codes "\n"

-- `collected FLOOR`
unfoldable pub collected_line : ℕ → List ℕ
collected_line floor = codes "collected " ++ decimal floor ++ codes "\n"

-- `too few NAME` and the numbers of the services that failed
unfoldable pub too_few_line : Name → List ℕ → List ℕ
too_few_line name failed = codes "too few " ++ encode_lower name.0 ++ service_words failed ++ codes "\n"

-- `broken NAME`
unfoldable pub broken_line : Name → List ℕ
broken_line name = codes "broken " ++ encode_lower name.0 ++ codes "\n"

-- `unlisted S`
unfoldable pub unlisted_line : ℕ → List ℕ
unlisted_line service = codes "unlisted " ++ decimal service ++ codes "\n"

-- `split POSITION NAME NAME`
unfoldable pub split_line : ℕ → Name → Name → List ℕ
split_line position first second = codes "split " ++ decimal position ++ codes " " ++ encode_lower first.0 ++ codes " " ++ encode_lower second.0 ++ codes "\n"

-- `limit QUANTITY VALUE`
unfoldable pub limit_line : Quantity → ℕ → List ℕ
limit_line what value = codes "limit " ++ quantity_word what ++ codes " " ++ decimal value ++ codes "\n"

-- `event NUMBER WHY`
unfoldable pub event_line : ℕ → Why → List ℕ
event_line event why = codes "event " ++ decimal event ++ codes " " ++ why_word why ++ codes "\n"

abbrev pub refusal_text : Refusal → List ℕ
refusal_text Usage = codes "usage\n"
refusal_text (BadInput place line) = bad_line place line
refusal_text (OutsideFault place) = fault_line place
refusal_text (NoMajority failed) = no_majority_line failed
refusal_text (Contended rivals) = codes "contended\n" ++ rival_lines rivals
refusal_text (LostObject name rows) = lost_lines name rows
refusal_text NoMemory = codes "no memory\n"
refusal_text (LocalDamaged key) = damaged_line key
refusal_text (Split position first second) = split_line position first second
refusal_text (Limit what value) = limit_line what value
refusal_text (Collected floor) = collected_line floor
refusal_text (TooFew name failed) = too_few_line name failed
refusal_text (NotEnabled event why) = event_line event why
refusal_text (Unlisted service ballot) = unlisted_line service.0
refusal_text (Broken name) = broken_line name

-- it has more lines than one
abbrev pub HasManyLines : Refusal → Type 0
HasManyLines (Contended rivals) = Unit {0}
HasManyLines (LostObject name rows) = Unit {0}
HasManyLines refusal = ⊥

abbrev pub text_of : Report → List ℕ
text_of (Audit genesis entries) = audit_text genesis.0 entries
text_of (Drill genesis entries known) = drill_text genesis.0 entries known
text_of (Hash files objects root) = hash_text files objects root.0
text_of (Refused refusal) = refusal_text refusal
