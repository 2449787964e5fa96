-- What the command `drill` answers: the chain of the logs that a run leaves and what each client knows, or the event that
-- can't happen, or what is wrong with the text.
use Rattle.std.specs.Prelude.{◌≡◌, ◌≢◌, ◌⊎◌, ℕ, ◌+◌, All, List, ◌∷◌, ◌++◌, length, map, slice_get, Some, Result, Ok, Err}
use Rattle.ms_base.specs.declared.names.Name.{Name}
use Rattle.ms_world.specs.declared.event.Event.{Event}
use Rattle.ms_world.specs.Held.{HeldView}
use Rattle.ms_world.specs.Refusals.{IsRefused}
use Rattle.ms_world.specs.Steps.{IsEvent, IsRun}
use Rattle.ms_world.specs.Worlds.{ClientView, WorldView, votes_of_world}
use Rattle.ms_drill.specs.declared.drill.Drill.{Drill}
use Rattle.ms_drill.specs.Drills.{drill_at}
use Rattle.ms_record.specs.declared.entry.Entry.{Entry}
use Rattle.ms_base.specs.declared.names.Quantity.{Quantity}
use Rattle.ms_record.specs.declared.refusal.Place.TheVariants as places
use Rattle.ms_record.specs.declared.refusal.Refusal.{Refusal}
use Rattle.ms_record.specs.declared.refusal.Refusal.TheVariants as refusals
use Rattle.ms_record.specs.declared.refusal.Why.{Why}
use Rattle.ms_record.specs.Chains.{Begins, IsChain}
use Rattle.ms_record.specs.Entries.{name_of}
use Rattle.ms_record.specs.Settings.{IsSetting, origin_of}
use Rattle.ms_words.specs.declared.report.Report.{Report}
use Rattle.ms_words.specs.declared.report.Report.TheVariants as reports
use Rattle.ms_top.specs.Inputs.{TextSays}

-- the last position that each client knows
abbrev pub known_of : WorldView → List ℕ
known_of w = map (λ (c : ClientView). length c.chain) w.clients

-- the chain of the logs begins with that of each client; of two clients' chains one begins the other; at a position they hold one
-- master
pub record HoldTogether (w : WorldView) (entries : List Entry) : Type 0 where
  pub begins : (client : ℕ) (c : ClientView) → slice_get w.clients client ≡ Some c → Begins c.chain entries
  pub one_list : (i j : ℕ) (c d : ClientView) → slice_get w.clients i ≡ Some c → slice_get w.clients j ≡ Some d → Begins c.chain d.chain ⊎ Begins d.chain c.chain
  pub one_master : (i j place : ℕ) (c d : ClientView) (e f : Entry) → slice_get w.clients i ≡ Some c → slice_get w.clients j ≡ Some d
      → slice_get c.chain place ≡ Some e → slice_get d.chain place ≡ Some f → e ≡ f

-- the setting and the events are in their ranges
pub record IsInRange (drill : Drill) : Type 0 where
  pub setting : IsSetting drill.setting
  pub events : All IsEvent drill.events

-- all events of the drill happen, and lead to a world with this chain of the logs and these last positions
pub record RunsWhole (drill : Drill) (genesis : Name) (entries : List Entry) (known : List ℕ) : Type 0 where
  pub ranges : IsInRange drill
  pub world : WorldView
  pub run : IsRun drill.setting drill.events world
  pub genesis_is : genesis.0 ≡ name_of drill.setting.genesis
  pub chain : IsChain (votes_of_world world) (origin_of drill.setting) entries
  pub together : HoldTogether world entries
  pub known_is : known ≡ known_of world

-- the events before it happen; of this one, with this number from 1, that condition is the first that fails
pub record StopsAt (drill : Drill) (number : ℕ) (why : Why) : Type 0 where
  pub ranges : IsInRange drill
  pub before : List Event
  pub event : Event
  pub rest : List Event
  pub all : drill.events ≡ before ++ event ∷ rest
  pub world : WorldView
  pub run : IsRun drill.setting before world
  pub number_is : number ≡ length before + 1
  pub refused : IsRefused drill.setting world event why

-- the chain and the last positions, or the event that can't happen
abbrev pub RunSays : Drill → Result Report Refusal → Type 0
RunSays drill result =
    ((genesis : Name) × (entries : List Entry) × (known : List ℕ) × RunsWhole drill genesis entries known × (result ≡ Ok (reports.Drill genesis entries known)))
    ⊎ ((number : ℕ) × (why : Why) × StopsAt drill number why × (result ≡ Err (refusals.NotEnabled number why)))

-- memory may run out for a schedule whose head is right and that has no more events than it may
pub record MayLackDrill (text : List ℕ) : Type 0 where
  pub head : drill_at text ≢ Err (refusals.BadInput places.Input 1)
  pub events : (what : Quantity) (value : ℕ) → drill_at text ≢ Err (refusals.Limit what value)

-- what the text of a drill is answered with
abbrev pub DrillSays : List ℕ → Result Report Refusal → Type 0
DrillSays = TextSays drill_at RunSays MayLackDrill

-- a world that all events of the drill lead to
pub record LeadsTo (drill : Drill) (held : HeldView) : Type 0 where
  pub ranges : IsInRange drill
  pub setting : held.setting ≡ drill.setting
  pub run : IsRun drill.setting drill.events held.world

-- that world, or the event that can't happen; or no memory
abbrev pub RunsEvents : Drill → Result HeldView Refusal → Type 0
RunsEvents drill (Ok held) = LeadsTo drill held
RunsEvents drill (Err (refusals.NotEnabled number why)) = StopsAt drill number why
RunsEvents drill (Err refusals.NoMemory) = Unit {0}
RunsEvents drill (Err _) = ⊥
