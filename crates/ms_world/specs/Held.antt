-- A world that a run has reached.
use Rattle.std.specs.Prelude.{◌≡◌, ℕ, ◌+◌, ◌⊎◌, All, List, Result, Ok, Err}
use Rattle.ms_world.specs.declared.event.Event.{Event}
use Rattle.ms_world.specs.Refusals.{IsRefused, MayLackMemory}
use Rattle.ms_world.specs.Steps.{IsEvent, IsRun, Step}
use Rattle.ms_world.specs.Worlds.{WorldView}
use Rattle.ms_record.specs.declared.refusal.Refusal.{Refusal}
use Rattle.ms_record.specs.declared.refusal.Refusal.TheVariants as refusals
use Rattle.ms_record.specs.declared.setting.Setting.{Setting}

-- the setting, the world, and how many events were carried out
pub record HeldView : Type 0 where
  pub setting : Setting
  pub world : WorldView
  pub steps : ℕ

-- some events lead to the world
pub record IsReached (setting : Setting) (w : WorldView) : Type 0 where
  pub events : List Event
  pub fit : All IsEvent events
  pub run : IsRun setting events w

-- as many events as can be counted
abbrev pub most_steps : ℕ
most_steps = 18446744073709551615

-- the event is carried out; or the number of the event, from 1, and the first of its conditions that fails are named, and
-- nothing changes; or memory runs out, or the count, and nothing changes
abbrev pub StepsTo : HeldView → Event → HeldView → Result Unit Refusal → Type 0
StepsTo old event new (Ok _) = (new.setting ≡ old.setting) × (new.steps ≡ old.steps + 1) × Step old.setting old.world event new.world
StepsTo old event new (Err refusals.NoMemory) = (new ≡ old) × ((old.steps ≡ most_steps) ⊎ MayLackMemory old.setting old.world event)
StepsTo old event new (Err (refusals.NotEnabled number why)) = (number ≡ old.steps + 1) × IsRefused old.setting old.world event why × (new ≡ old)
StepsTo old event new (Err _) = ⊥
