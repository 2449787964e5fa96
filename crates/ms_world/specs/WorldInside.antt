-- What holds of the fields of each world.
use Rattle.ms_world.specs.declared.world.World.TheInside.{Inside}
use Rattle.ms_world.specs.Held.{HeldView, IsReached}
use Rattle.ms_world.specs.Worlds.{votes_of_world}
use Rattle.ms_record.specs.Chains.{IsLinked}
use Rattle.ms_record.specs.Settings.{IsSetting, origin_of}

abbrev pub seen : Inside → HeldView
seen w = record { setting = w.setting; world = w.state; steps = w.steps }

-- some events lead to it, and the chain is brought up to date so far
pub record IsKept (w : Inside) : Type 0 where
  pub set : IsSetting w.setting
  pub reached : IsReached w.setting w.state
  pub linked : IsLinked (votes_of_world w.state) (origin_of w.setting) w.chain
