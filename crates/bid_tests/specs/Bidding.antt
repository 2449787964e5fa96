-- Desks at which a client may bid, on a board on which nothing is claimed.
use Rattle.ms_local.specs.declared.kept.Kept.{Kept}
use Rattle.ms_local.specs.Desks.{DeskView, IsDesk}
use Rattle.ms_local.specs.Keeping.{HasRanges}
use Rattle.ms_local.specs.Truths.{IsStateAt}
use Rattle.ms_propose.specs.Leaving.{IsSettingOf}
use Rattle.ms_record.specs.declared.setting.Setting.{Setting}
use Rattle.bid_tests.specs.Shelves.{KnowsUntold}

-- a client's desk under the setting, whose keeper has the state
pub record IsSeat (setting : Setting) (desk : DeskView) (kept : Kept) : Type 0 where
  pub is : IsDesk desk
  pub untold : KnowsUntold desk.pass.lists
  pub under : IsSettingOf setting desk
  pub state : IsStateAt 0 desk kept
  pub ranges : HasRanges kept
