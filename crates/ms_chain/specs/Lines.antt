-- Lines of members: a setting, and what is linked on behind its genesis.
use Rattle.std.specs.Prelude.{List}
use Rattle.ms_record.specs.declared.entry.Entry.{Entry}
use Rattle.ms_record.specs.declared.setting.Setting.{Setting}

pub record LineView : Type 0 where
  pub setting : Setting
  pub members : List Entry
