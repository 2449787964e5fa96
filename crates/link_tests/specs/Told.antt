-- A board on which a setting is told: what its clients may ask of a service, for the tests.
use Rattle.std.specs.Prelude.{◌≡◌, ℕ, ◌<◌, [], ◌∷◌}
use mathlib.Core.List.{IsPrefix}
use Rattle.ms_core.specs.Views.{View, configuration}
use Rattle.ms_ken.specs.Known.{TableId, Known}
use Rattle.ms_ken.specs.Lists.{list_at}
use Rattle.ms_record.specs.declared.item.Item.{Item}
use Rattle.ms_record.specs.declared.item.Item.TheVariants.{Told}
use Rattle.ms_record.specs.declared.setting.Setting.{Setting}
use Rattle.ms_record.specs.Settings.{IsSetting}

-- the configuration told first this setting
abbrev pub KnowsTold : Setting → View → Type 0
KnowsTold setting lists = IsPrefix (Told setting ∷ []) (list_at lists configuration)

-- the pass is of the board and knows the setting, which has the service, and the board has a word for it
pub record IsMember (table : TableId) (service : ℕ) (setting : Setting) (pass : Known Item) : Type 0 where
  pub on_board : pass.board ≡ table
  pub told : KnowsTold setting pass.lists
  pub ranges : IsSetting setting
  pub below : service < setting.services
  pub wide : service < table.words
