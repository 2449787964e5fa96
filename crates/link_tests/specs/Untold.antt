-- A board on which nothing is claimed: a small case of closed views, for the tests.
use Rattle.std.specs.Prelude.{◌≡◌, ℕ, ◌<◌, true, [], ◌∷◌}
use mathlib.Core.List.{IsPrefix}
use Rattle.ms_core.specs.Views.{View, configuration}
use Rattle.ms_ken.specs.Known.{TableId, Known}
use Rattle.ms_ken.specs.Lists.{list_at}
use Rattle.ms_link.specs.Links.{LinkView}
use Rattle.ms_record.specs.declared.item.Item.{Item}
use Rattle.ms_record.specs.declared.item.Item.TheVariants.{Untold}

-- the configuration told first that nothing is claimed
abbrev pub KnowsUntold : View → Type 0
KnowsUntold lists = IsPrefix (Untold ∷ []) (list_at lists configuration)

-- the pass of a client may ask for any event of the service
pub record IsReady (table : TableId) (service : ℕ) (pass : Known Item) : Type 0 where
  pub on_board : pass.board ≡ table
  pub untold : KnowsUntold pass.lists
  pub below : service < configuration

-- the link is of the board and tells its lists and objects, and the pass may ask it for any event
pub record IsAsking (board : TableId) (link : LinkView) (pass : Known Item) : Type 0 where
  pub of_board : board ≡ link.board
  pub lists : link.lists ≡ true
  pub objects : link.objects ≡ true
  pub ready : IsReady link.board link.service pass
