-- Desks over services of the tests' own, on a board on which nothing is claimed.
use Rattle.std.specs.Prelude.{◌≡◌, ℕ, ◌<◌, ◌≤◌, false, List, [], ◌∷◌, length, Some, Result, Ok, Err}
use mathlib.Core.List.{IsPrefix}
use Rattle.ms_base.specs.Counts.{Rose}
use Rattle.ms_base.specs.declared.limits.TheConstants.{OBJECT_BYTES}
use Rattle.ms_core.specs.Views.{View, configuration, owner_of_client}
use Rattle.ms_ken.specs.Known.{TableId, Known}
use Rattle.ms_ken.specs.Lists.{list_at}
use Rattle.ms_link.specs.declared.fault.LinkError.{LinkError}
use Rattle.ms_link.specs.declared.fault.LinkError.TheVariants as errors
use Rattle.ms_link.specs.Links.{AllLead, LinkView}
use Rattle.ms_local.specs.Desks.{DeskView, IsDesk}
use Rattle.ms_object.specs.Stores.{StoreView, text_of}
use Rattle.ms_record.specs.declared.item.Item.{Item}
use Rattle.ms_record.specs.declared.item.Item.TheVariants.{Untold}

-- the configuration told first that nothing is claimed
abbrev pub KnowsUntold : View → Type 0
KnowsUntold lists = IsPrefix (Untold ∷ []) (list_at lists configuration)

-- the board is of 33 owners, and the pass is of it, owns the word of the client, and knows that nothing is claimed
pub record IsReady (board : TableId) (client : ℕ) (pass : Known Item) : Type 0 where
  pub owners : board.words ≡ 33
  pub on_board : pass.board ≡ board
  pub word : pass.word ≡ Some (owner_of_client client)
  pub untold : KnowsUntold pass.lists

-- a link of the tests' own, which tells nothing
abbrev pub shelf_view : TableId → ℕ → ℕ → LinkView
shelf_view board service faults = record { board = board; service = service; faults = faults; lists = false; objects = false }

-- at most sixteen links, which lead to the services of their places
pub record AreLinks (board : TableId) (links : List LinkView) : Type 0 where
  pub few : length links ≤ 16
  pub lead : AllLead board links

-- one lane of so many links, at least one and at most sixteen, which lead to the services of their places
pub record IsOneLane (board : TableId) (services : ℕ) (lanes : List (List LinkView)) : Type 0 where
  pub links : List LinkView
  pub one : lanes ≡ links ∷ []
  pub all : length links ≡ services
  pub some : 1 ≤ services
  pub few : services ≤ 16
  pub lead : AllLead board links

-- a desk that knows that nothing is claimed
pub record IsUntoldDesk (desk : DeskView) : Type 0 where
  pub is : IsDesk desk
  pub untold : KnowsUntold desk.pass.lists

-- what a call on a generation answers, and the counts of faults before and after it
abbrev pub Reaches : ℕ → ℕ → ℕ → Result Unit LinkError → Type 0
Reaches generation before after (Ok u) = before ≤ after
Reaches generation before after (Err errors.Failed) = (before ≤ after) × Rose before after
Reaches generation before after (Err (errors.Stale floor)) = (before ≤ after) × (generation < floor)
Reaches generation before after (Err errors.NoMemory) = ⊥

-- each text of the store is short enough to be put
abbrev pub AreShort : StoreView → Type 0
AreShort store = (name text : List ℕ) → text_of store name ≡ Some text → length text ≤ OBJECT_BYTES
