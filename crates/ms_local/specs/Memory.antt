-- The outside in memory: what it holds, and the numbers of the calls that fail.
use Rattle.std.specs.Prelude.{ℕ, true, List, Option}
use Rattle.ms_base.specs.Memory.{Calls}
use Rattle.ms_object.specs.Stores.{StoreView, text_of}
use Rattle.ms_tree.specs.Files.{FileList}
use Rattle.ms_record.specs.declared.key.Key.TheVariants.{State, Object}
use Rattle.ms_local.specs.Outside.{KeeperView, KeptTexts, WorkView}

-- the text of the state, where there is one, and those of objects
pub record Shelf : Type 0 where
  pub state : Option (List ℕ)
  pub objects : StoreView
  pub calls : Calls

pub record Folder : Type 0 where
  pub files : FileList
  pub calls : Calls

abbrev pub texts_by : Option (List ℕ) → StoreView → KeptTexts
texts_by state objects State = state
texts_by state objects (Object name) = text_of objects name.0

-- both tell what they hold
abbrev pub keeper_of : Shelf → KeeperView
keeper_of shelf = record { told = true; texts = texts_by shelf.state shelf.objects; faults = shelf.calls.faults }

abbrev pub work_of : Folder → WorkView
work_of folder = record { told = true; files = folder.files; faults = folder.calls.faults }
