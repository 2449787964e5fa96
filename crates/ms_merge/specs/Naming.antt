-- The names that were given.
use Rattle.std.specs.Prelude.{◌≡◌, ℕ, List, ◌++◌, bytes_eq, is_some}
use Rattle.std.specs.List.{list_any}
use Rattle.std.specs.Map.{keys_of}
use Rattle.std.specs.Option.{option_or}
use Rattle.ms_tree.specs.Files.{FileList, text_at}
use Rattle.ms_tree.specs.Merging.{AreTagged}

-- the names in order are those at which a text stands
pub record IsGiven (by_name order : FileList) : Type 0 where
  pub same : (name : List ℕ) → is_some (text_at by_name name) ≡ list_any (bytes_eq name) (keys_of order)

-- names were given to the files one after the other, and the texts stand there too
pub record IsNamed (base ours theirs : FileList) (tag : List ℕ) (files given more old new : FileList) : Type 0 where
  pub named : FileList
  pub is : more ≡ given ++ named
  pub are : AreTagged base ours theirs tag (keys_of given) files named
  pub there : (path : List ℕ) → text_at new path ≡ option_or (text_at named path) (text_at old path)
