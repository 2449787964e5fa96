-- Stores: texts by their names.
use Rattle.std.specs.Prelude.{◌≡◌, ℕ, List, Option, Some, All, bytes_eq, if◌then◌else◌, unwrap_or}
use Rattle.std.specs.Map.{lookup, keys_of}
use Rattle.std.specs.declared.cmp.Ordering.{Ordering}
use Rattle.std.specs.Ordering.{nat_cmp, is_eq}
use Rattle.std.specs.Cmp.Lexicographic.{slice_cmp}
use Rattle.ms_base.specs.declared.names.Name.{Name}
use Rattle.ms_object.specs.Objects.{name_of}

-- the names with their texts
abbrev pub StoreView : Type 0
StoreView = List (Name × List ℕ)

-- names are compared by their bytes
abbrev pub name_cmp : Name → Name → Ordering
name_cmp a b = slice_cmp nat_cmp a.0 b.0

-- the text of this name
abbrev pub text_of : StoreView → List ℕ → Option (List ℕ)
text_of store name = lookup (λ key. is_eq (slice_cmp nat_cmp name key.0)) store

-- the names of the texts
abbrev pub names_in : StoreView → List Name
names_in store = keys_of store

-- each text stands under its SHA-256
abbrev pub AreNamed : StoreView → Type 0
AreNamed store = All (λ entry. entry.0.0 ≡ name_of entry.1) store

-- the text of a name once this text is added: under its own name it stands, where none did, and all else stays
abbrev pub text_after : (List ℕ → Option (List ℕ)) → List ℕ → List ℕ → Option (List ℕ)
text_after texts added name = if bytes_eq (name_of added) name then Some (unwrap_or (texts name) added) else texts name
