-- Stores beside each other.
use Rattle.std.specs.Prelude.{◌≡◌, ◌≢◌, ℕ, List, Some}
use Rattle.sha2.specs.Sha256.{sha256}
use Rattle.ms_object.specs.Trees.{Texts}

-- each text stands under its SHA-256
abbrev pub AreNamed : Texts → Type 0
AreNamed store = (name text : List ℕ) → store name ≡ Some text → name ≡ sha256 text

-- the new store has whatever the old one has
abbrev pub HasAll : Texts → Texts → Type 0
HasAll new old = (name text : List ℕ) → old name ≡ Some text → new name ≡ Some text

-- a text of the one store and a different text of the other have one SHA-256
pub record StoresCollide (one other : Texts) : Type 0 where
  pub first : List ℕ
  pub second : List ℕ
  pub has_first : one (sha256 first) ≡ Some first
  pub has_second : other (sha256 second) ≡ Some second
  pub differ : first ≢ second
  pub same_name : sha256 first ≡ sha256 second
