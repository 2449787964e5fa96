-- Kept objects: the texts that are kept under their own names, and what keeping objects and reading one leave, by the answer.
use Rattle.std.specs.Prelude.{◌≡◌, ◌⊎◌, ℕ, ◌≤◌, List, Option, Some, None, Result, Ok, Err, bytes_eq, if◌then◌else◌}
use Rattle.ms_base.specs.Counts.{Rose}
use Rattle.ms_base.specs.declared.names.Name.{Name}
use Rattle.ms_object.specs.Objects.{name_of}
use Rattle.ms_object.specs.Stores.{StoreView, text_of}
use Rattle.ms_record.specs.declared.key.Key.{Key}
use Rattle.ms_record.specs.declared.key.Key.TheVariants.{Object}
use Rattle.ms_record.specs.declared.refusal.Place.TheVariants.{Keep}
use Rattle.ms_record.specs.declared.refusal.Refusal.{Refusal}
use Rattle.ms_record.specs.declared.refusal.Refusal.TheVariants.{LocalDamaged, NoMemory, OutsideFault}
use Rattle.ms_local.specs.Keeping.{IsKeptSteady}
use Rattle.ms_local.specs.Outside.{IsKept, KeeperView, KeptTexts, MayBeKept, WhereTold}

-- the text, where this is its name
abbrev pub named_if : List ℕ → Option (List ℕ) → Option (List ℕ)
named_if name None = None
named_if name (Some text) = if bytes_eq (name_of text) name then Some text else None

-- what is kept as a store: under each name the text of its key, where that is the text's name
abbrev pub kept_store : KeptTexts → List ℕ → Option (List ℕ)
kept_store texts name = named_if name (texts (Object (record { 0 = name })))

-- the text of the key is that of one of the objects
pub record IsObjectOf (objects : StoreView) (key : Key) (kept : Option (List ℕ)) : Type 0 where
  pub name : Name
  pub text : List ℕ
  pub under : key ≡ Object name
  pub object : text_of objects name.0 ≡ Some text
  pub is : kept ≡ Some text

-- each key has what it had, or is that of an object, which it has
abbrev pub KeepsSome : StoreView → KeptTexts → KeptTexts → Type 0
KeepsSome objects old new = (key : Key) → (new key ≡ old key) ⊎ IsObjectOf objects key (new key)

-- each of the objects is kept
abbrev pub HasObjects : StoreView → KeptTexts → Type 0
HasObjects objects texts = (name : Name) (text : List ℕ) → text_of objects name.0 ≡ Some text → texts (Object name) ≡ Some text

-- all are kept; or some of them; no other refusal comes
abbrev pub KeepsObjects : StoreView → KeeperView → KeeperView → Result Unit Refusal → Type 0
KeepsObjects objects old new (Ok u) = WhereTold old.told (KeepsSome objects old.texts new.texts × HasObjects objects new.texts)
KeepsObjects objects old new (Err (OutsideFault Keep)) = Rose old.faults new.faults × WhereTold old.told (KeepsSome objects old.texts new.texts)
KeepsObjects objects old new (Err NoMemory) = WhereTold old.told (KeepsSome objects old.texts new.texts)
KeepsObjects objects old new (Err error) = ⊥

-- the text that is kept under its own name; or none is; no other refusal comes
abbrev pub ReadsObject : KeeperView → KeeperView → Name → Result (List ℕ) Refusal → Type 0
ReadsObject old new name (Ok text) = (name.0 ≡ name_of text) × WhereTold old.told (kept_store old.texts name.0 ≡ Some text)
ReadsObject old new name (Err (LocalDamaged key)) = (key ≡ Object name) × WhereTold old.told (kept_store old.texts name.0 ≡ None)
ReadsObject old new name (Err (OutsideFault Keep)) = Rose old.faults new.faults
ReadsObject old new name (Err NoMemory) = Unit {0}
ReadsObject old new name (Err error) = ⊥

-- ---- one write after the other

-- the object of this name is written, or may be
abbrev pub KeepsOne : StoreView → Name → KeeperView → KeeperView → Result Unit Refusal → Type 0
KeepsOne objects name old new (Ok u) = (text : List ℕ) × (text_of objects name.0 ≡ Some text) × WhereTold old.told (IsKept (Object name) text old.texts new.texts)
KeepsOne objects name old new (Err (OutsideFault Keep)) =
    (text : List ℕ) × (text_of objects name.0 ≡ Some text) × Rose old.faults new.faults × WhereTold old.told (MayBeKept (Object name) text old.texts new.texts)
KeepsOne objects name old new (Err NoMemory) = (text : List ℕ) × (text_of objects name.0 ≡ Some text) × WhereTold old.told (MayBeKept (Object name) text old.texts new.texts)
KeepsOne objects name old new (Err error) = ⊥

-- what writes leave of a keeper beside its texts
pub record KeeperGoes (old new : KeeperView) (result : Result Unit Refusal) : Type 0 where
  pub told : new.told ≡ old.told
  pub later : old.faults ≤ new.faults
  pub steady : IsKeptSteady old.faults new.faults result
