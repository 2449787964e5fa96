-- How a chain reads on at a desk.
use Rattle.std.specs.Prelude.{◌≡◌, ◌↔◌, ◌≤◌, ℕ, Bool, false, List, [], ◌∷◌, ◌++◌, Result, Ok, Err, Some, Contains, length, slice_get, slice_set}
use mathlib.Core.List.{IsPrefix}
use Rattle.ms_base.specs.declared.bytes.NoMemory.{NoMemory}
use Rattle.ms_link.specs.Links.{Learns as PassLearns}
use Rattle.ms_local.specs.declared.deed.Deed.{Deed}
use Rattle.ms_local.specs.Desks.{DeskView, LanesStay}
use Rattle.ms_local.specs.Learning.{ChainView, IsFailed, ReadsOn, StartsOn, texts_read}

-- the chain has read these texts more of the service's list
abbrev pub with_texts : ChainView → ℕ → List (List ℕ) → ChainView
with_texts chain s texts = record chain { lists = slice_set chain.lists s (texts_read chain s ++ texts) }

-- the chain has read all of the texts; or, without memory, a front of them
abbrev pub TakesTexts : ChainView → ChainView → ℕ → List (List ℕ) → Result Unit NoMemory → Type 0
TakesTexts old new s texts (Ok u) = new ≡ with_texts old s texts
TakesTexts old new s texts (Err error) = (front : List (List ℕ)) × IsPrefix front texts × (new ≡ with_texts old s front)

-- links were called and the pass learns, and deeds were noted; all else stays
pub record DeskGoes (old new : DeskView) : Type 0 where
  pub same : new ≡ record old { pass = new.pass; lanes = new.lanes; deeds = new.deeds }
  pub pass : PassLearns old.pass new.pass
  pub lanes : LanesStay old.lanes new.lanes

-- what the chain has read goes on, and its members stay
pub record ListsGoOn (old new : ChainView) : Type 0 where
  pub same : new ≡ record old { lists = new.lists }
  pub many : length new.lists ≡ length old.lists
  pub goes : (s : ℕ) → IsPrefix (texts_read old s) (texts_read new s)

-- by the one deed the service's list was read on; whether it failed
pub record IsRead (old new : ChainView) (before after : DeskView) (s : ℕ) (ok : Bool) : Type 0 where
  pub deed : Deed
  pub noted : after.deeds ≡ before.deeds ++ deed ∷ []
  pub reads : ReadsOn old new before after s deed
  pub failed : IsFailed deed ↔ (ok ≡ false)

-- nothing was read; or, by one deed, a front of what came was
pub record IsBroken (old new : ChainView) (before after : DeskView) (s : ℕ) : Type 0 where
  pub more : List Deed
  pub noted : after.deeds ≡ before.deeds ++ more
  pub few : length more ≤ 1
  pub starts : (place : ℕ) (deed : Deed) → slice_get more place ≡ Some deed → StartsOn old new before after s deed
  pub none : length more ≡ 0 → texts_read new s ≡ texts_read old s

abbrev pub ReadsOne : ChainView → ChainView → DeskView → DeskView → ℕ → Result Bool NoMemory → Type 0
ReadsOne old new before after s (Ok ok) = IsRead old new before after s ok
ReadsOne old new before after s (Err error) = IsBroken old new before after s

-- the lists of the services below n were read on, by one deed each in their order; these failed
pub record ReadsUpTo (old new : ChainView) (before after : DeskView) (n : ℕ) (failed : List ℕ) : Type 0 where
  pub more : List Deed
  pub noted : after.deeds ≡ before.deeds ++ more
  pub all : length more ≡ n
  pub each : (s : ℕ) (deed : Deed) → slice_get more s ≡ Some deed → ReadsOn old new before after s deed
  pub no_others : (s : ℕ) → n ≤ s → texts_read new s ≡ texts_read old s
  pub failed_are : (s : ℕ) → Contains failed s ↔ ((deed : Deed) × (slice_get more s ≡ Some deed) × IsFailed deed)
