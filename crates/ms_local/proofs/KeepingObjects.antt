-- Objects are kept one after the other.
use Rattle.std.proofs.Common.{◌≡◌, ◌≢◌, ℕ, ◌+◌, ◌<◌, ◌≤◌, true, false, Bool, List, Option, Some, None, Result, Ok, Err, refl, sym, ap, ◌∙◌, subst, ◌⊎◌, inl, inr, arith, slice_get, slice_index_or, length, if◌then◌else◌}
use Rattle.std.specs.Prelude.{Contains, IsSome, bytes_eq, ◌↔◌}
use Rattle.std.proofs.lemmas.Bool.{cases_lt}
use Rattle.std.proofs.lemmas.Option.{slice_get-get_or, slice_get_within}
use Rattle.std.proofs.lemmas.Slice.Eq.{bytes_eq-Decides}
use Rattle.ms_base.specs.Counts.{Rose}
use Rattle.ms_base.specs.Places.{contains_at}
use Rattle.ms_base.specs.declared.names.Name.{Name}
use Rattle.ms_object.specs.Objects.{name_of}
use Rattle.ms_object.specs.Stores.{StoreView, names_in, text_of}
use Rattle.ms_record.specs.declared.key.Key.{Key}
use Rattle.ms_record.specs.declared.key.Key.TheVariants.{State, Object}
use Rattle.ms_record.specs.declared.refusal.Place.TheVariants.{Keep}
use Rattle.ms_record.specs.declared.refusal.Refusal.{Refusal}
use Rattle.ms_record.specs.declared.refusal.Refusal.TheVariants.{NoMemory, OutsideFault}
use Rattle.ms_local.specs.Keeping.{IsKeptSteady}
use Rattle.ms_local.specs.KeptObjects.{HasObjects, IsObjectOf, KeeperGoes, KeepsObjects, KeepsOne, KeepsSome, kept_store, named_if}
use Rattle.ms_local.specs.Outside.{IsKept, KeeperView, KeptTexts, MayBeKept, WhereTold}

-- ---- keys

apart : (name : Name) → State ≢ Object name
apart name e = cc

other_name : (q name : Name) → bytes_eq q.0 name.0 ≡ false → Object q ≢ Object name
other_name q name differs e =
    let same : q ≡ name = cc in
    let yes : bytes_eq q.0 name.0 ≡ true = (bytes_eq-Decides q.0 name.0).1 (ap (λ (n : Name). n.0) same) in
    absurd cc

same_key : (q name : Name) (b : Bool) → bytes_eq q.0 name.0 ≡ b → (Object q ≡ Object name) ⊎ (Object q ≢ Object name)
same_key q name true e = inl (ap (λ (bytes : List ℕ). let n : Name = record { 0 = bytes } in Object n) ((bytes_eq-Decides q.0 name.0).0 e))
same_key q name false e = inr (other_name q name e)

key_is : (key : Key) (name : Name) → (key ≡ Object name) ⊎ (key ≢ Object name)
key_is State name = inr (apart name)
key_is (Object q) name = same_key q name (bytes_eq q.0 name.0) refl

-- ---- some of the objects

some_self : (objects : StoreView) (texts : KeptTexts) → KeepsSome objects texts texts
some_self objects texts key = inl refl

some_one : (objects : StoreView) (name : Name) (text : List ℕ) (old mid new : KeptTexts) → text_of objects name.0 ≡ Some text → KeepsSome objects old mid → IsKept (Object name) text mid new → KeepsSome objects old new
some_one objects name text old mid new object h kept key =
    elim (key_is key name) [
      | inl same ↦ inr (record { name = name; text = text; under = same; object = object; is = ap new same ∙ kept.here })
      | inr other ↦ elim (h key) [
        | inl as_before ↦ inl (kept.others key other ∙ as_before)
        | inr o ↦ inr (record { name = o.name; text = o.text; under = o.under; object = o.object; is = kept.others key other ∙ o.is })
      ]
    ]

some_may : (objects : StoreView) (name : Name) (text : List ℕ) (old mid new : KeptTexts) → text_of objects name.0 ≡ Some text → KeepsSome objects old mid → MayBeKept (Object name) text mid new → KeepsSome objects old new
some_may objects name text old mid new object h (inl same) = subst (λ (texts : KeptTexts). KeepsSome objects old texts) (sym same) h
some_may objects name text old mid new object h (inr kept) = some_one objects name text old mid new object h kept

state_same : (objects : StoreView) (old new : KeptTexts) → KeepsSome objects old new → new State ≡ old State
state_same objects old new h = elim (h State) [ inl same ↦ same | inr o ↦ absurd (apart o.name o.under) ]

pub state_stays : (objects : StoreView) (old new : KeeperView) (result : Result Unit Refusal) → KeepsObjects objects old new result → WhereTold old.told (new.texts State ≡ old.texts State)
state_stays objects old new (Ok u) h told = state_same objects old.texts new.texts (h told).0
state_stays objects old new (Err (OutsideFault Keep)) h told = state_same objects old.texts new.texts (h.1 told)
state_stays objects old new (Err NoMemory) h told = state_same objects old.texts new.texts (h told)
state_stays objects old new (Err error) h told = absurd h

-- ---- up to a place

-- the objects of the names below the place are kept
abbrev Done : StoreView → List Name → KeptTexts → ℕ → Type 0
Done objects names texts place = (i : ℕ) (name : Name) (text : List ℕ) → i < place → slice_get names i ≡ Some name → text_of objects name.0 ≡ Some text → texts (Object name) ≡ Some text

pub record KeptTo (objects : StoreView) (names : List Name) (old new : KeeperView) (place : ℕ) : Type 0 where
  pub told : new.told ≡ old.told
  pub faults : new.faults ≡ old.faults
  pub some : WhereTold old.told (KeepsSome objects old.texts new.texts)
  pub done : WhereTold old.told (Done objects names new.texts place)

-- the name at a place
pub next_name : (slice names : List Name) (place : ℕ) (d : Name) → slice ≡ names → place < length slice → slice_get names place ≡ Some (slice_index_or slice place d)
next_name slice names place d same lt = ap (λ (xs : List Name). slice_get xs place) (sym same) ∙ slice_get-get_or slice place d lt

pub kept_none : (objects : StoreView) (names : List Name) (old : KeeperView) → KeptTo objects names old old 0
kept_none objects names old = record {
  told = refl;
  faults = refl;
  some = λ told. some_self objects old.texts;
  done = λ told i name text lt. absurd (omega (arith, lt));
}

one_text : (o : Option (List ℕ)) (x y : List ℕ) → o ≡ Some x → o ≡ Some y → x ≡ y
one_text o x y e f = let q : Some x ≡ Some y = sym e ∙ f in cc

done_one : (objects : StoreView) (names : List Name) (mid new : KeptTexts) (place : ℕ) (name : Name) (text : List ℕ) → slice_get names place ≡ Some name → text_of objects name.0 ≡ Some text
    → Done objects names mid place → IsKept (Object name) text mid new → Done objects names new (place + 1)
done_one objects names mid new place name text next object h kept i other its lt at is =
    elim (key_is (Object other) name) [
      | inl same ↦
          let named : other ≡ name = cc in
          ap new same ∙ (kept.here ∙ ap (λ (x : List ℕ). Some x) (one_text (text_of objects name.0) text its object (ap (λ (n : Name). text_of objects n.0) (sym named) ∙ is)))
      | inr differs ↦ kept.others (Object other) differs ∙ h i other its (below i lt at differs) at is
    ]
  where
    below : (k : ℕ) → k < place + 1 → slice_get names k ≡ Some other → Object other ≢ Object name → k < place
    below k lt at differs = elim (cases_lt k place) [
      | inl less ↦ less
      | inr more ↦
          let same : k ≡ place = omega (arith, lt, more) in
          let e : Some other ≡ Some name = sym at ∙ (ap (λ (n : ℕ). slice_get names n) same ∙ next) in
          absurd (differs cc)
    ]

module _ (objects : StoreView) (names : List Name) (old mid new : KeeperView) (place : ℕ) (name : Name) (h : KeptTo objects names old mid place) where
  pub kept_next : slice_get names place ≡ Some name → KeepsOne objects name mid new (Ok tt) → KeeperGoes mid new (Ok tt) → KeptTo objects names old new (place + 1)
  kept_next next one goes = record {
    told = goes.told ∙ h.told;
    faults = goes.steady ∙ h.faults;
    some = λ told. some_one objects name one.0 old.texts mid.texts new.texts one.1 (h.some told) (one.2 (h.told ∙ told));
    done = λ told. done_one objects names mid.texts new.texts place name one.0 next one.1 (h.done told) (one.2 (h.told ∙ told));
  }

  pub kept_stops : (refusal : Refusal) → KeepsOne objects name mid new (Err refusal) → KeepsObjects objects old new (Err refusal)
  kept_stops (OutsideFault Keep) one = (
    subst (λ (n : ℕ). Rose n new.faults) h.faults one.2,
    λ told. some_may objects name one.0 old.texts mid.texts new.texts one.1 (h.some told) (one.3 (h.told ∙ told)),
  )
  kept_stops NoMemory one = λ told. some_may objects name one.0 old.texts mid.texts new.texts one.1 (h.some told) (one.2 (h.told ∙ told))
  kept_stops refusal one = absurd one

  pub goes_after : (result : Result Unit Refusal) → KeeperGoes mid new result → KeeperGoes old new result
  goes_after result goes = record {
    told = goes.told ∙ h.told;
    later = omega (arith, goes.later, h.faults);
    steady = subst (λ (n : ℕ). IsKeptSteady n new.faults result) h.faults goes.steady;
  }

pub kept_all : (objects : StoreView) (found names : List Name) (old new : KeeperView) (place : ℕ) → KeptTo objects names old new place → found ≡ names → length names ≤ place
    → ((name : Name) → Contains found name ↔ IsSome (text_of objects name.0)) → KeepsObjects objects old new (Ok tt)
kept_all objects found names old new place h same all there told = (
  h.some told,
  λ name text is.
      let some : IsSome (text_of objects name.0) = subst IsSome (sym is) refl in
      let at = contains_at names name (subst (λ (xs : List Name). Contains xs name) same ((there name).1 some)) in
      h.done told at.0 name text (omega (arith, all, slice_get_within names at.0 name at.1)) at.1 is,
)
