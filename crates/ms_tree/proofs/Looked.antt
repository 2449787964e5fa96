-- Looking at single objects: what is not found, and blobs one after another.
use Rattle.std.proofs.Common.{◌≡◌, ◌⊎◌, inl, inr, ℕ, zero, suc, ◌+◌, ◌-◌, ◌<◌, ◌≤◌, min, List, [], ◌∷◌, ◌++◌, length, get_or, drop, map, Option, Some, None, Result, Ok, Err, refl, sym, ap, subst, ◌∙◌, length-append, arith}
use Rattle.std.specs.Prelude.{All, IsSome, IfErr, true, false}
use Rattle.std.proofs.lemmas.Bool.{false≢true}
use Rattle.ms_base.specs.declared.names.Name.{Name}
use Rattle.ms_object.specs.declared.fault.GatherError.{GatherError}
use Rattle.ms_object.specs.declared.fault.GatherError.TheVariants as faults
use Rattle.ms_object.specs.declared.format.Format.{Format}
use Rattle.ms_object.specs.declared.format.Format.TheVariants as formats
use Rattle.ms_object.specs.declared.object.Object.{Object}
use Rattle.ms_object.specs.declared.object.Object.TheVariants as objects
use Rattle.ms_object.specs.declared.object.SizedRow.{SizedRow}
use Rattle.ms_object.specs.Objects.{IsFile, blob_size, blobs_in}
use Rattle.ms_object.specs.Reading.{object_at, blob_bytes}
use Rattle.ms_object.specs.Trees.{Texts, or_fault, object_or_fault, object_named, of_size, blob_of, blobs_joined, rows_in, top_in, top_of, unsized, walk, walk_rows}
use Rattle.ms_tree.specs.Gathering.{Gives, joined_on}
use Rattle.ms_tree.specs.Looking.{HaveBytes, IsUnfound}
use Rattle.ms_tree.proofs.Joining.{Gives-same, blob_size_is, joined_step, joined_fault, joined_end}
use Rattle.ms_tree.proofs.Named.{nothing_named, named_text}
use Rattle.ms_tree.proofs.Pieces.{count_more}
use Rattle.ms_tree.proofs.Treeing.{walk_is}

is_there : {A : Type 0} (o : Option A) (a : A) → o ≡ Some a → IsSome o
is_there {A} o a e = subst (λ (p : Option A). IsSome p) (sym e) refl

-- what comes of a look under one name
abbrev looked : {A : Type 0} → (Object → Option A) → Texts → Name → Result A GatherError
looked want store name = or_fault (object_named store name) (λ o. object_or_fault name (want o))

record Comes {A : Type 0} (want : Object → Option A) (store : Texts) (name : Name) : Type 0 where
  is : ((store name.0 ≡ None) × (looked want store name ≡ Err (faults.Missing name))) ⊎ (IsSome (store name.0) × ((looked want store name ≡ Err (faults.WrongKind name)) ⊎ ((a : A) × (looked want store name ≡ Ok a))))

of_wanted : {A : Type 0} (name : Name) (o : Option A) → (object_or_fault name o ≡ Err (faults.WrongKind name)) ⊎ ((a : A) × (object_or_fault name o ≡ Ok a))
of_wanted name None = inl refl
of_wanted name (Some a) = inr (a, refl)

of_object : {A : Type 0} (want : Object → Option A) (name : Name) (o : Option Object)
    → (or_fault (object_or_fault name o) (λ o. object_or_fault name (want o)) ≡ Err (faults.WrongKind name)) ⊎ ((a : A) × (or_fault (object_or_fault name o) (λ o. object_or_fault name (want o)) ≡ Ok a))
of_object want name None = inl refl
of_object want name (Some o) = of_wanted name (want o)

comes : {A : Type 0} (want : Object → Option A) (store : Texts) (name : Name) → Comes want store name
comes {A} want store name = record { is = by (store name.0) refl }
  where
    by : (t : Option (List ℕ)) → store name.0 ≡ t
        → ((store name.0 ≡ None) × (looked want store name ≡ Err (faults.Missing name))) ⊎ (IsSome (store name.0) × ((looked want store name ≡ Err (faults.WrongKind name)) ⊎ ((a : A) × (looked want store name ≡ Ok a))))
    by None at = inl (at, ap (λ (o : Result Object GatherError). or_fault o (λ p. object_or_fault name (want p))) (nothing_named store name at))
    by (Some text) at =
        let same : looked want store name ≡ or_fault (object_or_fault name (object_at text)) (λ p. object_or_fault name (want p)) = ap (λ (o : Result Object GatherError). or_fault o (λ p. object_or_fault name (want p))) (named_text store name text at) in
        inr (
          is_there (store name.0) text at,
          elim (of_object want name (object_at text)) [
            | inl wrong ↦ inl (same ∙ wrong)
            | inr found ↦ inr (found.0, same ∙ found.1)
          ],
        )

-- what may be the fault of such a look
pub unfound : {A : Type 0} (want : Object → Option A) (store : Texts) (name : Name) (e : GatherError) → Gives (looked want store name) (Err e) → IsUnfound store name e
unfound want store name faults.NoMemory h = tt
unfound want store name (faults.Missing missing) h =
    elim ((comes want store name).is) [
      | inl none ↦ (let q : Err (faults.Missing missing) ≡ Err (faults.Missing name) = sym h ∙ none.1 in (cc, none.0))
      | inr some ↦ elim some.1 [ inl wrong ↦ absurd (let q = sym h ∙ wrong in cc) | inr found ↦ absurd (let q = sym h ∙ found.1 in cc) ]
    ]
unfound want store name (faults.WrongKind wrong) h =
    elim ((comes want store name).is) [
      | inl none ↦ absurd (let q = sym h ∙ none.1 in cc)
      | inr some ↦ elim some.1 [ inl other ↦ (let q = sym h ∙ other in (cc, some.0)) | inr found ↦ absurd (let q = sym h ∙ found.1 in cc) ]
    ]
unfound want store name (faults.Limit what value) h =
    elim ((comes want store name).is) [
      | inl none ↦ (let q = sym h ∙ none.1 in cc)
      | inr some ↦ elim some.1 [ inl wrong ↦ (let q = sym h ∙ wrong in cc) | inr found ↦ (let q = sym h ∙ found.1 in cc) ]
    ]

-- what may be the fault where any object is wanted
object_unfound : (store : Texts) (name : Name) (e : GatherError) → Gives (object_named store name) (Err e) → IsUnfound store name e
object_unfound store name e h = unfound (λ o. Some o) store name e (by e h)
  where
    by : (e : GatherError) → Gives (object_named store name) (Err e) → Gives (looked (λ o. Some o) store name) (Err e)
    by faults.NoMemory h = tt
    by (faults.Missing missing) h = ap (λ (r : Result Object GatherError). or_fault r (λ o. Ok o)) h
    by (faults.WrongKind wrong) h = ap (λ (r : Result Object GatherError). or_fault r (λ o. Ok o)) h
    by (faults.Limit what value) h = ap (λ (r : Result Object GatherError). or_fault r (λ o. Ok o)) h

pub fault_unfound : (store : Texts) (name : Name) (result : Result Object GatherError) → Gives (object_named store name) result → IfErr result (IsUnfound store name)
fault_unfound store name (Ok o) h = tt
fault_unfound store name (Err e) h = object_unfound store name e h

-- where the text is there, it is what is wrong
pub only_wrong : {A : Type 0} (want : Object → Option A) (store : Texts) (name : Name) (e : GatherError) → IsSome (store name.0) → looked want store name ≡ Err e → e ≡ faults.WrongKind name
only_wrong want store name e there h =
    elim ((comes want store name).is) [
      | inl none ↦ absurd (false≢true (subst (λ (o : Option (List ℕ)). IsSome o) none.0 there))
      | inr some ↦ elim some.1 [ inl wrong ↦ (let q = sym h ∙ wrong in cc) | inr found ↦ absurd (let q = sym h ∙ found.1 in cc) ]
    ]

-- the walk below a root of a format
pub root_walk : (format : Format) (store : Texts) (root : Name) (object : Object) (rows : List SizedRow) → object_named store root ≡ Ok object → rows_in format object ≡ Some rows → walk store root ≡ walk_rows format 64 store [] rows
root_walk format store root object rows there is =
    walk_is store root (Ok (format, rows)) (ap (λ (o : Result Object GatherError). or_fault o (top_of root)) there ∙ ap (λ (t : Option (Format × List SizedRow)). object_or_fault root t) (of_format format object rows is))
  where
    of_format : (format : Format) (object : Object) (rows : List SizedRow) → rows_in format object ≡ Some rows → top_in object ≡ Some (format, rows)
    of_format formats.One (objects.Dir plain) rows is = let q : map unsized plain ≡ rows = cc in ap (λ (l : List SizedRow). let top : Format × List SizedRow = (formats.One, l) in Some top) q
    of_format formats.Two (objects.Dir2 sized) rows is = let q : sized ≡ rows = cc in ap (λ (l : List SizedRow). let top : Format × List SizedRow = (formats.Two, l) in Some top) q
    of_format formats.One (objects.Blob text) rows is = absurd cc
    of_format formats.One (objects.Blob2 text) rows is = absurd cc
    of_format formats.One (objects.File size blobs) rows is = absurd cc
    of_format formats.One (objects.File2 size blobs) rows is = absurd cc
    of_format formats.One (objects.Dir2 sized) rows is = absurd cc
    of_format formats.One (objects.Version client number parents top) rows is = absurd cc
    of_format formats.One (objects.Version2 client number parents top) rows is = absurd cc
    of_format formats.Two (objects.Blob text) rows is = absurd cc
    of_format formats.Two (objects.Blob2 text) rows is = absurd cc
    of_format formats.Two (objects.File size blobs) rows is = absurd cc
    of_format formats.Two (objects.File2 size blobs) rows is = absurd cc
    of_format formats.Two (objects.Dir plain) rows is = absurd cc
    of_format formats.Two (objects.Version client number parents top) rows is = absurd cc
    of_format formats.Two (objects.Version2 client number parents top) rows is = absurd cc

-- ---- blobs one after another

-- the blobs before a place are joined
pub record AreJoined (format : Format) (store : Texts) (size left : ℕ) (blobs : List Name) (i : ℕ) : Type 0 where
  pub text : List ℕ
  pub goes_on : joined_on text (blobs_joined format store left (drop i blobs)) ≡ blobs_joined format store size blobs
  pub sum : length text + left ≡ size
  pub count : length blobs ≡ i + blobs_in format left

pub none_joined : (format : Format) (store : Texts) (size : ℕ) (blobs : List Name) → IsFile format size blobs → AreJoined format store size size blobs 0
none_joined format store size blobs is = record { text = []; goes_on = from_nothing (blobs_joined format store size blobs); sum = omega arith; count = omega (arith, is.count) }
  where
    from_nothing : (r : Result (List ℕ) GatherError) → joined_on [] r ≡ r
    from_nothing (Ok text) = refl
    from_nothing (Err e) = refl

none_left : (format : Format) → blobs_in format 0 ≡ 0
none_left formats.One = refl
none_left formats.Two = refl

-- a blob is left where bytes are
one_fewer : (format : Format) (left wanted n : ℕ) → wanted ≡ min (blob_size format) left → blobs_in format left ≡ suc n → blobs_in format (left - wanted) ≡ n
one_fewer format zero wanted n size e = absurd (omega (arith, e, none_left format))
one_fewer format (suc left) wanted n size e =
    let same : suc left - wanted ≡ suc left - blob_size format = omega (arith, size) in
    ap (blobs_in format) same ∙ (omega (arith, count_more format (suc left) (omega arith), e))

-- the blobs are shown as a slice
pub more_joined : (format : Format) (store : Texts) (size left wanted : ℕ) (blobs slice : List Name) (i : ℕ) (none : Name) (bytes : List ℕ) → slice ≡ blobs → i < length slice → wanted ≡ min (blob_size format) left → AreJoined format store size left blobs i
    → or_fault (object_named store (get_or slice i none)) (blob_of format (get_or slice i none) wanted) ≡ Ok bytes → AreJoined format store size (left - wanted) blobs (i + 1)
more_joined format store size left wanted blobs slice i none bytes same lt is j e =
    let name = get_or slice i none in
    let long : length bytes ≡ wanted = blob_size_is format name wanted (object_named store name) bytes e in
    let below : i < length blobs = subst (λ (b : List Name). i < length b) same lt in
    let here : or_fault (object_named store (get_or blobs i none)) (blob_of format (get_or blobs i none) wanted) ≡ Ok bytes =
    subst (λ (b : List Name). or_fault (object_named store (get_or b i none)) (blob_of format (get_or b i none) wanted) ≡ Ok bytes) same e in
    record {
      text = j.text ++ bytes;
      goes_on = joined_step format store left wanted blobs i none j.text bytes (j.text ++ bytes) (blobs_joined format store size blobs) below is j.goes_on here refl;
      sum = omega (arith, length-append j.text bytes, long, is, j.sum);
      count = omega (arith, j.count, one_fewer format left wanted (length blobs - i - 1) is (omega (arith, j.count, below)));
    }

pub all_joined : (format : Format) (store : Texts) (size left : ℕ) (blobs : List Name) (i : ℕ) → length blobs ≤ i → AreJoined format store size left blobs i → HaveBytes format store size blobs
all_joined format store size left blobs i past j =
    (j.text, joined_end format store left blobs i j.text (blobs_joined format store size blobs) past j.goes_on, (let none = nothing_left format left (omega (arith, j.count, past)) in omega (arith, none, j.sum)))
  where
    nothing_left : (format : Format) (left : ℕ) → blobs_in format left ≡ 0 → left ≡ 0
    nothing_left format zero e = refl
    nothing_left format (suc left) e = absurd (omega (arith, e, count_more format (suc left) (omega arith)))

pub wrong_joined : (format : Format) (store : Texts) (size left wanted : ℕ) (blobs slice : List Name) (i : ℕ) (none : Name) (e : GatherError) → slice ≡ blobs → All (λ blob. IsSome (store blob.0)) blobs → i < length slice → wanted ≡ min (blob_size format) left
    → AreJoined format store size left blobs i → or_fault (object_named store (get_or slice i none)) (blob_of format (get_or slice i none) wanted) ≡ Err e → blobs_joined format store size blobs ≡ Err (faults.WrongKind (get_or slice i none))
wrong_joined format store size left wanted blobs slice i none e same there lt is j h =
    let name = get_or slice i none in
    let below : i < length blobs = subst (λ (b : List Name). i < length b) same lt in
    let here : or_fault (object_named store (get_or blobs i none)) (blob_of format (get_or blobs i none) wanted) ≡ Err e =
    subst (λ (b : List Name). or_fault (object_named store (get_or b i none)) (blob_of format (get_or b i none) wanted) ≡ Err e) same h in
    let some : IsSome (store name.0) = subst (λ (b : List Name). All (λ blob. IsSome (store blob.0)) b) (sym same) there i none lt in
    joined_fault format store left wanted blobs i none j.text e (blobs_joined format store size blobs) below is j.goes_on here
    ∙ ap (λ (f : GatherError). Err f) (only_wrong (λ o. of_size wanted (blob_bytes format (Some o))) store name e some h)
