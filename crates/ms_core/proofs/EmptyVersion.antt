-- A version of nothing: the texts that it reaches, and a store of them.
use Rattle.std.proofs.Common.{◌≡◌, ℕ, Bool, true, false, cond, List, [], ◌∷◌, Option, Some, None, ◌⊎◌, inl, inr, refl, sym, ap, ◌∙◌, subst, slice_index, Contains, arith}
use Rattle.std.specs.Prelude.{bytes_eq, ◌↔◌, Ok}
use Rattle.std.specs.List.Sorted.{IsStrictlySortedBy}
use Rattle.std.proofs.lemmas.Slice.Eq.{bytes_eq-Decides}
use Rattle.sha2.proofs.Facts256.{length-sha256}
use Rattle.sha2.specs.Sha256.{sha256, digest_bytes, hash_after, compress, rounds, schedule, first_words}
use Rattle.ms_base.specs.Places.{some_same}
use Rattle.ms_base.specs.declared.names.ClientId.{ClientId}
use Rattle.ms_base.specs.declared.names.Name.{Name}
use Rattle.ms_object.specs.declared.format.Format.{Format}
use Rattle.ms_object.specs.declared.object.Object.{Object}
use Rattle.ms_object.specs.declared.object.SizedRow.{SizedRow}
use Rattle.ms_object.specs.declared.object.Object.TheVariants as objects
use Rattle.ms_object.specs.Objects.{Spells, object_text}
use Rattle.ms_object.specs.Reading.{object_at}
use Rattle.ms_object.specs.Trees.{Texts, IsTree, object_named, object_or_fault, text_or_fault, or_fault, top_of, met_below, walk, walk_rows, Met, first_fault}

-- ---- the texts

abbrev pub nobody : ClientId
nobody = record { 0 = 0 }

-- the empty directory, and a version with it
abbrev pub directory : Object
directory = objects.Dir []

abbrev pub root : Name
root = record { 0 = sha256 (object_text directory) }

abbrev pub version : Object
version = objects.Version nobody 0 [] root

abbrev pub top : Name
top = record { 0 = sha256 (object_text version) }

-- the hash of the empty directory, byte by byte
root_bytes : List ℕ
root_bytes = 9 ∷ 63 ∷ 147 ∷ 23 ∷ 3 ∷ 21 ∷ 91 ∷ 198 ∷ 191 ∷ 28 ∷ 19 ∷ 3 ∷ 159 ∷ 253 ∷ 180 ∷ 152 ∷ 86 ∷ 65 ∷ 11 ∷ 43 ∷ 53 ∷ 156 ∷ 147 ∷ 202 ∷ 184 ∷ 229 ∷ 32 ∷ 89 ∷ 7 ∷ 62 ∷ 206 ∷ 249 ∷ []

root_is : root.0 ≡ root_bytes
unfolding root_bytes sha256 digest_bytes hash_after compress rounds schedule first_words
root_is = refl

-- the first byte of the version's name
top_begins : slice_index (sha256 (86 ∷ 0 ∷ 0 ∷ 0 ∷ 0 ∷ 0 ∷ 0 ∷ 0 ∷ 0 ∷ 0 ∷ root_bytes)) 0 ≡ 107
unfolding root_bytes sha256 digest_bytes hash_after compress rounds schedule first_words
top_begins = refl

-- the two names are not one
pub names_differ : top.0 ≡ root.0 → ⊥
unfolding root_bytes
names_differ same =
    let first : slice_index top.0 0 ≡ 107 = ap (λ (r : List ℕ). slice_index (sha256 (86 ∷ 0 ∷ 0 ∷ 0 ∷ 0 ∷ 0 ∷ 0 ∷ 0 ∷ 0 ∷ 0 ∷ r)) 0) root_is ∙ top_begins in
    let other : slice_index root.0 0 ≡ 9 = ap (λ (r : List ℕ). slice_index r 0) root_is in
    let one : slice_index top.0 0 ≡ slice_index root.0 0 = ap (λ (r : List ℕ). slice_index r 0) same in
    omega (arith, first, other, one)

pub directory_spelled : Spells (object_text directory) directory
unfolding IsStrictlySortedBy
directory_spelled = record {
  ranges = (record { few = omega arith; labels = λ k d lt. absurd (omega (arith, lt)); rising = tt }, λ k d lt. absurd (omega (arith, lt)));
  spelled = refl;
}

pub version_spelled : Spells (object_text version) version
version_spelled = record {
  ranges = (record { known = omega arith; fits = omega arith; few = omega arith }, (λ k d lt. absurd (omega (arith, lt))), length-sha256 (object_text directory));
  spelled = refl;
}

-- ---- the store

-- the two texts, under their names
abbrev pub two_texts : Texts
two_texts name = cond (bytes_eq name root.0) (Some (object_text directory)) (cond (bytes_eq name top.0) (Some (object_text version)) None)

same_bytes : (xs : List ℕ) → bytes_eq xs xs ≡ true
same_bytes xs = (bytes_eq-Decides xs xs).1 refl

other_bytes : (xs ys : List ℕ) → (xs ≡ ys → ⊥) → bytes_eq xs ys ≡ false
other_bytes xs ys apart = by (bytes_eq xs ys) refl
  where
    by : (b : Bool) → bytes_eq xs ys ≡ b → bytes_eq xs ys ≡ false
    by true e = absurd (apart ((bytes_eq-Decides xs ys).0 e))
    by false e = e

pub has_directory : two_texts root.0 ≡ Some (object_text directory)
has_directory = ap (λ (b : Bool). cond b (Some (object_text directory)) (cond (bytes_eq root.0 top.0) (Some (object_text version)) None)) (same_bytes root.0)

pub has_version : two_texts top.0 ≡ Some (object_text version)
has_version =
    ap (λ (b : Bool). cond b (Some (object_text directory)) (cond (bytes_eq top.0 top.0) (Some (object_text version)) None)) (other_bytes top.0 root.0 names_differ)
    ∙ ap (λ (b : Bool). cond b (Some (object_text version)) None) (same_bytes top.0)

pub texts_are : (name text : List ℕ) → two_texts name ≡ Some text → ((name ≡ root.0) × (object_text directory ≡ text)) ⊎ ((name ≡ top.0) × (object_text version ≡ text))
texts_are name text is = by (bytes_eq name root.0) refl (bytes_eq name top.0) refl is
  where
    by : (b : Bool) → bytes_eq name root.0 ≡ b → (c : Bool) → bytes_eq name top.0 ≡ c → cond b (Some (object_text directory)) (cond c (Some (object_text version)) None) ≡ Some text
        → ((name ≡ root.0) × (object_text directory ≡ text)) ⊎ ((name ≡ top.0) × (object_text version ≡ text))
    by true e c f is = inl ((bytes_eq-Decides name root.0).0 e, some_same (object_text directory) text is)
    by false e true f is = inr ((bytes_eq-Decides name top.0).0 f, some_same (object_text version) text is)
    by false e false f is = absurd (let q : None ≡ Some text = is in cc)

-- ---- its tree has no files

pub no_files : ((text : List ℕ) (o : Object) → Spells text o → object_at text ≡ Some o) → IsTree two_texts root []
unfolding walk walk_rows object_named
no_files again =
    let read : object_at (object_text directory) ≡ Some directory = again (object_text directory) directory directory_spelled in
    let nothing : walk two_texts root ≡ [] =
    ap (λ (o : Option (List ℕ)). met_below (or_fault (or_fault (text_or_fault root o) (λ text. object_or_fault root (object_at text))) (top_of root)) (λ (top : Format × List SizedRow). walk_rows top.0 64 two_texts [] top.1)) has_directory
    ∙ ap (λ (o : Option Object). met_below (or_fault (object_or_fault root o) (top_of root)) (λ (top : Format × List SizedRow). walk_rows top.0 64 two_texts [] top.1)) read in
    record {
      whole = ap (λ (met : List Met). first_fault 0 0 met) nothing;
      found = λ file. subst (λ (met : List Met). Contains [] file ↔ Contains met (Ok file)) (sym nothing) ((λ h. absurd (omega (arith, h.1))), (λ h. absurd (omega (arith, h.1))));
    }
