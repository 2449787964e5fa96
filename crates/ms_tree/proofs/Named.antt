-- What stands under a name.
use Rattle.std.proofs.Common.{◌≡◌, ◌≢◌, ℕ, ◌≤◌, ◌==◌, true, false, List, length, Option, Some, None, Result, Ok, Err, refl, sym, ap, ◌∙◌, eq-eqb, arith}
use Rattle.std.proofs.lemmas.Bool.{ne_eqb}
use Rattle.ms_object.specs.declared.format.Format.{Format}
use Rattle.ms_base.specs.declared.names.Name.{Name}
use Rattle.ms_object.specs.declared.fault.GatherError.{GatherError}
use Rattle.ms_object.specs.declared.fault.GatherError.TheVariants as faults
use Rattle.ms_object.specs.declared.object.Object.{Object}
use Rattle.ms_object.specs.declared.format.Format.TheVariants as formats
use Rattle.ms_object.specs.Objects.{Spells, most_file}
use Rattle.ms_object.specs.Reading.{blob_bytes, object_at}
use Rattle.ms_object.specs.Trees.{Texts, or_fault, text_or_fault, object_or_fault, object_named, of_size, blob_of}

pub nothing_named : (store : Texts) (name : Name) → store name.0 ≡ None → object_named store name ≡ Err (faults.Missing name)
unfolding object_named
nothing_named store name e = ap (λ (t : Option (List ℕ)). or_fault (text_or_fault name t) (λ text. object_or_fault name (object_at text))) e

pub named_text : (store : Texts) (name : Name) (text : List ℕ) → store name.0 ≡ Some text → object_named store name ≡ object_or_fault name (object_at text)
unfolding object_named
named_text store name text e = ap (λ (t : Option (List ℕ)). or_fault (text_or_fault name t) (λ text. object_or_fault name (object_at text))) e

pub named_object : (store : Texts) (name : Name) (text : List ℕ) (o : Object) → store name.0 ≡ Some text → object_at text ≡ Some o → object_named store name ≡ Ok o
named_object store name text o e at = named_text store name text e ∙ ap (object_or_fault name) at

pub no_object_named : (store : Texts) (name : Name) (text : List ℕ) → store name.0 ≡ Some text → object_at text ≡ None → object_named store name ≡ Err (faults.WrongKind name)
no_object_named store name text e at = named_text store name text e ∙ ap (object_or_fault name) at

-- where nothing is spelled so, nothing is read
pub unread : (text : List ℕ) → ((o : Object) → object_at text ≡ Some o → Spells text o) → ((o : Object) → Spells text o → ⊥) → object_at text ≡ None
unread text read none = by (object_at text) (λ o e. none o (read o e))
  where
    by : (found : Option Object) → ((o : Object) → found ≡ Some o → ⊥) → found ≡ None
    by None h = refl
    by (Some o) h = absurd (h o refl)

-- ---- blobs

none_wanted : (format : Format) → blob_bytes format None ≡ None
none_wanted formats.One = refl
none_wanted formats.Two = refl

-- what is wanted as a blob of this size, where the blob of a text is known
pub blob_wanted : (format : Format) (name : Name) (size : ℕ) (o : Option Object) (bytes : Option (List ℕ)) → bytes ≡ blob_bytes format o → or_fault (object_or_fault name o) (blob_of format name size) ≡ object_or_fault name (of_size size bytes)
blob_wanted format name size None bytes is = ap (λ (b : Option (List ℕ)). object_or_fault name (of_size size b)) (sym (is ∙ none_wanted format))
blob_wanted format name size (Some p) bytes is = ap (λ (b : Option (List ℕ)). object_or_fault name (of_size size b)) (sym is)

pub size_right : (name : Name) (size : ℕ) (bytes : List ℕ) → length bytes ≡ size → object_or_fault name (of_size size (Some bytes)) ≡ Ok bytes
size_right name size bytes same = let test : (length bytes == size) ≡ true = eq-eqb (length bytes) size same in rw test refl

pub size_wrong : (name : Name) (size : ℕ) (bytes : List ℕ) → length bytes ≢ size → object_or_fault name (of_size size (Some bytes)) ≡ Err (faults.WrongKind name)
size_wrong name size bytes other = let test : (length bytes == size) ≡ false = ne_eqb (length bytes) size other in rw test refl

-- ---- what is wanted of a name

pub wanted_text : {A : Type 0} (next : Object → Result A GatherError) (store : Texts) (name : Name) (text : List ℕ) → store name.0 ≡ Some text
    → or_fault (object_named store name) next ≡ or_fault (object_or_fault name (object_at text)) next
wanted_text {A} next store name text e = ap (λ (o : Result Object GatherError). or_fault o next) (named_text store name text e)

pub wanted_nothing : {A : Type 0} (next : Object → Result A GatherError) (store : Texts) (name : Name) → store name.0 ≡ None → or_fault (object_named store name) next ≡ Err (faults.Missing name)
wanted_nothing {A} next store name e = ap (λ (o : Result Object GatherError). or_fault o next) (nothing_named store name e)

-- a file that fits a format fits among files
pub fits_all : (format : Format) (n : ℕ) → n ≤ most_file format → n ≤ 1073741824
fits_all formats.One n fits = omega (arith, fits)
fits_all formats.Two n fits = omega (arith, fits)
