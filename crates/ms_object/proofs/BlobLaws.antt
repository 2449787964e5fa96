-- Texts that are blobs of neither format.
use Rattle.std.proofs.Common.{◌≡◌, Bool, true, false, List, ℕ, Option, Some, None, is_some, option_map, refl, sym, ◌∙◌}
use Rattle.std.specs.Bool.{OnFalse}
use Rattle.std.proofs.lemmas.Bool.{false≢true}
use Rattle.ms_object.specs.declared.format.Format.{Format}
use Rattle.ms_object.specs.declared.format.Format.TheVariants as formats
use Rattle.ms_object.specs.declared.object.Object.{Object}
use Rattle.ms_object.specs.Reading.{blob_bytes}

-- a text that is read as no blob
pub no_blob_shown : {A : Type 0} (format : Format) (o : Option Object) (shown : A → List ℕ) (r : Option A) (b : Bool) → option_map shown r ≡ blob_bytes format o → b ≡ is_some r → b ≡ false → blob_bytes format o ≡ None
no_blob_shown format o shown None b e is h = sym e
no_blob_shown format o shown (Some a) b e is h = absurd (false≢true (sym h ∙ is))

pub neither_blob : (o : Option Object) (b : Bool) → (b ≡ false → blob_bytes formats.One o ≡ None) → (b ≡ false → blob_bytes formats.Two o ≡ None) → OnFalse b ((format : Format) → blob_bytes format o ≡ None)
neither_blob o true one two = tt
neither_blob o false one two = by
  where
    by : (format : Format) → blob_bytes format o ≡ None
    by formats.One = one refl
    by formats.Two = two refl
