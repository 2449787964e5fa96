-- What is there, and what it names.
use Rattle.std.proofs.Common.{◌≡◌, ℕ, ◌≤◌, Bool, true, false, List, [], Option, Some, None, is_some, option_map, Result, Ok, Err, refl, sym, ap, ◌∙◌, subst, slice_index_or, count_by}
use Rattle.std.specs.Prelude.{IfOk, IsTrue, ◌↔◌}
use Rattle.std.proofs.lemmas.Bool.{true≢false}
use Rattle.ms_base.specs.declared.bytes.NoMemory.{NoMemory}
use Rattle.ms_world.specs.declared.puts.Found.{Found}
use Rattle.ms_core.specs.declared.want.Want.{Want}
use Rattle.ms_core.specs.declared.want.Wanted.{Wanted}
use Rattle.ms_core.specs.declared.want.Wanted.TheVariants as kinds
use Rattle.ms_core.specs.Placing.{IsOf, wanted_in}
use Rattle.ms_world.specs.Puts.{PutsView, found_at, text_found, is_on}
use Rattle.ms_world.specs.Reaching.{IsText, Meets, MeetsObject, MeetsText, Reaches}
use Rattle.ms_world.proofs.MeetLaws.{meets_none}
use Rattle.ms_object.specs.declared.object.Object.{Object}
use Rattle.ms_object.specs.declared.object.Object.TheVariants as objects
use denote.Enum.Bare.{sameb}
use mathlib.Core.Bool.{not}
use Rattle.ms_object.specs.contracts.format.Format.{the_type}
use Rattle.ms_object.specs.declared.format.Format.{Format}
use Rattle.ms_object.specs.declared.format.Format.TheVariants as formats
use Rattle.ms_object.specs.Objects.{Spells, format_of, numbered}
use Rattle.ms_object.specs.Reading.{blob_bytes}
use Rattle.ms_record.specs.declared.plan.PlanRow.{PlanRow}
use Rattle.ms_record.specs.Plans.{PlanView}

-- no text is read as two objects
abbrev pub OneValue : Type 0
OneValue = (text : List ℕ) (o p : Object) → Spells text o → Spells text p → o ≡ p

-- the object under the text is a blob of the format, if a blob is found there
blob_object_is : (format : Format) (object : Object) (bytes : List ℕ) → blob_bytes format (Some object) ≡ Some bytes → IsOf kinds.Blob object × (Some format ≡ Some (format_of object))
blob_object_is formats.One (objects.Blob text) bytes e = (tt, refl)
blob_object_is formats.One (objects.Blob2 text) bytes e = absurd (let q : None ≡ Some bytes = e in cc)
blob_object_is formats.One (objects.File size blobs) bytes e = absurd (let q : None ≡ Some bytes = e in cc)
blob_object_is formats.One (objects.File2 size blobs) bytes e = absurd (let q : None ≡ Some bytes = e in cc)
blob_object_is formats.One (objects.Dir rows) bytes e = absurd (let q : None ≡ Some bytes = e in cc)
blob_object_is formats.One (objects.Dir2 rows) bytes e = absurd (let q : None ≡ Some bytes = e in cc)
blob_object_is formats.One (objects.Version client number parents root) bytes e = absurd (let q : None ≡ Some bytes = e in cc)
blob_object_is formats.One (objects.Version2 client number parents root) bytes e = absurd (let q : None ≡ Some bytes = e in cc)
blob_object_is formats.Two (objects.Blob text) bytes e = absurd (let q : None ≡ Some bytes = e in cc)
blob_object_is formats.Two (objects.Blob2 text) bytes e = (tt, refl)
blob_object_is formats.Two (objects.File size blobs) bytes e = absurd (let q : None ≡ Some bytes = e in cc)
blob_object_is formats.Two (objects.File2 size blobs) bytes e = absurd (let q : None ≡ Some bytes = e in cc)
blob_object_is formats.Two (objects.Dir rows) bytes e = absurd (let q : None ≡ Some bytes = e in cc)
blob_object_is formats.Two (objects.Dir2 rows) bytes e = absurd (let q : None ≡ Some bytes = e in cc)
blob_object_is formats.Two (objects.Version client number parents root) bytes e = absurd (let q : None ≡ Some bytes = e in cc)
blob_object_is formats.Two (objects.Version2 client number parents root) bytes e = absurd (let q : None ≡ Some bytes = e in cc)

-- a blob of the format has bytes
blob_has_bytes : (format : Format) (object : Object) → IsOf kinds.Blob object → Some format ≡ Some (format_of object) → is_some (blob_bytes format (Some object)) ≡ true
blob_has_bytes formats.One (objects.Blob text) kind e = refl
blob_has_bytes formats.Two (objects.Blob2 text) kind e = refl
blob_has_bytes formats.One (objects.Blob2 text) kind e = absurd (let q : Some formats.One ≡ Some formats.Two = e in cc)
blob_has_bytes formats.Two (objects.Blob text) kind e = absurd (let q : Some formats.Two ≡ Some formats.One = e in cc)
blob_has_bytes format (objects.File size blobs) kind e = absurd kind
blob_has_bytes format (objects.File2 size blobs) kind e = absurd kind
blob_has_bytes format (objects.Dir rows) kind e = absurd kind
blob_has_bytes format (objects.Dir2 rows) kind e = absurd kind
blob_has_bytes format (objects.Version client number parents root) kind e = absurd kind
blob_has_bytes format (objects.Version2 client number parents root) kind e = absurd kind

-- whether a blob is found is whether the text is one
pub blob_decides : (format : Format) (text : List ℕ) (there : Option Object) (b : Bool) → ((o : Object) → there ≡ Some o → Spells text o) → ((o : Object) → Spells text o → there ≡ Some o)
    → b ≡ is_some (blob_bytes format there) → IsTrue b ↔ IsText (Some format) kinds.Blob text
blob_decides format text None b read again is =
    (λ h. absurd (true≢false (sym h ∙ is ∙ none_found format)), λ t. absurd (let q : None ≡ Some t.object = again t.object t.spells in cc))
  where
    none_found : (f : Format) → is_some (blob_bytes f None) ≡ false
    none_found formats.One = refl
    none_found formats.Two = refl
blob_decides format text (Some object) b read again is = (found (blob_bytes format (Some object)) refl, back)
  where
    found : (o : Option (List ℕ)) → blob_bytes format (Some object) ≡ o → IsTrue b → IsText (Some format) kinds.Blob text
    found (Some bytes) e h = let k = blob_object_is format object bytes e in record { object = object; spells = read object refl; format_is = k.1; kind = k.0 }
    found None e h = absurd (true≢false (sym h ∙ is ∙ ap is_some e))

    back : IsText (Some format) kinds.Blob text → IsTrue b
    back t =
        let same : object ≡ t.object = (let q : Some object ≡ Some t.object = again t.object t.spells in cc) in
        is ∙ ap (λ (o : Object). is_some (blob_bytes format (Some o))) same ∙ blob_has_bytes format t.object t.kind t.format_is

-- what is shown is there as the answer is
pub some_found : {A : Type 0} (shown : A → List ℕ) (r : Option A) (o : Option (List ℕ)) (b : Bool) → option_map shown r ≡ o → b ≡ is_some r → b ≡ is_some o
some_found {A} shown (Some a) o b e is = is ∙ ap is_some e
some_found {A} shown None o b e is = is ∙ ap is_some e

no_names : (object : Object) → IsOf kinds.Blob object → wanted_in object ≡ []
no_names (objects.Blob blob) kind = refl
no_names (objects.Blob2 blob) kind = refl
no_names (objects.File size blobs) kind = absurd kind
no_names (objects.File2 size blobs) kind = absurd kind
no_names (objects.Dir rows) kind = absurd kind
no_names (objects.Dir2 rows) kind = absurd kind
no_names (objects.Version client number parents root) kind = absurd kind
no_names (objects.Version2 client number parents root) kind = absurd kind

pub met_blob : (format : Format) (wanted : Wanted) (text : List ℕ) (old : List Want) (b : Bool) → wanted ≡ kinds.Blob → IsTrue b ↔ IsText (Some format) kinds.Blob text → MeetsText (Some format) wanted text old old b
met_blob format wanted text old true is h = subst (λ (w : Wanted). MeetsText (Some format) w text old old true) (sym is)
    (let read = h.0 refl in (read, subst (λ (wants : List Want). Meets wants old old) (sym (no_names read.object read.kind)) (meets_none old)))
met_blob format wanted text old false is h = λ read. true≢false (sym (h.1 (subst (λ (w : Wanted). IsText (Some format) w text) is read)))

pub met_text : (format : Format) (one : OneValue) (wanted : Wanted) (text : List ℕ) (object : Object) (old new : List Want) (r : Result Bool NoMemory) → Spells text object → format_of object ≡ format
    → IfOk r (MeetsObject wanted object old new) → IfOk r (MeetsText (Some format) wanted text old new)
met_text format one wanted text object old new (Ok true) spells is h = (record { object = object; spells = spells; format_is = ap (λ (f : Format). Some f) (sym is); kind = h.0 }, h.1)
met_text format one wanted text object old new (Ok false) spells is h = λ read. h (subst (IsOf wanted) (one text read.object object read.spells spells) read.kind)
met_text format one wanted text object old new (Err e) spells is h = tt

-- formats that the test finds the same are the same
pub same_format : (a b : Format) → false ≡ not (sameb the_type a b) → a ≡ b
same_format formats.One formats.One e = refl
same_format formats.Two formats.Two e = refl
same_format formats.One formats.Two e = absurd (let q : false ≡ true = e in cc)
same_format formats.Two formats.One e = absurd (let q : false ≡ true = e in cc)

-- an object of another format is not wanted
pub other_format : (format : Format) (one : OneValue) (wanted : Wanted) (text : List ℕ) (object : Object) → Spells text object → (format_of object ≡ format → ⊥) → IsText (Some format) wanted text → ⊥
other_format format one wanted text object spells other read =
    other (let q : Some format ≡ Some (format_of read.object) = read.format_is in
    let same : format_of read.object ≡ format = cc in
    ap format_of (one text object read.object spells read.spells) ∙ same)

same_text : (text other : List ℕ) → Some text ≡ Some other → text ≡ other
same_text text other e = cc

pub reached : (puts : PutsView) (plan : PlanView) (want : Want) (old new : List Want) (found : Found) (r : Result Bool NoMemory) → found_at puts want.name ≡ Some found
    → plan.replicas ≤ count_by (λ (row : PlanRow). slice_index_or found.services row.service.0 false) plan.rows → IfOk r (MeetsText (numbered plan.format) want.wanted found.text.now old new) → IfOk r (Reaches puts plan want old new)
reached puts plan want old new found (Ok true) is enough h = (
  record {
    text = found.text.now;
    is = ap text_found is;
    read = h.0;
    enough = subst (λ (o : Option Found). plan.replicas ≤ count_by (λ (row : PlanRow). is_on o row.service.0) plan.rows) (sym is) enough;
  },
  h.1,
)
reached puts plan want old new found (Ok false) is enough h = λ there.
    h (subst (IsText (numbered plan.format) want.wanted) (same_text there.text found.text.now (sym there.is ∙ ap text_found is)) there.read)
reached puts plan want old new found (Err e) is enough h = tt
