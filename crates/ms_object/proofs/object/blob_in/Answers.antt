use Rattle.std.proofs.Common.{◌≡◌, ℕ, List, ◌∷◌, Some, sym, ap, subst, ◌∙◌, arith, length}
use Rattle.std.specs.Prelude.{◌&&◌, ◌==◌, nat_le}
use Rattle.std.proofs.lemmas.Bool.{eqb-true}
use Rattle.std.proofs.Common.{eq-eqb}
use Rattle.ms_base.specs.Options.{both}
use Rattle.ms_object.specs.declared.object.Object.{Object}
use Rattle.ms_object.specs.Objects.{Spells, blob_size, blob_tag, least_blob}
use Rattle.ms_object.specs.Reading.{blob_bytes, object_at}
use Rattle.ms_object.proofs.ObjectLaws.{blob_found, blob_only, nothing_there, tagged_test, text_begins}
use Rattle.ms_object.proofs.object.blob_in.Goals as goal

pub returns-in_default : goal.returns-in_default
returns-in_default c = nothing_there c.args.format c.args.text.now (sym c.in_default.ensures)

pub returns-then-is_tagged_blob : goal.returns-then-is_tagged_blob
returns-then-is_tagged_blob c =
    let format = c.args.format in
    let tag = c.in-Some.tag in
    let bytes = c.in-Some.bytes.now in
    let text : c.args.text.now ≡ tag ∷ bytes = text_begins c.args.text.now (tag, bytes) (sym c.in-Some.ensures) in
    let tests = both (tag == blob_tag format) (nat_le (least_blob format) (length bytes) && nat_le (length bytes) (blob_size format)) (sym c.is_tagged_blob.ensures ∙ c.if-is_tagged_blob.true) in
    blob_found format tag bytes (eqb-true tag (blob_tag format) tests.0) tests.1 ∙ ap (λ (t : List ℕ). blob_bytes format (object_at t)) (sym text)

pub returns-else-is_tagged_blob : goal.returns-else-is_tagged_blob
returns-else-is_tagged_blob c =
    let format = c.args.format in
    let tag = c.in-Some.tag in
    let bytes = c.in-Some.bytes.now in
    let text : c.args.text.now ≡ tag ∷ bytes = text_begins c.args.text.now (tag, bytes) (sym c.in-Some.ensures) in
    let spells : (p : Object) → object_at c.args.text.now ≡ Some p → Spells (tag ∷ bytes) p = λ p e.
    subst (λ (t : List ℕ). Spells t p) text (c.one_spelling.ensures.read c.args.text.now p (λ i. omega (arith, c.type_inv.text i)) e) in
    blob_only format tag bytes (object_at c.args.text.now) spells (λ is fits.
    tagged_test (tag == blob_tag format) (nat_le (least_blob format) (length bytes) && nat_le (length bytes) (blob_size format)) (sym c.is_tagged_blob.ensures ∙ c.if-is_tagged_blob.false) (eq-eqb tag (blob_tag format) is) fits)
