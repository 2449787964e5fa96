-- No object's text is longer than what is read.
use Rattle.std.proofs.Common.{◌≡◌, ℕ, ◌*◌, ◌≤◌, List, [], ◌∷◌, ◌++◌, length, map, All, refl, sym, subst, arith}
use Rattle.std.specs.Int.{w64, to_be_bytes}
use Rattle.std.specs.List.{flat_map}
use Rattle.std.proofs.lemmas.List.{length-append}
use Rattle.std.proofs.lemmas.List.Elements.{All-head, All-tail}
use Rattle.ms_base.specs.declared.names.Name.{Name}
use Rattle.ms_object.specs.declared.object.Object.{Object}
use Rattle.ms_object.specs.declared.object.Object.TheVariants.{Blob, File, Dir, Version, Blob2, File2, Dir2, Version2}
use Rattle.ms_object.specs.declared.object.Row.{Row}
use Rattle.ms_object.specs.declared.object.SizedRow.{SizedRow}
use Rattle.ms_object.specs.Labels.{IsLabel}
use Rattle.ms_object.specs.Objects.{IsObject, AreNames, Spells, names_text, row_text, sized_row_text, object_text}
use Rattle.ms_object.specs.Reading.{most_text}

names_size : (names : List Name) → AreNames names → length (names_text names) ≡ 32 * length names
names_size [] h = refl
names_size (name ∷ names) h =
    let one : length name.0 ≡ 32 = All-head (λ (n : Name). length n.0 ≡ 32) name names h in
    let rest : length (names_text names) ≡ 32 * length names = names_size names (All-tail (λ (n : Name). length n.0 ≡ 32) name names h) in
    omega (arith, length-append name.0 (names_text names))

row_size : (row : Row) → IsLabel row.label → length row.name.0 ≡ 32 → length (row_text row) ≤ 242
row_size row label name = omega (arith, length-append row.label row.name.0, label.few)

sized_row_size : (row : SizedRow) → IsLabel row.label → length row.name.0 ≡ 32 → length (sized_row_text row) ≤ 242
sized_row_size row label name = omega (arith, length-append (row.label ++ to_be_bytes w64 row.size) row.name.0, length-append row.label (to_be_bytes w64 row.size), label.few)

rows_size : {R : Type 0} (text_of label_of : R → List ℕ) (name_of : R → Name) → ((row : R) → IsLabel (label_of row) → length (name_of row).0 ≡ 32 → length (text_of row) ≤ 242) → (rows : List R) → All (λ row. IsLabel (label_of row)) rows
    → AreNames (map name_of rows) → length (flat_map text_of rows) ≤ 242 * length rows
rows_size text_of label_of name_of size [] labels names = omega arith
rows_size {R} text_of label_of name_of size (row ∷ rows) labels names =
    let one : length (text_of row) ≤ 242 =
    size row (All-head (λ (r : R). IsLabel (label_of r)) row rows labels) (All-head (λ (n : Name). length n.0 ≡ 32) (name_of row) (map name_of rows) names) in
    let rest : length (flat_map text_of rows) ≤ 242 * length rows =
    rows_size text_of label_of name_of size rows (All-tail (λ (r : R). IsLabel (label_of r)) row rows labels) (All-tail (λ (n : Name). length n.0 ≡ 32) (name_of row) (map name_of rows) names) in
    omega (arith, length-append (text_of row) (flat_map text_of rows))

object_size : (o : Object) → IsObject o → length (object_text o) ≤ most_text
object_size (Blob text) h = omega (arith, h.few)
object_size (Blob2 text) h = omega (arith, h.few)
object_size (File size blobs) h = omega (arith, names_size blobs h.1, h.0.fits, h.0.count)
object_size (File2 size blobs) h = omega (arith, names_size blobs h.1, h.0.fits, h.0.count)
object_size (Dir rows) h = omega (arith, rows_size row_text (λ (row : Row). row.label) (λ (row : Row). row.name) row_size rows h.0.labels h.1, h.0.few)
object_size (Dir2 rows) h = omega (arith, rows_size sized_row_text (λ (row : SizedRow). row.label) (λ (row : SizedRow). row.name) sized_row_size rows h.0.labels h.1, h.0.few)
object_size (Version client number parents root) h = omega (arith, length-append (names_text parents) root.0, names_size parents h.1, h.0.few, h.2)
object_size (Version2 client number parents root) h = omega (arith, length-append (names_text parents) root.0, names_size parents h.1, h.0.few, h.2)

pub spelled_size : (text : List ℕ) (o : Object) → Spells text o → length text ≤ most_text
spelled_size text o h = subst (λ (t : List ℕ). length t ≤ most_text) (sym h.spelled) (object_size o h.ranges)
