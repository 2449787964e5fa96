-- An object that is read is spelled so, and what is spelled so is read again.
use Rattle.std.proofs.Common.{◌≡◌, ℕ, ◌^◌, ◌<◌, ◌≤◌, Bool, true, false, cond, List, [], ◌∷◌, ◌++◌, length, map, get_or, Option, Some, None, refl, sym, ap, subst, ◌∙◌, append_assoc, append-nil, arith, eq-eqb, ◌⊎◌, inl, inr}
use Rattle.std.specs.Prelude.{◌&&◌, ◌==◌, nat_le, flat_map, is_some, option_map, All, Result, Ok, Err, IfOk}
use Rattle.std.specs.Bool.{OnTrue}
use Rattle.std.specs.Int.{w32, w64, to_be_bytes}
use Rattle.std.proofs.lemmas.Bool.{eqb-true, leb-true, le-leb}
use Rattle.std.proofs.lemmas.List.Elements.{All-map}
use Rattle.ms_base.specs.Places.{some_same}
use Rattle.ms_base.specs.Options.{◌>>=◌, bind_some, both}
use Rattle.ms_base.specs.Fields.{IsBytes, Field, byte_at, number_at, name_at, client_at, at_end}
use Rattle.ms_base.specs.FieldLaws.{Takes, FieldsRead, FieldsSpelled, ended, IsBytes-rest, Takes-then, Takes-all}
use Rattle.ms_base.specs.declared.limits.TheConstants.{CLIENTS, PARENTS}
use Rattle.ms_base.specs.declared.names.ClientId.{ClientId}
use Rattle.ms_base.specs.declared.names.Name.{Name}
use Rattle.std.proofs.lemmas.Option.{none-some}
use Rattle.ms_object.specs.declared.fault.ObjectError.{ObjectError}
use Rattle.ms_object.specs.declared.fault.ObjectError.TheVariants as errors
use Rattle.ms_object.specs.declared.format.Format.{Format}
use Rattle.ms_object.specs.declared.format.Format.TheVariants as formats
use Rattle.ms_object.specs.declared.object.Object.{Object}
use Rattle.ms_object.specs.declared.object.Object.TheVariants.{Blob, File, Dir, Version, Blob2, File2, Dir2, Version2}
use Rattle.ms_object.specs.declared.object.Row.{Row}
use Rattle.ms_object.specs.declared.object.SizedRow.{SizedRow}
use Rattle.ms_object.specs.Objects.{AreNames, AreRows, IsBlob, IsFile, IsVersion, IsObject, Spells, blob_size, least_blob, most_file, most_rows, blobs_in, children_of, names_text, object_text, row_text, sized_row_text, blob_tag, file_tag, dir_tag, version_tag, blob_object, file_object, version_object, blob_text, file_text, version_text}
use Rattle.ms_object.specs.Reading.{RowReader, given_if, names_at, blob_at, file_head_at, file_at, rows_at, row_at, sized_row_at, row_count_at, dir_with, dir_at, version_head_at, version_at, tagged_as, tagged_at, object_at, blob_bytes, most_text, Gives, Answers}
use Rattle.ms_object.proofs.FieldLaws.{given_is, All-cons, All-first, All-rest, names_take, names_again}
use Rattle.ms_object.proofs.RowLaws.{IsRowGrammar, RowFits, SizedRowFits, row_grammar, sized_row_grammar, rows_are_read, rows_are_read_again}

-- ---- what the variants of a format share

spells_blob : (format : Format) (text : List ℕ) → IsBlob format text → Spells (blob_text format text) (blob_object format text)
spells_blob formats.One text h = record { ranges = h; spelled = refl }
spells_blob formats.Two text h = record { ranges = h; spelled = refl }

spells_file : (format : Format) (size : ℕ) (blobs : List Name) → IsFile format size blobs → AreNames blobs → Spells (file_text format size blobs) (file_object format size blobs)
spells_file formats.One size blobs h names = record { ranges = (h, names); spelled = refl }
spells_file formats.Two size blobs h names = record { ranges = (h, names); spelled = refl }

spells_version : (format : Format) (client : ClientId) (number : ℕ) (parents : List Name) (root : Name) → IsVersion client number parents → AreNames parents → length root.0 ≡ 32
    → Spells (version_text format client number parents root) (version_object format client number parents root)
spells_version formats.One client number parents root h names len = record { ranges = (h, names, len); spelled = refl }
spells_version formats.Two client number parents root h names len = record { ranges = (h, names, len); spelled = refl }

-- ---- blobs

blob_is_read : (format : Format) (text : List ℕ) (o : Object) → blob_at format text ≡ Some o → Spells (blob_text format text) o
unfolding blob_at
blob_is_read format text o e =
    let g = given_is (nat_le (least_blob format) (length text) && nat_le (length text) (blob_size format)) (blob_object format text) o e in
    let tests = both (nat_le (least_blob format) (length text)) (nat_le (length text) (blob_size format)) g.0 in
    let some : least_blob format ≤ length text = leb-true (least_blob format) (length text) tests.0 in
    let few : length text ≤ blob_size format = leb-true (length text) (blob_size format) tests.1 in
    subst (Spells (blob_text format text)) g.1 (spells_blob format text (record { some = some; few = few }))

pub blob_again : (format : Format) (text : List ℕ) → IsBlob format text → blob_at format text ≡ Some (blob_object format text)
unfolding blob_at
blob_again format text h =
    let some : nat_le (least_blob format) (length text) ≡ true = le-leb (least_blob format) (length text) h.some in
    let few : nat_le (length text) (blob_size format) ≡ true = le-leb (length text) (blob_size format) h.few in
    rw (some, few) refl

-- ---- files

record TakesFileHead (format : Format) (text : List ℕ) (x : (ℕ × ℕ) × List ℕ) : Type 0 where
  takes : Takes text (to_be_bytes w64 x.0.0 ++ to_be_bytes w32 x.0.1) x.1
  size : x.0.0 ≤ most_file format
  count : x.0.1 ≡ blobs_in format x.0.0

abbrev with_blob_count : Format → ℕ → ℕ × List ℕ → Field (ℕ × ℕ)
with_blob_count format size count = given_if (nat_le size (most_file format) && (count.0 == blobs_in format size)) ((size, count.0), count.1)

file_head_takes : FieldsSpelled → (format : Format) (text : List ℕ) (x : (ℕ × ℕ) × List ℕ) → IsBytes text → file_head_at format text ≡ Some x → TakesFileHead format text x
unfolding file_head_at
file_head_takes law format text x fits e =
    let s = bind_some (number_at w64 text) (λ size. number_at w32 size.1 >>= with_blob_count format size.0) x e in
    let c = bind_some (number_at w32 s.0.1) (with_blob_count format s.0.0) x s.2 in
    let t0 = law.eight text s.0 fits s.1 in
    let t1 = law.four s.0.1 c.0 t0.0.bytes c.1 in
    let made : (ℕ × ℕ) × List ℕ = ((s.0.0, c.0.0), c.0.1) in
    let g = given_is (nat_le s.0.0 (most_file format) && (c.0.0 == blobs_in format s.0.0)) made x c.2 in
    let tests = both (nat_le s.0.0 (most_file format)) (c.0.0 == blobs_in format s.0.0) g.0 in
    let whole = Takes-then text (to_be_bytes w64 s.0.0) s.0.1 (to_be_bytes w32 c.0.0) c.0.1 t0.0 t1.0 in
    subst (TakesFileHead format text) g.1 (record { takes = whole; size = leb-true s.0.0 (most_file format) tests.0; count = eqb-true c.0.0 (blobs_in format s.0.0) tests.1 })

file_is_read : FieldsSpelled → (format : Format) (text : List ℕ) (o : Object) → IsBytes text → file_at format text ≡ Some o → Spells (file_tag format ∷ text) o
unfolding file_at
file_is_read law format text o fits e =
    let h = bind_some (file_head_at format text) (λ head. names_at head.0.1 head.1 >>= λ blobs. at_end (file_object format head.0.0 blobs.0, blobs.1)) o e in
    let b = bind_some (names_at h.0.0.1 h.0.1) (λ blobs. at_end (file_object format h.0.0.0 blobs.0, blobs.1)) o h.2 in
    let head = file_head_takes law format text h.0 fits h.1 in
    let blobs = names_take law h.0.0.1 h.0.1 b.0 head.takes.bytes b.1 in
    let end = ended (file_object format h.0.0.0 b.0.0, b.0.1) o b.2 in
    let head_text = λ (count : ℕ). to_be_bytes w64 h.0.0.0 ++ to_be_bytes w32 count in
    let counted : Takes text (head_text (length b.0.0)) h.0.1 = subst (λ (k : ℕ). Takes text (head_text k) h.0.1) (sym blobs.all) head.takes in
    let whole : text ≡ head_text (length b.0.0) ++ names_text b.0.0 = Takes-all text _ b.0.1 (Takes-then text (head_text (length b.0.0)) h.0.1 (names_text b.0.0) b.0.1 counted blobs.takes) end.1 in
    let ranges : IsFile format h.0.0.0 b.0.0 = record { fits = head.size; count = blobs.all ∙ head.count } in
    let spelled : Spells (file_text format h.0.0.0 b.0.0) (file_object format h.0.0.0 b.0.0) = spells_file format h.0.0.0 b.0.0 ranges blobs.names in
    subst (Spells (file_tag format ∷ text)) end.0 (subst (λ (t : List ℕ). Spells (file_tag format ∷ t) (file_object format h.0.0.0 b.0.0)) (sym whole) spelled)

few_blobs : (format : Format) (size count : ℕ) → size ≤ most_file format → count ≡ blobs_in format size → (count < 2 ^ 32) × (size < 2 ^ 64)
few_blobs formats.One size count fits is = (omega arith, omega arith)
few_blobs formats.Two size count fits is = (omega arith, omega arith)

file_again : FieldsRead → (format : Format) (size : ℕ) (blobs : List Name) → IsFile format size blobs → AreNames blobs → file_at format (to_be_bytes w64 size ++ to_be_bytes w32 (length blobs) ++ names_text blobs) ≡ Some (file_object format size blobs)
unfolding file_at file_head_at
file_again law format size blobs file names =
    let counted = to_be_bytes w32 (length blobs) ++ (names_text blobs ++ []) in
    let regrouped : to_be_bytes w64 size ++ to_be_bytes w32 (length blobs) ++ names_text blobs ≡ to_be_bytes w64 size ++ counted = simp (append_assoc, append-nil) in
    let few = few_blobs format size (length blobs) file.fits file.count in
    let small : nat_le size (most_file format) ≡ true = le-leb size (most_file format) file.fits in
    let right : (length blobs == blobs_in format size) ≡ true = eq-eqb (length blobs) (blobs_in format size) file.count in
    ap (file_at format) regrouped
    ∙ rw (law.eight size counted few.1, law.four (length blobs) (names_text blobs ++ []) few.0, small, right, names_again law blobs [] names) refl

-- ---- directories

record TakesCount (text : List ℕ) (x : ℕ × List ℕ) : Type 0 where
  takes : Takes text (to_be_bytes w32 x.0) x.1
  few : x.0 ≤ most_rows

count_takes : FieldsSpelled → (text : List ℕ) (x : ℕ × List ℕ) → IsBytes text → row_count_at text ≡ Some x → TakesCount text x
unfolding row_count_at
count_takes law text x fits e =
    let c = bind_some (number_at w32 text) (λ count. given_if (nat_le count.0 most_rows) count) x e in
    let g = given_is (nat_le c.0.0 most_rows) c.0 x c.2 in
    let count = law.four text c.0 fits c.1 in
    subst (TakesCount text) g.1 (record { takes = count.0; few = leb-true c.0.0 most_rows g.0 })

-- the rows of a directory are read
record ReadsDir {R : Type 0} (text_of label_of : R → List ℕ) (fits : R → Type 0) (make : List R → Object) (text : List ℕ) (o : Object) : Type 0 where
  rows : List R
  is : make rows ≡ o
  spelled : text ≡ to_be_bytes w32 (length rows) ++ flat_map text_of rows
  fit : All fits rows
  dir : AreRows label_of rows

dir_is_read : {R : Type 0} (one : RowReader R) (text_of label_of : R → List ℕ) (fits : R → Type 0) → IsRowGrammar one text_of label_of fits → FieldsSpelled → (make : List R → Object) (text : List ℕ) (o : Object) → IsBytes text
    → dir_with one make text ≡ Some o → ReadsDir text_of label_of fits make text o
unfolding dir_with
dir_is_read {R} one text_of label_of fits g law make text o bytes e =
    let c = bind_some (row_count_at text) (λ count. rows_at one count.0 count.1 >>= λ rows. Some (make rows)) o e in
    let r = bind_some (rows_at one c.0.0 c.0.1) (λ rows. Some (make rows)) o c.2 in
    let count = count_takes law text c.0 bytes c.1 in
    let rows = rows_are_read one text_of label_of fits g c.0.0 c.0.1 r.0 count.takes.bytes r.1 in
    let whole : text ≡ to_be_bytes w32 (length r.0) ++ flat_map text_of r.0 = count.takes.parts ∙ (λ i. to_be_bytes w32 (sym rows.all i) ++ rows.spelled i) in record {
      rows = r.0;
      is = some_same (make r.0) o r.2;
      spelled = whole;
      fit = rows.fit;
      dir = record { few = omega (arith, rows.all, count.few); labels = λ k d lt. g.label (get_or r.0 k d) (rows.fit k d lt); rising = rows.rise };
    }

dir_again : {R : Type 0} (one : RowReader R) (text_of label_of : R → List ℕ) (fits : R → Type 0) → IsRowGrammar one text_of label_of fits → FieldsRead → (make : List R → Object) (rows : List R) → AreRows label_of rows → All fits rows
    → dir_with one make (to_be_bytes w32 (length rows) ++ flat_map text_of rows) ≡ Some (make rows)
unfolding dir_with row_count_at
dir_again one text_of label_of fits g law make rows dir fit =
    let few : nat_le (length rows) most_rows ≡ true = le-leb (length rows) most_rows dir.few in
    rw (law.four (length rows) (flat_map text_of rows) (omega (arith, dir.few)), few, rows_are_read_again one text_of label_of fits g rows fit dir.rising) refl

each : {R : Type 0} (P Q : R → Type 0) (rows : List R) → All P rows → ((row : R) → P row → Q row) → All Q rows
each P Q rows all f k d lt = f (get_or rows k d) (all k d lt)

names_fit : {R : Type 0} (name_of : R → Name) (rows : List R) → All (λ (row : R). length (name_of row).0 ≡ 32) rows → AreNames (map name_of rows)
names_fit name_of rows all = All-map (λ (name : Name). length name.0 ≡ 32) name_of rows all

dir_one_is_read : FieldsSpelled → FieldsRead → (text : List ℕ) (o : Object) → IsBytes text → dir_at formats.One text ≡ Some o → Spells (68 ∷ text) o
dir_one_is_read law read text o bytes e =
    let h = dir_is_read row_at row_text (λ (row : Row). row.label) RowFits (row_grammar law read) law Dir text o bytes e in
    let names = names_fit (λ (row : Row). row.name) h.rows (each RowFits (λ (row : Row). length row.name.0 ≡ 32) h.rows h.fit (λ row f. f.name)) in
    subst (Spells (68 ∷ text)) h.is (record { ranges = (h.dir, names); spelled = ap (λ (t : List ℕ). 68 ∷ t) h.spelled })

dir_two_is_read : FieldsSpelled → FieldsRead → (text : List ℕ) (o : Object) → IsBytes text → dir_at formats.Two text ≡ Some o → Spells (69 ∷ text) o
dir_two_is_read law read text o bytes e =
    let h = dir_is_read sized_row_at sized_row_text (λ (row : SizedRow). row.label) SizedRowFits (sized_row_grammar law read) law Dir2 text o bytes e in
    let names = names_fit (λ (row : SizedRow). row.name) h.rows (each SizedRowFits (λ (row : SizedRow). length row.name.0 ≡ 32) h.rows h.fit (λ row f. f.name)) in
    let sizes = each SizedRowFits (λ (row : SizedRow). row.size < 2 ^ 64) h.rows h.fit (λ row f. f.size) in
    subst (Spells (69 ∷ text)) h.is (record { ranges = (h.dir, names, sizes); spelled = ap (λ (t : List ℕ). 69 ∷ t) h.spelled })

dir_any_is_read : FieldsSpelled → FieldsRead → (format : Format) (text : List ℕ) (o : Object) → IsBytes text → dir_at format text ≡ Some o → Spells (dir_tag format ∷ text) o
dir_any_is_read law read formats.One text o bytes e = dir_one_is_read law read text o bytes e
dir_any_is_read law read formats.Two text o bytes e = dir_two_is_read law read text o bytes e

name_at_place : {R : Type 0} (name_of : R → Name) (rows : List R) → AreNames (map name_of rows) → All (λ (row : R). length (name_of row).0 ≡ 32) rows
name_at_place name_of [] h = λ k d lt. absurd (omega arith)
name_at_place {R} name_of (row ∷ rows) h = All-cons (λ (r : R). length (name_of r).0 ≡ 32) row rows (All-first (λ (name : Name). length name.0 ≡ 32) (name_of row) (map name_of rows) h) (name_at_place name_of rows (All-rest (λ (name : Name). length name.0 ≡ 32) (name_of row) (map name_of rows) h))

dir_one_again : FieldsSpelled → FieldsRead → (rows : List Row) → AreRows (λ (row : Row). row.label) rows → AreNames (map (λ (row : Row). row.name) rows) → dir_with row_at Dir (to_be_bytes w32 (length rows) ++ flat_map row_text rows) ≡ Some (Dir rows)
dir_one_again law read rows dir names =
    let named = name_at_place (λ (row : Row). row.name) rows names in
    dir_again row_at row_text (λ (row : Row). row.label) RowFits (row_grammar law read) read Dir rows dir (λ k d lt. record { label = dir.labels k d lt; name = named k d lt })

dir_two_again : FieldsSpelled → FieldsRead → (rows : List SizedRow) → AreRows (λ (row : SizedRow). row.label) rows → AreNames (map (λ (row : SizedRow). row.name) rows) → All (λ (row : SizedRow). row.size < 2 ^ 64) rows
    → dir_with sized_row_at Dir2 (to_be_bytes w32 (length rows) ++ flat_map sized_row_text rows) ≡ Some (Dir2 rows)
dir_two_again law read rows dir names sizes =
    let named = name_at_place (λ (row : SizedRow). row.name) rows names in
    dir_again sized_row_at sized_row_text (λ (row : SizedRow). row.label) SizedRowFits (sized_row_grammar law read) read Dir2 rows dir (λ k d lt. record { label = dir.labels k d lt; size = sizes k d lt; name = named k d lt })

-- ---- versions

abbrev VersionHead : Type 0
VersionHead = ClientId × ℕ × ℕ

abbrev head_text : VersionHead → List ℕ
head_text h = to_be_bytes w32 h.0.0 ++ to_be_bytes w32 h.1 ++ h.2 ∷ []

record TakesVersionHead (text : List ℕ) (x : VersionHead × List ℕ) : Type 0 where
  takes : Takes text (head_text x.0) x.1
  client : x.0.0.0 < CLIENTS
  number : x.0.1 < 2 ^ 32
  few : x.0.2 ≤ PARENTS

abbrev with_parent_count : ClientId → ℕ → ℕ × List ℕ → Field VersionHead
with_parent_count client number count = given_if (nat_le count.0 PARENTS) ((client, number, count.0), count.1)

version_head_takes : FieldsSpelled → (text : List ℕ) (x : VersionHead × List ℕ) → IsBytes text → version_head_at text ≡ Some x → TakesVersionHead text x
unfolding version_head_at
version_head_takes law text x fits e =
    let c = bind_some (client_at text) (λ client. number_at w32 client.1 >>= λ number. byte_at number.1 >>= with_parent_count client.0 number.0) x e in
    let n = bind_some (number_at w32 c.0.1) (λ number. byte_at number.1 >>= with_parent_count c.0.0 number.0) x c.2 in
    let p = bind_some (byte_at n.0.1) (with_parent_count c.0.0 n.0.0) x n.2 in
    let t0 = law.client text c.0 fits c.1 in
    let t1 = law.four c.0.1 n.0 t0.0.bytes n.1 in
    let t2 = law.byte n.0.1 p.0 t1.0.bytes p.1 in
    let made : VersionHead × List ℕ = ((c.0.0, n.0.0, p.0.0), p.0.1) in
    let g = given_is (nat_le p.0.0 PARENTS) made x p.2 in
    let e1 = Takes-then text (to_be_bytes w32 c.0.0.0) c.0.1 (to_be_bytes w32 n.0.0) n.0.1 t0.0 t1.0 in
    let e2 = Takes-then text (to_be_bytes w32 c.0.0.0 ++ to_be_bytes w32 n.0.0) n.0.1 (p.0.0 ∷ []) p.0.1 e1 t2 in
    subst (TakesVersionHead text) g.1 (record { takes = e2; client = t0.1; number = t1.1; few = leb-true p.0.0 PARENTS g.0 })

abbrev version_of : Format → VersionHead → List Name → Name → Object
version_of format h parents root = version_object format h.0 h.1 parents root

version_is_read : FieldsSpelled → (format : Format) (text : List ℕ) (o : Object) → IsBytes text → version_at format text ≡ Some o → Spells (version_tag format ∷ text) o
unfolding version_at
version_is_read law format text o fits e =
    let h = bind_some (version_head_at text) (λ head. names_at head.0.2 head.1 >>= λ parents. name_at parents.1 >>= λ root. at_end (version_of format head.0 parents.0 root.0, root.1)) o e in
    let p = bind_some (names_at h.0.0.2 h.0.1) (λ parents. name_at parents.1 >>= λ root. at_end (version_of format h.0.0 parents.0 root.0, root.1)) o h.2 in
    let r = bind_some (name_at p.0.1) (λ root. at_end (version_of format h.0.0 p.0.0 root.0, root.1)) o p.2 in
    let head = version_head_takes law text h.0 fits h.1 in
    let parents = names_take law h.0.0.2 h.0.1 p.0 head.takes.bytes p.1 in
    let root = law.name p.0.1 r.0 parents.takes.bytes r.1 in
    let end = ended (version_of format h.0.0 p.0.0 r.0.0, r.0.1) o r.2 in
    let counted : Takes text (head_text (h.0.0.0, h.0.0.1, length p.0.0)) h.0.1 = subst (λ (k : ℕ). Takes text (head_text (h.0.0.0, h.0.0.1, k)) h.0.1) (sym parents.all) head.takes in
    let e1 = Takes-then text (head_text (h.0.0.0, h.0.0.1, length p.0.0)) h.0.1 (names_text p.0.0) p.0.1 counted parents.takes in
    let e2 = Takes-then text (head_text (h.0.0.0, h.0.0.1, length p.0.0) ++ names_text p.0.0) p.0.1 r.0.0.0 r.0.1 e1 root.0 in
    let whole : text ≡ head_text (h.0.0.0, h.0.0.1, length p.0.0) ++ names_text p.0.0 ++ r.0.0.0 = Takes-all text _ r.0.1 e2 end.1 in
    let ranges : IsVersion h.0.0.0 h.0.0.1 p.0.0 = record { known = head.client; fits = head.number; few = omega (arith, parents.all, head.few) } in
    let made = version_of format h.0.0 p.0.0 r.0.0 in
    let spelled : Spells (version_text format h.0.0.0 h.0.0.1 p.0.0 r.0.0) made = spells_version format h.0.0.0 h.0.0.1 p.0.0 r.0.0 ranges parents.names root.1 in
    subst (Spells (version_tag format ∷ text)) end.0 (subst (λ (t : List ℕ). Spells (version_tag format ∷ t) made) (sym whole) spelled)

version_again : FieldsRead → (format : Format) (client : ClientId) (number : ℕ) (parents : List Name) (root : Name) → IsVersion client number parents → AreNames parents → length root.0 ≡ 32
    → version_at format (to_be_bytes w32 client.0 ++ to_be_bytes w32 number ++ (length parents ∷ []) ++ names_text parents ++ root.0) ≡ Some (version_object format client number parents root)
unfolding version_at version_head_at
version_again law format client number parents root h names len =
    let after_count = names_text parents ++ (root.0 ++ []) in
    let after_number = length parents ∷ after_count in
    let after_client = to_be_bytes w32 number ++ after_number in
    let regrouped : to_be_bytes w32 client.0 ++ to_be_bytes w32 number ++ (length parents ∷ []) ++ names_text parents ++ root.0 ≡ to_be_bytes w32 client.0 ++ after_client = simp (append_assoc, append-nil) in
    let few : nat_le (length parents) PARENTS ≡ true = le-leb (length parents) PARENTS h.few in
    ap (version_at format) regrouped
    ∙ rw (law.client client after_client h.known, law.four number after_number h.fits, few, names_again law parents (root.0 ++ []) names, law.name root [] len) refl

-- ---- objects

-- the first of four tests that holds, or what is left
one_of_four : {A : Type 0} (a b c d : Bool) (x y z w v : Option A) (o : A) → cond a x (cond b y (cond c z (cond d w v))) ≡ Some o
    → ((a ≡ true) × (x ≡ Some o)) ⊎ (((b ≡ true) × (y ≡ Some o)) ⊎ (((c ≡ true) × (z ≡ Some o)) ⊎ (((d ≡ true) × (w ≡ Some o)) ⊎ (v ≡ Some o))))
one_of_four true b c d x y z w v o e = inl (refl, e)
one_of_four false true c d x y z w v o e = inr (inl (refl, e))
one_of_four false false true d x y z w v o e = inr (inr (inl (refl, e)))
one_of_four false false false true x y z w v o e = inr (inr (inr (inl (refl, e))))
one_of_four false false false false x y z w v o e = inr (inr (inr (inr e)))

-- what stands behind a tag of the format is spelled so, or it is what else stands there
tagged_as_is_read : FieldsSpelled → FieldsRead → (format : Format) (tag : ℕ) (text : List ℕ) (other : Option Object) (o : Object) → IsBytes text → tagged_as format tag text other ≡ Some o → Spells (tag ∷ text) o ⊎ (other ≡ Some o)
unfolding tagged_as
tagged_as_is_read law read format tag text other o fits e =
    let with_tag : (t : ℕ) → tag ≡ t → Spells (t ∷ text) o → Spells (tag ∷ text) o = λ t is h. subst (λ (k : ℕ). Spells (k ∷ text) o) (sym is) h in
    elim (one_of_four (tag == blob_tag format) (tag == file_tag format) (tag == dir_tag format) (tag == version_tag format) (blob_at format text) (file_at format text) (dir_at format text) (version_at format text) other o e) [
      | inl h ↦ inl (with_tag (blob_tag format) (eqb-true tag (blob_tag format) h.0) (blob_is_read format text o h.1))
      | inr h ↦ elim h [
        | inl h ↦ inl (with_tag (file_tag format) (eqb-true tag (file_tag format) h.0) (file_is_read law format text o fits h.1))
        | inr h ↦ elim h [
          | inl h ↦ inl (with_tag (dir_tag format) (eqb-true tag (dir_tag format) h.0) (dir_any_is_read law read format text o fits h.1))
          | inr h ↦ elim h [
            | inl h ↦ inl (with_tag (version_tag format) (eqb-true tag (version_tag format) h.0) (version_is_read law format text o fits h.1))
            | inr h ↦ inr h
          ]
        ]
      ]
    ]

tagged_is_read : FieldsSpelled → FieldsRead → (tag : ℕ) (text : List ℕ) (o : Object) → IsBytes text → tagged_at tag text ≡ Some o → Spells (tag ∷ text) o
unfolding tagged_at
tagged_is_read law read tag text o fits e =
    elim (tagged_as_is_read law read formats.One tag text (tagged_as formats.Two tag text None) o fits e) [
      | inl h ↦ h
      | inr other ↦ elim (tagged_as_is_read law read formats.Two tag text None o fits other) [ inl h ↦ h | inr none ↦ absurd (none-some o none) ]
    ]

pub object_is_read : FieldsSpelled → FieldsRead → (text : List ℕ) (o : Object) → IsBytes text → object_at text ≡ Some o → Spells text o
unfolding object_at
object_is_read law read [] o fits e = absurd cc
object_is_read law read (tag ∷ text) o fits e = tagged_is_read law read tag text o (IsBytes-rest tag text fits) e

pub object_is_read_again : FieldsSpelled → FieldsRead → (o : Object) → IsObject o → object_at (object_text o) ≡ Some o
unfolding object_at tagged_at tagged_as
object_is_read_again law read (Blob text) h = blob_again formats.One text h
object_is_read_again law read (Blob2 text) h = blob_again formats.Two text h
object_is_read_again law read (File size blobs) h = file_again read formats.One size blobs h.0 h.1
object_is_read_again law read (File2 size blobs) h = file_again read formats.Two size blobs h.0 h.1
object_is_read_again law read (Dir rows) h = dir_one_again law read rows h.0 h.1
object_is_read_again law read (Dir2 rows) h = dir_two_again law read rows h.0 h.1 h.2
object_is_read_again law read (Version client number parents root) h = version_again read formats.One client number parents root h.0 h.1 h.2
object_is_read_again law read (Version2 client number parents root) h = version_again read formats.Two client number parents root h.0 h.1 h.2

pub spelled_is_read : FieldsSpelled → FieldsRead → (text : List ℕ) (o : Object) → Spells text o → object_at text ≡ Some o
spelled_is_read law read text o h = ap object_at h.spelled ∙ object_is_read_again law read o h.ranges

pub one_value : FieldsSpelled → FieldsRead → (text : List ℕ) (o p : Object) → Spells text o → Spells text p → o ≡ p
one_value law read text o p h k = some_same o p (sym (spelled_is_read law read text o h) ∙ spelled_is_read law read text p k)

-- what was found, where a value was asked for
pub object_is_found : FieldsSpelled → FieldsRead → (text : List ℕ) (r : Result Object ObjectError) → IsBytes text → Answers text (object_at text) r → IfOk r (λ o. Spells text o)
object_is_found law read text (Ok o) fits h = object_is_read law read text o fits h.1
object_is_found law read text (Err e) fits h = tt

-- a text that spells an object is answered by it, or memory ran out
pub object_is_given : FieldsSpelled → FieldsRead → (text : List ℕ) (r : Result Object ObjectError) (o : Object) → Spells text o → length text ≤ most_text → Answers text (object_at text) r → (r ≡ Ok o) ⊎ (r ≡ Err errors.NoMemory)
object_is_given law read text (Ok p) o h few is = inl (ap Ok (some_same p o (sym is.1 ∙ spelled_is_read law read text o h)))
object_is_given law read text (Err errors.NoMemory) o h few is = inr refl
object_is_given law read text (Err errors.NotAnObject) o h few is = absurd (none-some o (sym is.1 ∙ spelled_is_read law read text o h))
object_is_given law read text (Err (errors.TooLarge bytes)) o h few is = absurd (omega (arith, is.0))

-- a text that is not too long
pub answers_short : {A : Type 0} (text : List ℕ) (value : Option A) (r : Result A ObjectError) → length text ≤ most_text → Gives value r → Answers text value r
answers_short text value (Ok a) few h = (few, h)
answers_short text value (Err errors.NoMemory) few h = few
answers_short text value (Err errors.NotAnObject) few h = (few, h)
answers_short text value (Err (errors.TooLarge bytes)) few h = absurd h

-- ---- a blob, without a copy of it

pub no_blob : (format : Format) → blob_bytes format None ≡ None
no_blob formats.One = refl
no_blob formats.Two = refl

-- the tag of a blob and bytes of its size
pub blob_found : (format : Format) (tag : ℕ) (bytes : List ℕ) → tag ≡ blob_tag format → (nat_le (least_blob format) (length bytes) && nat_le (length bytes) (blob_size format)) ≡ true
    → Some bytes ≡ blob_bytes format (object_at (tag ∷ bytes))
unfolding object_at tagged_at tagged_as blob_at
blob_found formats.One tag bytes is fits = rw (is, fits) refl
blob_found formats.Two tag bytes is fits = rw (is, fits) refl

head_is : (a b : ℕ) (xs ys : List ℕ) → a ∷ xs ≡ b ∷ ys → a ≡ b
head_is a b xs ys e = cc

tail_is : (a b : ℕ) (xs ys : List ℕ) → a ∷ xs ≡ b ∷ ys → xs ≡ ys
tail_is a b xs ys e = cc

fits : (format : Format) (rest text : List ℕ) → rest ≡ text → IsBlob format text → (nat_le (least_blob format) (length rest) && nat_le (length rest) (blob_size format)) ≡ true
fits format rest text is h =
    let some : nat_le (least_blob format) (length text) ≡ true = le-leb (least_blob format) (length text) h.some in
    let few : nat_le (length text) (blob_size format) ≡ true = le-leb (length text) (blob_size format) h.few in
    ap (λ (t : List ℕ). nat_le (least_blob format) (length t) && nat_le (length t) (blob_size format)) is ∙ rw (some, few) refl

-- a blob of that format has its tag and its size
pub blob_only : (format : Format) (tag : ℕ) (rest : List ℕ) (o : Option Object) → ((p : Object) → o ≡ Some p → Spells (tag ∷ rest) p) → (tag ≡ blob_tag format → (nat_le (least_blob format) (length rest) && nat_le (length rest) (blob_size format)) ≡ true → ⊥)
    → None ≡ blob_bytes format o
blob_only format tag rest None spells never = sym (no_blob format)
blob_only format tag rest (Some p) spells never = by format p (spells p refl) never
  where
    by : (f : Format) (p : Object) → Spells (tag ∷ rest) p → (tag ≡ blob_tag f → (nat_le (least_blob f) (length rest) && nat_le (length rest) (blob_size f)) ≡ true → ⊥) → None ≡ blob_bytes f (Some p)
    by formats.One (Blob text) h never = absurd (never (head_is tag 66 rest text h.spelled) (fits formats.One rest text (tail_is tag 66 rest text h.spelled) h.ranges))
    by formats.Two (Blob2 text) h never = absurd (never (head_is tag 67 rest text h.spelled) (fits formats.Two rest text (tail_is tag 67 rest text h.spelled) h.ranges))
    by formats.One (File size blobs) h never = refl
    by formats.One (Dir rows) h never = refl
    by formats.One (Version client number parents root) h never = refl
    by formats.One (Blob2 text) h never = refl
    by formats.One (File2 size blobs) h never = refl
    by formats.One (Dir2 rows) h never = refl
    by formats.One (Version2 client number parents root) h never = refl
    by formats.Two (Blob text) h never = refl
    by formats.Two (File size blobs) h never = refl
    by formats.Two (Dir rows) h never = refl
    by formats.Two (Version client number parents root) h never = refl
    by formats.Two (File2 size blobs) h never = refl
    by formats.Two (Dir2 rows) h never = refl
    by formats.Two (Version2 client number parents root) h never = refl

-- what the first byte and the bytes behind it say of all of the text
pub text_begins : (text : List ℕ) (x : ℕ × List ℕ) → byte_at text ≡ Some x → text ≡ x.0 ∷ x.1
text_begins [] x e = absurd cc
text_begins (b ∷ rest) x e = ap (λ (y : ℕ × List ℕ). y.0 ∷ y.1) (some_same (b, rest) x e)

-- a blob names nothing, and is short enough to be read
abbrev pub NamesNothing : List ℕ → Option Object → Type 0
NamesNothing text o = (length text ≤ most_text) × (option_map children_of o ≡ Some [])

pub blob_names_nothing : (format : Format) (text bytes : List ℕ) (o : Option Object) → ((p : Object) → o ≡ Some p → length text ≤ most_text) → Some bytes ≡ blob_bytes format o → NamesNothing text o
blob_names_nothing format text bytes None short e = (let q : Some bytes ≡ None = e ∙ no_blob format in absurd cc)
blob_names_nothing format text bytes (Some p) short e = (short p refl, ap Some (by format p e))
  where
    by : (f : Format) (p : Object) → Some bytes ≡ blob_bytes f (Some p) → children_of p ≡ []
    by formats.One (Blob t) e = refl
    by formats.Two (Blob2 t) e = refl
    by formats.One (File size blobs) e = absurd cc
    by formats.One (Dir rows) e = absurd cc
    by formats.One (Version client number parents root) e = absurd cc
    by formats.One (Blob2 text) e = absurd cc
    by formats.One (File2 size blobs) e = absurd cc
    by formats.One (Dir2 rows) e = absurd cc
    by formats.One (Version2 client number parents root) e = absurd cc
    by formats.Two (Blob text) e = absurd cc
    by formats.Two (File size blobs) e = absurd cc
    by formats.Two (Dir rows) e = absurd cc
    by formats.Two (Version client number parents root) e = absurd cc
    by formats.Two (File2 size blobs) e = absurd cc
    by formats.Two (Dir2 rows) e = absurd cc
    by formats.Two (Version2 client number parents root) e = absurd cc

pub found_names_nothing : {A : Type 0} (format : Format) (text : List ℕ) (o : Option Object) (shown : A → List ℕ) (r : Option A) (b : Bool) → ((p : Object) → o ≡ Some p → length text ≤ most_text) → option_map shown r ≡ blob_bytes format o → b ≡ is_some r
    → OnTrue b (NamesNothing text o)
found_names_nothing format text o shown (Some a) b short e is = subst (λ (t : Bool). OnTrue t (NamesNothing text o)) (sym is) (blob_names_nothing format text (shown a) o short e)
found_names_nothing format text o shown None b short e is = subst (λ (t : Bool). OnTrue t (NamesNothing text o)) (sym is) tt

pub tagged_test : (a b : Bool) → (a && b) ≡ false → a ≡ true → b ≡ true → ⊥
tagged_test true true e p q = absurd cc
tagged_test true false e p q = absurd cc
tagged_test false b e p q = absurd cc

-- no text, no blob
pub nothing_there : (format : Format) (text : List ℕ) → byte_at text ≡ None → None ≡ blob_bytes format (object_at text)
unfolding object_at
nothing_there format [] e = sym (no_blob format)
nothing_there format (b ∷ rest) e = absurd cc
