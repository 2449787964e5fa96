-- Reading an object from the front of a text. The laws of `parse` tie this to the spellings.
use Rattle.std.specs.Prelude.{◌≡◌, ℕ, ◌<◌, ◌≤◌, ◌==◌, ◌&&◌, nat_le, Bool, List, [], length, Option, Some, None, Result, Ok, Err, if◌then◌else◌}
use Rattle.std.specs.Int.{w32, w64}
use Rattle.std.specs.Ordering.{is_lt, nat_cmp}
use Rattle.std.specs.Cmp.Lexicographic.{slice_cmp}
use Rattle.ms_base.specs.Options.{◌>>=◌}
use Rattle.ms_base.specs.Fields.{Field, byte_at, bytes_at, number_at, name_at, client_at, many_at, at_end}
use Rattle.ms_base.specs.declared.limits.TheConstants.{OBJECT_BYTES, PARENTS}
use Rattle.ms_base.specs.declared.names.ClientId.{ClientId}
use Rattle.ms_base.specs.declared.names.Name.{Name}
use Rattle.ms_object.specs.declared.fault.ObjectError.{ObjectError}
use Rattle.ms_object.specs.declared.fault.ObjectError.TheVariants as errors
use Rattle.ms_object.specs.declared.format.Format.{Format}
use Rattle.ms_object.specs.declared.format.Format.TheVariants as formats
use Rattle.ms_object.specs.declared.object.Kind.{Kind}
use Rattle.ms_object.specs.declared.object.Kind.TheVariants as kinds
use Rattle.ms_object.specs.declared.object.Object.{Object}
use Rattle.ms_object.specs.declared.object.Object.TheVariants.{Blob, Dir, Blob2, Dir2}
use Rattle.ms_object.specs.declared.object.Row.{Row}
use Rattle.ms_object.specs.declared.object.SizedRow.{SizedRow}
use Rattle.ms_object.specs.Labels.{is_label}
use Rattle.ms_object.specs.Objects.{blob_size, least_blob, most_file, most_rows, blobs_in, blob_tag, file_tag, dir_tag, version_tag, blob_object, file_object, version_object}

-- the value, where the test holds
abbrev pub given_if : {A : Type 0} → Bool → A → Option A
given_if test a = if test then Some a else None

-- so many names
abbrev pub names_at : ℕ → List ℕ → Field (List Name)
names_at count text = many_at name_at count text

unfoldable pub blob_at : Format → List ℕ → Option Object
blob_at format text = given_if (nat_le (least_blob format) (length text) && nat_le (length text) (blob_size format)) (blob_object format text)

-- a size in its range, and the count of blobs that belongs to it
unfoldable pub file_head_at : Format → List ℕ → Field (ℕ × ℕ)
file_head_at format text = do
  size ← number_at w64 text
  count ← number_at w32 size.1
  given_if (nat_le size.0 (most_file format) && (count.0 == blobs_in format size.0)) ((size.0, count.0), count.1)

unfoldable pub file_at : Format → List ℕ → Option Object
file_at format text = do
  head ← file_head_at format text
  blobs ← names_at head.0.1 head.1
  at_end (file_object format head.0.0 blobs.0, blobs.1)

abbrev pub kind_of : ℕ → Option Kind
kind_of byte = if byte == 102 then Some kinds.File else if byte == 100 then Some kinds.Dir else None

-- a label that comes behind the one before it
abbrev pub label_if : List ℕ → List ℕ → Bool
label_if before label = is_label label && is_lt (slice_cmp nat_cmp before label)

-- kind and label of a row, where the label of the row before it is known
unfoldable pub front_at : List ℕ → List ℕ → Field (Kind × List ℕ)
front_at before text = do
  byte ← byte_at text
  kind ← kind_of byte.0
  count ← byte_at byte.1
  label ← bytes_at count.0 count.1
  given_if (label_if before label.0) ((kind, label.0), label.1)

-- a row behind the label before it: what is left is its label, and the text after it
abbrev pub RowReader : Type 0 → Type 0
RowReader R = List ℕ × List ℕ → Option (R × (List ℕ × List ℕ))

unfoldable pub row_at : RowReader Row
row_at (before, text) = do
  front ← front_at before text
  name ← name_at front.1
  Some (record { kind = front.0.0; label = front.0.1; name = name.0 }, (front.0.1, name.1))

unfoldable pub sized_row_at : RowReader SizedRow
sized_row_at (before, text) = do
  front ← front_at before text
  size ← number_at w64 front.1
  name ← name_at size.1
  Some (record { kind = front.0.0; label = front.0.1; size = size.0; name = name.0 }, (front.0.1, name.1))

-- so many rows; no label is empty, so each comes behind nothing
unfoldable pub rows_at : {R : Type 0} → RowReader R → ℕ → List ℕ → Option (List R)
rows_at one count text = do
  rows ← many_at one count ([], text)
  at_end (rows.0, rows.1.1)

-- a count of rows in its range
unfoldable pub row_count_at : List ℕ → Field ℕ
row_count_at text = do
  count ← number_at w32 text
  given_if (nat_le count.0 most_rows) count

unfoldable pub dir_with : {R : Type 0} → RowReader R → (List R → Object) → List ℕ → Option Object
dir_with one make text = do
  count ← row_count_at text
  rows ← rows_at one count.0 count.1
  Some (make rows)

abbrev pub dir_at : Format → List ℕ → Option Object
dir_at formats.One text = dir_with row_at Dir text
dir_at formats.Two text = dir_with sized_row_at Dir2 text

-- client, number, and count of parents
unfoldable pub version_head_at : List ℕ → Field (ClientId × ℕ × ℕ)
version_head_at text = do
  client ← client_at text
  number ← number_at w32 client.1
  count ← byte_at number.1
  given_if (nat_le count.0 PARENTS) ((client.0, number.0, count.0), count.1)

unfoldable pub version_at : Format → List ℕ → Option Object
version_at format text = do
  head ← version_head_at text
  parents ← names_at head.0.2 head.1
  root ← name_at parents.1
  at_end (version_object format head.0.0 head.0.1 parents.0 root.0, root.1)

-- what stands behind this tag, where it is one of the format
unfoldable pub tagged_as : Format → ℕ → List ℕ → Option Object → Option Object
tagged_as format tag text other =
    if tag == blob_tag format then blob_at format text
    else if tag == file_tag format then file_at format text
    else if tag == dir_tag format then dir_at format text
    else if tag == version_tag format then version_at format text else other

-- what stands behind this tag
unfoldable pub tagged_at : ℕ → List ℕ → Option Object
tagged_at tag text = tagged_as formats.One tag text (tagged_as formats.Two tag text None)

-- the object that the text is
unfoldable pub object_at : List ℕ → Option Object
object_at text = do
  tag ← byte_at text
  tagged_at tag.0 tag.1

-- the bytes of a blob of that format
abbrev pub blob_bytes : Format → Option Object → Option (List ℕ)
blob_bytes formats.One (Some (Blob text)) = Some text
blob_bytes formats.Two (Some (Blob2 text)) = Some text
blob_bytes format _ = None

-- the bytes of the longest text that is read
abbrev pub most_text : ℕ
most_text = OBJECT_BYTES

-- the answer is this value, or that there is none, but for want of memory
abbrev pub Gives : {A : Type 0} → Option A → Result A ObjectError → Type 0
Gives value (Ok a) = value ≡ Some a
Gives value (Err errors.NotAnObject) = value ≡ None
Gives value (Err errors.NoMemory) = Unit {0}
Gives value (Err (errors.TooLarge bytes)) = ⊥

-- the same of a text of at most so many bytes; of a longer one its length, and nothing else
abbrev pub Answers : {A : Type 0} → List ℕ → Option A → Result A ObjectError → Type 0
Answers text value (Ok a) = (length text ≤ most_text) × (value ≡ Some a)
Answers text value (Err errors.NotAnObject) = (length text ≤ most_text) × (value ≡ None)
Answers text value (Err errors.NoMemory) = length text ≤ most_text
Answers text value (Err (errors.TooLarge bytes)) = (most_text < length text) × (bytes ≡ length text)
