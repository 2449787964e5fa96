-- Objects of both formats: their ranges, their one spelling, their names and their children.
use Rattle.std.specs.Prelude.{◌≡◌, ℕ, ◌^◌, ◌<◌, ◌≤◌, ◌==◌, List, [], ◌∷◌, ◌++◌, length, map, All, flat_map, Option, Some, None, if◌then◌else◌}
use Rattle.std.specs.Int.{w32, w64, to_be_bytes, div_ceil}
use Rattle.std.specs.List.Sorted.{IsStrictlySortedBy}
use Rattle.std.specs.Ordering.{nat_cmp}
use Rattle.std.specs.Cmp.Lexicographic.{slice_cmp}
use Rattle.sha2.specs.Sha256.{sha256}
use Rattle.ms_base.specs.declared.limits.TheConstants.{BLOB_BYTES, BLOB_2_BYTES, CLIENTS, FILE_BYTES, FILE_2_BYTES, FILES, PARENTS}
use Rattle.ms_base.specs.declared.names.ClientId.{ClientId}
use Rattle.ms_base.specs.declared.names.Name.{Name}
use Rattle.ms_object.specs.declared.format.Format.{Format}
use Rattle.ms_object.specs.declared.format.Format.TheVariants as formats
use Rattle.ms_object.specs.declared.object.Kind.{Kind}
use Rattle.ms_object.specs.declared.object.Kind.TheVariants as kinds
use Rattle.ms_object.specs.declared.object.Object.{Object}
use Rattle.ms_object.specs.declared.object.Object.TheVariants.{Blob, File, Dir, Version, Blob2, File2, Dir2, Version2}
use Rattle.ms_object.specs.declared.object.Row.{Row}
use Rattle.ms_object.specs.declared.object.SizedRow.{SizedRow}
use Rattle.ms_object.specs.Labels.{IsLabel}

-- ---- the numbers of a format

abbrev pub numbered : ℕ → Option Format
numbered number = if number == 1 then Some formats.One else if number == 2 then Some formats.Two else None

-- the bytes of a whole blob
abbrev pub blob_size : Format → ℕ
blob_size formats.One = BLOB_BYTES
blob_size formats.Two = BLOB_2_BYTES

-- the fewest bytes of a blob
abbrev pub least_blob : Format → ℕ
least_blob formats.One = 0
least_blob formats.Two = 1

-- the bytes of the greatest file
abbrev pub most_file : Format → ℕ
most_file formats.One = FILE_BYTES
most_file formats.Two = FILE_2_BYTES

-- the rows of the greatest directory
abbrev pub most_rows : ℕ
most_rows = FILES

-- the first bytes of objects: `B`, `F`, `D`, `V` or `C`, `G`, `E`, `W`
abbrev pub blob_tag : Format → ℕ
blob_tag formats.One = 66
blob_tag formats.Two = 67

abbrev pub file_tag : Format → ℕ
file_tag formats.One = 70
file_tag formats.Two = 71

abbrev pub dir_tag : Format → ℕ
dir_tag formats.One = 68
dir_tag formats.Two = 69

abbrev pub version_tag : Format → ℕ
version_tag formats.One = 86
version_tag formats.Two = 87

-- ---- the objects of a format

abbrev pub blob_object : Format → List ℕ → Object
blob_object formats.One text = Blob text
blob_object formats.Two text = Blob2 text

abbrev pub file_object : Format → ℕ → List Name → Object
file_object formats.One size blobs = File size blobs
file_object formats.Two size blobs = File2 size blobs

abbrev pub version_object : Format → ClientId → ℕ → List Name → Name → Object
version_object formats.One client number parents root = Version client number parents root
version_object formats.Two client number parents root = Version2 client number parents root

abbrev pub format_of : Object → Format
format_of (Blob text) = formats.One
format_of (File size blobs) = formats.One
format_of (Dir rows) = formats.One
format_of (Version client number parents root) = formats.One
format_of (Blob2 text) = formats.Two
format_of (File2 size blobs) = formats.Two
format_of (Dir2 rows) = formats.Two
format_of (Version2 client number parents root) = formats.Two

-- ---- ranges

-- how many blobs a file has: its size by theirs, rounded up
abbrev pub blobs_in : Format → ℕ → ℕ
blobs_in format size = div_ceil size (blob_size format)

-- names have 32 bytes
abbrev pub AreNames : List Name → Type 0
AreNames names = All (λ name. length name.0 ≡ 32) names

pub record IsBlob (format : Format) (text : List ℕ) : Type 0 where
  pub some : least_blob format ≤ length text
  pub few : length text ≤ blob_size format

pub record IsFile (format : Format) (size : ℕ) (blobs : List Name) : Type 0 where
  pub fits : size ≤ most_file format
  pub count : length blobs ≡ blobs_in format size

abbrev pub labels_of : List Row → List (List ℕ)
labels_of rows = map (λ row. row.label) rows

abbrev pub names_of : List Row → List Name
names_of rows = map (λ row. row.name) rows

abbrev pub sized_names_of : List SizedRow → List Name
sized_names_of rows = map (λ row. row.name) rows

-- rows with these labels, which rise strictly, by bytes
pub record AreRows {R : Type 0} (label_of : R → List ℕ) (rows : List R) : Type 0 where
  pub few : length rows ≤ most_rows
  pub labels : All (λ row. IsLabel (label_of row)) rows
  pub rising : IsStrictlySortedBy (slice_cmp nat_cmp) (map label_of rows)

abbrev pub IsDir : List Row → Type 0
IsDir rows = AreRows (λ row. row.label) rows

abbrev pub IsSizedDir : List SizedRow → Type 0
IsSizedDir rows = AreRows (λ row. row.label) rows

abbrev pub AreSizes : List SizedRow → Type 0
AreSizes rows = All (λ row. row.size < 2 ^ 64) rows

pub record IsVersion (client : ClientId) (number : ℕ) (parents : List Name) : Type 0 where
  pub known : client.0 < CLIENTS
  pub fits : number < 2 ^ 32
  pub few : length parents ≤ PARENTS

abbrev pub IsObject : Object → Type 0
IsObject (Blob text) = IsBlob formats.One text
IsObject (Blob2 text) = IsBlob formats.Two text
IsObject (File size blobs) = IsFile formats.One size blobs × AreNames blobs
IsObject (File2 size blobs) = IsFile formats.Two size blobs × AreNames blobs
IsObject (Dir rows) = IsDir rows × AreNames (names_of rows)
IsObject (Dir2 rows) = IsSizedDir rows × AreNames (sized_names_of rows) × AreSizes rows
IsObject (Version client number parents root) = IsVersion client number parents × AreNames parents × (length root.0 ≡ 32)
IsObject (Version2 client number parents root) = IsVersion client number parents × AreNames parents × (length root.0 ≡ 32)

-- ---- spellings

-- `f` or `d`
abbrev pub kind_byte : Kind → ℕ
kind_byte kinds.File = 102
kind_byte kinds.Dir = 100

-- kind, length of the label, label
abbrev pub front_text : Kind → List ℕ → List ℕ
front_text kind label = kind_byte kind ∷ length label ∷ [] ++ label

-- and the name, in format 2 with the size before it
abbrev pub row_text : Row → List ℕ
row_text row = front_text row.kind row.label ++ row.name.0

abbrev pub sized_row_text : SizedRow → List ℕ
sized_row_text row = front_text row.kind row.label ++ to_be_bytes w64 row.size ++ row.name.0

abbrev pub names_text : List Name → List ℕ
names_text names = flat_map (λ name. name.0) names

-- tag, bytes
abbrev pub blob_text : Format → List ℕ → List ℕ
blob_text format text = blob_tag format ∷ text

-- tag, size, count, names
abbrev pub file_text : Format → ℕ → List Name → List ℕ
file_text format size blobs = file_tag format ∷ [] ++ to_be_bytes w64 size ++ to_be_bytes w32 (length blobs) ++ names_text blobs

-- tag, count, rows
abbrev pub dir_text : {R : Type 0} → Format → (R → List ℕ) → List R → List ℕ
dir_text format text_of rows = dir_tag format ∷ [] ++ to_be_bytes w32 (length rows) ++ flat_map text_of rows

-- tag, client, number, count of parents, parents, root
abbrev pub version_text : Format → ClientId → ℕ → List Name → Name → List ℕ
version_text format client number parents root =
    version_tag format ∷ [] ++ to_be_bytes w32 client.0 ++ to_be_bytes w32 number ++ (length parents ∷ []) ++ names_text parents ++ root.0

abbrev pub object_text : Object → List ℕ
object_text (Blob text) = blob_text formats.One text
object_text (Blob2 text) = blob_text formats.Two text
object_text (File size blobs) = file_text formats.One size blobs
object_text (File2 size blobs) = file_text formats.Two size blobs
object_text (Dir rows) = dir_text formats.One row_text rows
object_text (Dir2 rows) = dir_text formats.Two sized_row_text rows
object_text (Version client number parents root) = version_text formats.One client number parents root
object_text (Version2 client number parents root) = version_text formats.Two client number parents root

-- the text is the object's
pub record Spells (text : List ℕ) (object : Object) : Type 0 where
  pub ranges : IsObject object
  pub spelled : text ≡ object_text object

-- the name of a text: its SHA-256
abbrev pub name_of : List ℕ → List ℕ
name_of text = sha256 text

-- the objects that an object names, but for a version's parents
abbrev pub children_of : Object → List Name
children_of (Blob text) = []
children_of (Blob2 text) = []
children_of (File size blobs) = blobs
children_of (File2 size blobs) = blobs
children_of (Dir rows) = names_of rows
children_of (Dir2 rows) = sized_names_of rows
children_of (Version client number parents root) = root ∷ []
children_of (Version2 client number parents root) = root ∷ []

-- the name of the version of nobody: client 0, number 0, no parents, and the empty directory as its root
unfoldable pub empty_version : Name
empty_version = record { 0 = name_of (object_text (Version (record { 0 = 0 }) 0 [] (record { 0 = name_of (object_text (Dir [])) }))) }

-- the empty directory of a format
abbrev pub empty_dir : Format → Object
empty_dir formats.One = Dir []
empty_dir formats.Two = Dir2 []
