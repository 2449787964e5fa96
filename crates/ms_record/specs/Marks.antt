-- Marks of refs: which member of the chain a client's folder has as its base.
use Rattle.std.specs.Prelude.{◌≡◌, ℕ, ◌^◌, ◌<◌, ◌≤◌, ◌==◌, List, [], ◌∷◌, ◌++◌, length, Option, Some, None, if◌then◌else◌}
use Rattle.std.specs.Int.{w32, to_be_bytes}
use Rattle.ms_base.specs.Options.{◌>>=◌}
use Rattle.ms_base.specs.declared.limits.TheConstants.{LAST_NUMBER}
use Rattle.ms_base.specs.Fields.{Field, byte_at, number_at, number_within, name_at, at_end}
use Rattle.ms_record.specs.declared.mark.RefMark.{RefMark}

-- the numbers are in their ranges, and the name has 32 bytes
pub record IsMark (m : RefMark) : Type 0 where
  pub number : m.number < 2 ^ 32
  pub position : m.position ≤ LAST_NUMBER
  pub name : length m.name.0 ≡ 32

-- `R`, the number, the position, and the name
abbrev pub mark_text : RefMark → List ℕ
mark_text m = 82 ∷ [] ++ to_be_bytes w32 m.number ++ to_be_bytes w32 m.position ++ m.name.0

-- what stands behind the tag of a mark
unfoldable pub marked_at : List ℕ → Field RefMark
marked_at text = do
  number ← number_at w32 text
  position ← number_within 0 LAST_NUMBER number.1
  name ← name_at position.1
  Some (record { number = number.0; position = position.0; name = name.0 }, name.1)

-- the mark whose text has this tag and this rest
unfoldable pub tagged_mark_at : ℕ → List ℕ → Option RefMark
tagged_mark_at tag text = if tag == 82 then marked_at text >>= at_end else None

-- the mark that the text is
unfoldable pub mark_at : List ℕ → Option RefMark
mark_at text = do
  tag ← byte_at text
  tagged_mark_at tag.0 tag.1
