-- What reading and writing all of a text did, by cases on the answer.
use Rattle.std.specs.Prelude.{◌≡◌, ⊤, ℕ, ◌+◌, ◌<◌, ◌≤◌, true, false, List, ◌++◌, length, take, Some, Result, Ok, Err, IfSome}
use Rattle.std.specs.Io.KnownBytes.{Appends, Consumes, Keeps, IsAtEnd}
use Rattle.ms_base.specs.declared.outside.ReadError.{ReadError}
use Rattle.ms_base.specs.declared.outside.ReadError.TheVariants as errors
use Rattle.ms_base.specs.declared.outside.Failed.{Failed}
use Rattle.ms_base.specs.Counts.{Rose}
use Rattle.ms_base.specs.Outside.{SourceView, SinkView, InputsView, HasText, text_named}

-- these bytes were read, at most so many
pub record ReadsFront (most : ℕ) (old new : SourceView) (front : List ℕ) : Type 0 where
  pub few : length front ≤ most
  pub bytes : Consumes old.left new.left front

-- all bytes to the end; else a front of them was read, and there is a reason
abbrev pub ReadsAll : ℕ → SourceView → SourceView → Result (List ℕ) ReadError → Type 0
ReadsAll limit old new (Ok text) = ReadsFront limit old new text × IsAtEnd new.left × (new.ended ≡ true)
ReadsAll limit old new (Err errors.NoMemory) = (front : List ℕ) × ReadsFront (limit + 1) old new front
ReadsAll limit old new (Err errors.Failed) = Rose old.faults new.faults × (front : List ℕ) × ReadsFront limit old new front
ReadsAll limit old new (Err (errors.TooLong bytes)) = (bytes ≡ limit + 1) × (front : List ℕ) × (length front ≡ limit + 1) × ReadsFront (limit + 1) old new front

-- a piece of at most so many bytes was put at the end of a text: no bytes at the end, where it is seen
abbrev pub ReadsPiece : ℕ → SourceView → SourceView → List ℕ → List ℕ → Result ℕ ReadError → Type 0
ReadsPiece room old new before after (Ok count) =
    (piece : List ℕ) × (length piece ≡ count) × (count ≤ room) × (after ≡ before ++ piece) × Consumes old.left new.left piece × (count ≡ 0 → IsAtEnd new.left × (new.ended ≡ true))
ReadsPiece room old new before after (Err errors.NoMemory) = (after ≡ before) × (piece : List ℕ) × (length piece ≤ room) × Consumes old.left new.left piece
ReadsPiece room old new before after (Err errors.Failed) = (after ≡ before) × Rose old.faults new.faults × Keeps old.left new.left
ReadsPiece room old new before after (Err (errors.TooLong bytes)) = ⊥

-- the count is as before after each answer but a failure
abbrev pub StaysUnlessFailed : {X : Type 0} → ℕ → ℕ → Result X ReadError → Type 0
StaysUnlessFailed before now (Err errors.Failed) = ⊤
StaysUnlessFailed before now (Err errors.NoMemory) = now ≡ before
StaysUnlessFailed before now (Err (errors.TooLong bytes)) = now ≡ before
StaysUnlessFailed before now (Ok x) = now ≡ before

-- all of the text was written, or a front of it and the count rose
abbrev pub WritesAll : List ℕ → SinkView → SinkView → Result Unit Failed → Type 0
WritesAll text old new (Ok _) = Appends old.contents new.contents text
WritesAll text old new (Err _) = Rose old.faults new.faults × (count : ℕ) × (count ≤ length text) × Appends old.contents new.contents (take count text)

-- where the texts are told, the text of that name is longer
abbrev pub HasLongText : InputsView → List ℕ → ℕ → Type 0
HasLongText view name limit = IfSome view.texts (λ texts. (text : List ℕ) × (text_named texts name ≡ Some text) × (limit < length text))

-- the text of that name, read to its end, or the reason why not
abbrev pub GivesInput : List ℕ → ℕ → InputsView → InputsView → Result (List ℕ) ReadError → Type 0
GivesInput name limit old new (Ok text) = HasText old name text × (length text ≤ limit) × (new.ended ≡ true)
GivesInput name limit old new (Err errors.NoMemory) = new.ended ≡ false
GivesInput name limit old new (Err errors.Failed) = Rose old.faults new.faults × (new.ended ≡ false)
GivesInput name limit old new (Err (errors.TooLong bytes)) = (bytes ≡ limit + 1) × HasLongText old name limit × (new.ended ≡ false)
