-- The grammar of a listing.
use Rattle.std.specs.Prelude.{◌≡◌, ℕ, ◌+◌, List, [], ◌∷◌, ◌++◌, length, is_some, Option, IsSome, Some, None, Result, Ok, Err, if◌then◌else◌}
use Rattle.ms_base.specs.Options.{◌>>=◌}
use Rattle.ms_record.specs.declared.refusal.Refusal.{Refusal}
use Rattle.ms_record.specs.declared.refusal.Refusal.TheVariants as refusals
use Rattle.ms_record.specs.declared.refusal.Place.TheVariants as places
use Rattle.ms_text.specs.Lines.{lines_of}
use Rattle.ms_text.specs.Words.{two_words, hex_at, bytes_at}
use Rattle.ms_tree.specs.declared.limits.FilesError.{FilesError}
use Rattle.ms_tree.specs.declared.limits.FilesError.TheVariants as errors
use Rattle.ms_tree.specs.Limits.{on_ok}
use Rattle.ms_tree.specs.Files.{FileList, text_at, added}

-- `HEX HEX` or `HEX -`: a path and the bytes of its file
unfoldable pub row_at : List ℕ → Option (List ℕ × List ℕ)
row_at line = do
  words ← two_words line
  path ← hex_at words.0
  text ← bytes_at words.1
  Some (path, text)

-- a limit is named, and any other fault makes the line a wrong one
abbrev pub or_wrong : ℕ → Result FileList FilesError → Result FileList Refusal
or_wrong line (Ok files) = Ok files
or_wrong line (Err (errors.Limit what value)) = Err (refusals.Limit what value)
or_wrong line (Err e) = Err (refusals.BadInput places.Input line)

-- the text at a path that is not there yet
abbrev pub row_added : ℕ → FileList → List ℕ → List ℕ → Result FileList Refusal
row_added line files path text =
    if is_some (text_at files path) then Err (refusals.BadInput places.Input line) else or_wrong line (added files path text)

-- a line that is no row is a wrong one
abbrev pub with_row : ℕ → FileList → Option (List ℕ × List ℕ) → Result FileList Refusal
with_row line files None = Err (refusals.BadInput places.Input line)
with_row line files (Some row) = row_added line files row.0 row.1

-- the files of the lines before and of this one
abbrev pub with_line : ℕ → FileList → List ℕ → Result FileList Refusal
with_line line files text = with_row line files (row_at text)

-- the files of the lines before, and of lines that are counted from `line` on; or the first fault
abbrev pub with_lines : ℕ → FileList → List (List ℕ) → Result FileList Refusal
with_lines line files [] = Ok files
with_lines line files (text ∷ texts) = on_ok (with_line line files text) (λ next. with_lines (line + 1) next texts)

-- the files that the text lists, or its first fault
abbrev pub listing_at : List ℕ → Result FileList Refusal
listing_at text = with_lines 1 [] (lines_of text)

-- the lines before it go on, and this one has the fault
pub record IsFirstFault (texts : List (List ℕ)) (fault : Refusal) : Type 0 where
  pub front : List (List ℕ)
  pub text : List ℕ
  pub rest : List (List ℕ)
  pub all : texts ≡ front ++ text ∷ rest
  pub so_far : FileList
  pub goes_on : with_lines 1 [] front ≡ Ok so_far
  pub here : with_line (1 + length front) so_far text ≡ Err fault

-- memory ran out at a line of two words, behind lines that are right: no fault before it is hidden
pub record RanOut (texts : List (List ℕ)) : Type 0 where
  pub front : List (List ℕ)
  pub text : List ℕ
  pub rest : List (List ℕ)
  pub all : texts ≡ front ++ text ∷ rest
  pub so_far : FileList
  pub goes_on : with_lines 1 [] front ≡ Ok so_far
  pub words : IsSome (two_words text)

-- that answer comes, or no memory
abbrev pub ReadsListing : Result FileList Refusal → Result FileList Refusal → Type 0
ReadsListing given (Err refusals.NoMemory) = Unit {0}
ReadsListing given result = given ≡ result

-- the same of the files that a line was added to
abbrev pub AddsLine : FileList → Result FileList Refusal → Result Unit Refusal → Type 0
AddsLine new given (Ok _) = given ≡ Ok new
AddsLine new given (Err refusals.NoMemory) = Unit {0}
AddsLine new given (Err e) = given ≡ Err e
