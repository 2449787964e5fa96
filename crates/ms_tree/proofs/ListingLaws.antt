-- Lines of a listing: a path that is no text, and the first fault.
use Rattle.std.proofs.Common.{◌≡◌, ℕ, ◌+◌, Bool, true, false, List, [], ◌∷◌, ◌++◌, length, length-append, append_assoc, Option, Some, None, is_some, Bor, Result, Ok, Err, if◌then◌else◌, refl, sym, ◌∙◌, ap, arith}
use Rattle.std.specs.Str.{is_utf8, IsUtf8}
use Rattle.std.specs.Option.{option_copied}
use Rattle.std.proofs.lemmas.Bool.{false≢true}
use Rattle.std.proofs.lemmas.Str.{IsUtf8-from_is_utf8}
use Rattle.ms_record.specs.declared.refusal.Refusal.{Refusal}
use Rattle.ms_record.specs.declared.refusal.Refusal.TheVariants as refusals
use Rattle.ms_record.specs.declared.refusal.Place.TheVariants as places
use Rattle.ms_tree.specs.Limits.{on_ok}
use Rattle.ms_tree.specs.Files.{FileList, text_at, added, IsFiles}
use Rattle.ms_tree.proofs.FileLaws.{length-with_file}
use Rattle.ms_tree.proofs.AddedLaws.{added_files}
use Rattle.ms_tree.specs.Listings.{row_at, with_row, with_line, with_lines, or_wrong, IsFirstFault}

-- a path that is no text makes the line a wrong one
pub no_text : (line : ℕ) (files : FileList) (text : List ℕ) (o : Option (List ℕ × List ℕ)) (path content : List ℕ) → o ≡ row_at text → o ≡ Some (path, content) → ¬ IsUtf8 path
    → with_line line files text ≡ Err (refusals.BadInput places.Input line)
no_text line files text o path content h s off = ap (λ (r : Option (List ℕ × List ℕ)). with_row line files r) (sym h ∙ s) ∙ at_place (is_some (text_at files path)) (at_test (is_utf8 path) refl)
  where
    at_test : (b : Bool) → is_utf8 path ≡ b → is_utf8 path ≡ false
    at_test true e = absurd (off (IsUtf8-from_is_utf8 path e))
    at_test false e = e

    at_place : (b : Bool) → is_utf8 path ≡ false → (if b then Err (refusals.BadInput places.Input line) else or_wrong line (added files path content)) ≡ Err (refusals.BadInput places.Input line)
    at_place true e = refl
    at_place false e = rw e refl

-- the same as `IsFirstFault`, from any line and files on
record IsFaultFrom (from : ℕ) (start : FileList) (texts : List (List ℕ)) (fault : Refusal) : Type 0 where
  front : List (List ℕ)
  text : List ℕ
  rest : List (List ℕ)
  all : texts ≡ front ++ text ∷ rest
  so_far : FileList
  goes_on : with_lines from start front ≡ Ok so_far
  here : with_line (from + length front) so_far text ≡ Err fault

fault_on : (from : ℕ) (start : FileList) (text : List ℕ) (texts : List (List ℕ)) (fault : Refusal) (r : Result FileList Refusal) → with_line from start text ≡ r
    → on_ok r (λ next. with_lines (from + 1) next texts) ≡ Err fault
    → ((next : FileList) → with_lines (from + 1) next texts ≡ Err fault → IsFaultFrom (from + 1) next texts fault) → IsFaultFrom from start (text ∷ texts) fault
fault_on from start text texts fault (Err e) is h on = record { front = []; text = text; rest = texts; all = refl; so_far = start; goes_on = refl; here = let first : from + 0 ≡ from = omega arith in rw first (is ∙ h) }
fault_on from start text texts fault (Ok next) is h on =
    let w = on next h in
    let place : from + 1 + length w.front ≡ from + length (text ∷ w.front) = omega arith in
    record {
      front = text ∷ w.front;
      text = w.text;
      rest = w.rest;
      all = ap (λ (xs : List (List ℕ)). text ∷ xs) w.all;
      so_far = w.so_far;
      goes_on = rw is w.goes_on;
      here = ap (λ (n : ℕ). with_line n w.so_far w.text) (sym place) ∙ w.here;
    }

fault_from : (from : ℕ) (start : FileList) (texts : List (List ℕ)) (fault : Refusal) → with_lines from start texts ≡ Err fault → IsFaultFrom from start texts fault
fault_from from start [] fault h = absurd cc
fault_from from start (text ∷ texts) fault h = fault_on from start text texts fault (with_line from start text) refl h (λ next k. fault_from (from + 1) next texts fault k)

pub first_fault : (texts : List (List ℕ)) (fault : Refusal) → with_lines 1 [] texts ≡ Err fault → IsFirstFault texts fault
first_fault texts fault h = let w = fault_from 1 [] texts fault h in record { front = w.front; text = w.text; rest = w.rest; all = w.all; so_far = w.so_far; goes_on = w.goes_on; here = w.here }

pub none_found : (found : Option (Bor (List ℕ))) (text : Option (List ℕ)) → option_copied found ≡ text → false ≡ is_some found → text ≡ None
none_found None text e none = sym e
none_found (Some bytes) text e none = absurd (false≢true none)

-- a file at a path where none was is one more
pub one_file_more : (files new : FileList) (path text : List ℕ) → IsFiles files → text_at files path ≡ None → added files path text ≡ Ok new → length new ≡ length files + 1
one_file_more files new path text kept none h =
    let is = added_files files new path text kept h in
    ap length is.0 ∙ length-with_file path text files kept.rising ∙ rw none refl

-- ---- what was read

-- the lines before these are right, and each gave one file
pub record HasRead (texts rest : List (List ℕ)) (files : FileList) : Type 0 where
  pub front : List (List ℕ)
  pub all : texts ≡ front ++ rest
  pub goes_on : with_lines 1 [] front ≡ Ok files
  pub count : length files ≡ length front

with_lines-append : (from : ℕ) (start next : FileList) (front more : List (List ℕ)) → with_lines from start front ≡ Ok next → with_lines from start (front ++ more) ≡ with_lines (from + length front) next more
with_lines-append from start next [] more h =
    let same : start ≡ next = cc in
    let place : from ≡ from + 0 = omega arith in
    ap (λ (fs : FileList). with_lines from fs more) same ∙ ap (λ (n : ℕ). with_lines n next more) place
with_lines-append from start next (text ∷ front) more h = by (with_line from start text) h (λ mid. with_lines-append (from + 1) mid next front more)
  where
    by : (r : Result FileList Refusal) → on_ok r (λ mid. with_lines (from + 1) mid front) ≡ Ok next
        → ((mid : FileList) → with_lines (from + 1) mid front ≡ Ok next → with_lines (from + 1) mid (front ++ more) ≡ with_lines (from + 1 + length front) next more)
        → on_ok r (λ mid. with_lines (from + 1) mid (front ++ more)) ≡ with_lines (from + length (text ∷ front)) next more
    by (Err e) h rest = absurd cc
    by (Ok mid) h rest = let place : from + 1 + length front ≡ from + length (text ∷ front) = omega arith in rest mid h ∙ ap (λ (n : ℕ). with_lines n next more) place

-- one line more
pub has_read_more : (files new : FileList) (line : ℕ) (text : List ℕ) (all texts rest : List (List ℕ)) → texts ≡ text ∷ rest → line ≡ length files + 1 → with_line line files text ≡ Ok new → length new ≡ length files + 1
    → HasRead all texts files → HasRead all rest new
has_read_more files new line text all texts rest split place gives more read =
    let same : 1 + length read.front ≡ line = omega (arith, read.count, place) in
    record {
      front = read.front ++ text ∷ [];
      all = read.all ∙ ap (λ (ts : List (List ℕ)). read.front ++ ts) split ∙ sym (append_assoc read.front (text ∷ []) rest);
      goes_on = with_lines-append 1 [] files read.front (text ∷ []) read.goes_on ∙ ap (λ (n : ℕ). with_lines n files (text ∷ [])) same ∙ rw gives refl;
      count = omega (arith, more, read.count, length-append read.front (text ∷ []));
    }

-- what is left of the text, behind a line that is right
pub lines_go_on : (files new : FileList) (line : ℕ) (text : List ℕ) (texts rest : List (List ℕ)) (whole : Result FileList Refusal) → texts ≡ text ∷ rest → line ≡ length files + 1 → with_line line files text ≡ Ok new
    → length new ≡ length files + 1 → with_lines (length files + 1) files texts ≡ whole → with_lines (length new + 1) new rest ≡ whole
lines_go_on files new line text texts rest whole split place gives more same =
    let here : with_line (length files + 1) files text ≡ Ok new = ap (λ (n : ℕ). with_line n files text) (sym place) ∙ gives in
    let next : length new + 1 ≡ length files + 1 + 1 = omega (arith, more) in
    ap (λ (n : ℕ). with_lines n new rest) next
    ∙ sym (ap (λ (r : Result FileList Refusal). on_ok r (λ fs. with_lines (length files + 1 + 1) fs rest)) here)
    ∙ ap (λ (ts : List (List ℕ)). with_lines (length files + 1) files ts) (sym split) ∙ same
