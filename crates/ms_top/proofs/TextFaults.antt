-- A fault of a text is a wrong line, or a limit.
use Rattle.std.proofs.Common.{◌≡◌, ℕ, ◌+◌, List, [], ◌∷◌, Option, Some, None, Result, Ok, Err, ◌⊎◌, inl, inr, sym, ap, Bool, true, false, cond, is_some, nat_lt, length}
use Rattle.ms_base.specs.declared.names.Quantity.{Quantity}
use Rattle.ms_base.specs.declared.names.Quantity.TheVariants as quantities
use Rattle.ms_world.specs.declared.event.Event.{Event}
use Rattle.ms_drill.specs.declared.drill.Drill.{Drill as Schedule}
use Rattle.ms_drill.specs.declared.head.Head.{Head}
use Rattle.ms_drill.specs.Drills.{drill_at, drill_of, with_head, with_events, events_at, setting_of, most_events}
use Rattle.ms_drill.specs.Lines.{head_at}
use Rattle.ms_record.specs.declared.setting.Setting.{Setting}
use Rattle.ms_record.specs.declared.refusal.Place.TheVariants as places
use Rattle.ms_record.specs.declared.refusal.Refusal.{Refusal}
use Rattle.ms_record.specs.declared.refusal.Refusal.TheVariants as refusals
use Rattle.ms_replay.specs.Dumps.{dump_at}
use Rattle.ms_replay.specs.declared.dump.Dump.{Dump}
use Rattle.ms_text.specs.Lines.{lines_of}
use Rattle.ms_tree.specs.declared.limits.FilesError.{FilesError}
use Rattle.ms_tree.specs.declared.limits.FilesError.TheVariants as errors
use Rattle.ms_tree.specs.Files.{FileList, text_at, added}
use Rattle.ms_tree.specs.Limits.{on_ok}
use Rattle.ms_tree.specs.Listings.{row_at, or_wrong, row_added, with_row, with_line, with_lines, listing_at}
use Rattle.ms_top.specs.Audits.{of_input, spelled_dump}

abbrev pub IsTextFault : Refusal → Type 0
IsTextFault fault = ((line : ℕ) × (fault ≡ refusals.BadInput places.Input line)) ⊎ ((what : Quantity) × (value : ℕ) × (fault ≡ refusals.Limit what value))

same_fault : (a b : Refusal) → Err a ≡ (let r : Result FileList Refusal = Err b in r) → a ≡ b
same_fault a b e = cc

wrong_is : (line : ℕ) (fault : Refusal) → Err (refusals.BadInput places.Input line) ≡ (let r : Result FileList Refusal = Err fault in r) → IsTextFault fault
wrong_is line fault e = inl (line, sym (same_fault (refusals.BadInput places.Input line) fault e))

added_is : (line : ℕ) (given : Result FileList FilesError) (fault : Refusal) → or_wrong line given ≡ Err fault → IsTextFault fault
added_is line (Ok files) fault e = absurd (let q : Ok files ≡ (let r : Result FileList Refusal = Err fault in r) = e in cc)
added_is line (Err errors.BadPath) fault e = wrong_is line fault e
added_is line (Err (errors.Limit what value)) fault e = inr (what, value, sym (same_fault (refusals.Limit what value) fault e))
added_is line (Err errors.Clash) fault e = wrong_is line fault e
added_is line (Err errors.NoMemory) fault e = wrong_is line fault e

row_is : (line : ℕ) (files : FileList) (path text : List ℕ) (fault : Refusal) → row_added line files path text ≡ Err fault → IsTextFault fault
row_is line files path text fault e = by (is_some (text_at files path)) e
  where
    by : (there : Bool) → cond there (Err (refusals.BadInput places.Input line)) (or_wrong line (added files path text)) ≡ Err fault → IsTextFault fault
    by true e = wrong_is line fault e
    by false e = added_is line (added files path text) fault e

line_is : (line : ℕ) (files : FileList) (row : Option (List ℕ × List ℕ)) (fault : Refusal) → with_row line files row ≡ Err fault → IsTextFault fault
line_is line files None fault e = wrong_is line fault e
line_is line files (Some row) fault e = row_is line files row.0 row.1 fault e

lines_are : (line : ℕ) (files : FileList) (texts : List (List ℕ)) (fault : Refusal) → with_lines line files texts ≡ Err fault → IsTextFault fault
lines_are line files [] fault e = absurd (let q : Ok files ≡ (let r : Result FileList Refusal = Err fault in r) = e in cc)
lines_are line files (text ∷ texts) fault e = by (with_line line files text) (λ f is. line_is line files (row_at text) f is) (λ next is. lines_are (line + 1) next texts fault is) e
  where
    by : (given : Result FileList Refusal) → ((f : Refusal) → given ≡ Err f → IsTextFault f) → ((next : FileList) → with_lines (line + 1) next texts ≡ Err fault → IsTextFault fault)
        → on_ok given (λ next. with_lines (line + 1) next texts) ≡ Err fault → IsTextFault fault
    by (Ok next) here on e = on next e
    by (Err f) here on e = here fault (ap (λ (g : Refusal). let r : Result FileList Refusal = Err g in r) (same_fault f fault e))

pub listing_is : (text : List ℕ) (fault : Refusal) → listing_at text ≡ Err fault → IsTextFault fault
listing_is text fault e = lines_are 1 [] (lines_of text) fault e

-- a fault of a dump
pub dump_is : (text : List ℕ) (fault : Refusal) → spelled_dump text ≡ Err fault → IsTextFault fault
dump_is text fault e = by (dump_at text) e
  where
    by : (read : Result Dump ℕ) → of_input read ≡ Err fault → IsTextFault fault
    by (Ok dump) e = absurd (let q : Ok dump ≡ (let r : Result Dump Refusal = Err fault in r) = e in cc)
    by (Err line) e = inl (line, (let q : refusals.BadInput places.Input line ≡ fault = cc in sym q))

-- a fault of a schedule
pub drill_is : (text : List ℕ) (fault : Refusal) → drill_at text ≡ Err fault → IsTextFault fault
drill_is text fault e = by (lines_of text) e
  where
    wrong : (line : ℕ) → Err (refusals.BadInput places.Input line) ≡ (let r : Result Schedule Refusal = Err fault in r) → IsTextFault fault
    wrong line e = inl (line, (let q : refusals.BadInput places.Input line ≡ fault = cc in sym q))

    some : (setting : Setting) (given : Result (List Event) ℕ) → with_events setting given ≡ Err fault → IsTextFault fault
    some setting (Err line) e = wrong line e
    some setting (Ok events) e = absurd (let q : Ok (let d : Schedule = record { setting = setting; events = events } in d) ≡ (let r : Result Schedule Refusal = Err fault in r) = e in cc)

    few : (first : List ℕ) (lines : List (List ℕ)) (head : Head) (b : Bool) → cond b (Err (refusals.Limit quantities.Events (length lines))) (with_events (setting_of first head) (events_at lines)) ≡ (let r : Result Schedule Refusal = Err fault in r) → IsTextFault fault
    few first lines head true e = inr (quantities.Events, length lines, (let q : refusals.Limit quantities.Events (length lines) ≡ fault = cc in sym q))
    few first lines head false e = some (setting_of first head) (events_at lines) e

    headed : (first : List ℕ) (lines : List (List ℕ)) (o : Option Head) → with_head first lines o ≡ Err fault → IsTextFault fault
    headed first lines None e = wrong 1 e
    headed first lines (Some head) e = few first lines head (nat_lt most_events (length lines)) e

    by : (lines : List (List ℕ)) → drill_of lines ≡ Err fault → IsTextFault fault
    by [] e = wrong 1 e
    by (first ∷ lines) e = headed first lines (head_at first) e
