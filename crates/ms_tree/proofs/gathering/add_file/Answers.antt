use Rattle.std.proofs.Common.{ℕ, List, length, Ok, Err, Result, refl, sym, ap, ◌∙◌}
use Rattle.std.specs.Result.{IsOk, MatchResult}
use Rattle.ms_tree.specs.Files.{added}
use Rattle.ms_tree.proofs.Named.{fits_all}
use Rattle.ms_tree.proofs.Adding.{file_added, file_refused, added_apart, path_is_utf8}
use Rattle.ms_tree.proofs.gathering.add_file.Goals as goal

is_read : {T E : Type 0} (P : T → Type 0) (Q : E → Type 0) → (r : Result T E) → MatchResult r P Q → ((e : E) → Q e → ⊥) → IsOk r
is_read P Q (Ok s) h never = refl
is_read P Q (Err e) h never = absurd (never e h)

pub unwrap-path-requires : goal.unwrap-path-requires
unwrap-path-requires c = is_read _ _ c.from_utf8.result c.from_utf8.ensures.cases (λ e h. h.0 (path_is_utf8 c.args.path.now c.requires.path))

pub returns-in-Ok-clause-ok : goal.returns-in-Ok-clause-ok
returns-in-Ok-clause-ok c =
    let shown = rw c.unwrap-path.ensures at c.from_utf8.ensures.cases in
    file_added c.args.files.now c.add.new.self c.args.path.now c.unwrap-path.result.now c.in_ok-text.text _ c.requires.path shown.0 (fits_all c.args.format (length c.in_ok-text.text) c.in_ok-text.ensures.short) c.requires.free c.in_ok-text.ensures.exact c.in-Ok.ensures

pub returns-in-Err-Limit-clause-err : goal.returns-in-Err-Limit-clause-err
returns-in-Err-Limit-clause-err c =
    let shown = rw c.unwrap-path.ensures at c.from_utf8.ensures.cases in
    let h = rw c.in-Err-Limit.field-0-is at c.in-Err-Limit.ensures in
    file_refused c.args.files.now c.args.path.now c.unwrap-path.result.now c.in_ok-text.text _ c.in-Err-Limit.what c.in-Err-Limit.value c.requires.path shown.0 (fits_all c.args.format (length c.in_ok-text.text) c.in_ok-text.ensures.short) c.requires.free c.in_ok-text.ensures.exact h.0

pub unreachable-requires-in-Err-Clash : goal.unreachable-requires-in-Err-Clash
unreachable-requires-in-Err-Clash c =
    let shown = rw c.unwrap-path.ensures at c.from_utf8.ensures.cases in
    let h = rw c.in-Err-Clash.field-0-is at c.in-Err-Clash.ensures in
    added_apart c.args.files.now c.args.path.now c.in_ok-text.text c.requires.path (fits_all c.args.format (length c.in_ok-text.text) c.in_ok-text.ensures.short) c.requires.free (ap (λ (p : List ℕ). added c.args.files.now p c.in_ok-text.text) (sym shown.0) ∙ h.0)
