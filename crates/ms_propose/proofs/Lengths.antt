-- The text of a record is short.
use Rattle.std.proofs.Common.{◌≡◌, ◌*◌, ◌≤◌, List, [], ◌∷◌, ◌++◌, Option, Some, None, refl, ◌∙◌, length, length-append, arith}
use Rattle.std.specs.Prelude.{IfSome}
use Rattle.std.specs.Int.{w32, to_be_bytes}
use Rattle.std.specs.List.{sum_by}
use Rattle.std.proofs.lemmas.List.Concat.{length-flat_map}
use Rattle.std.proofs.lemmas.List.Sums.{sum_by-cons}
use Rattle.ms_base.specs.declared.limits.TheConstants.{OBJECT_BYTES}
use Rattle.ms_record.specs.declared.entry.Entry.{Entry}
use Rattle.ms_record.specs.declared.plan.PlanRow.{PlanRow}
use Rattle.ms_record.specs.declared.record.Record.{Record}
use Rattle.ms_record.specs.declared.record.Record.TheVariants.{Prepare, Accept}
use Rattle.ms_record.specs.Entries.{IsEntry, entry_text, plan_part, tag_of}
use Rattle.ms_record.specs.Plans.{IsPlan, PlanView, plan_text, row_text}
use Rattle.ms_record.specs.Records.{IsRecord, head_text, record_text}

row_long : (row : PlanRow) → length (row_text row) ≡ 12
row_long row = refl

rows_long : (rows : List PlanRow) → sum_by (λ row. length (row_text row)) rows ≡ 12 * length rows
rows_long [] = refl
rows_long (row ∷ rows) = sum_by-cons (λ r. length (row_text r)) row rows ∙ omega (arith, rows_long rows, row_long row)

plan_long : (plan : PlanView) → IsPlan plan → length (plan_text plan) ≤ 220
plan_long plan h = omega (arith, h.few_rows, length-flat_map row_text plan.rows, rows_long plan.rows)

part_long : (plan : Option PlanView) → IfSome plan IsPlan → length (plan_part plan) ≤ 220
part_long None h = omega arith
part_long (Some plan) h = plan_long plan h

entry_long : (e : Entry) → IsEntry e → length (entry_text e) ≤ 300
entry_long e h =
    let tag = tag_of e.plan ∷ [] in
    let client = to_be_bytes w32 e.client.0 in
    let number = to_be_bytes w32 e.number in
    omega (
      arith,
      h.before,
      h.version,
      part_long e.plan h.plan,
      length-append tag e.before.0,
      length-append (tag ++ e.before.0) client,
      length-append (tag ++ e.before.0 ++ client) number,
      length-append (tag ++ e.before.0 ++ client ++ number) e.version.0,
      length-append (tag ++ e.before.0 ++ client ++ number ++ e.version.0) (plan_part e.plan),
    )

pub record_short : (m : Record) → IsRecord m → length (record_text m) ≤ OBJECT_BYTES
record_short (Prepare k b) h = omega arith
record_short (Accept k b e) h = omega (arith, length-append (head_text 65 k b) (entry_text e), entry_long e h.2)
