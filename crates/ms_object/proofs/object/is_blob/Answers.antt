use Rattle.std.proofs.Common.{◌≡◌, ◌≤◌, Some, length, sym, ◌∙◌, arith}
use Rattle.std.proofs.lemmas.Bool.{false≢true}
use Rattle.ms_object.specs.declared.format.Format.TheVariants as formats
use Rattle.ms_object.specs.declared.object.Object.{Object}
use Rattle.ms_object.specs.Reading.{object_at, most_text}
use Rattle.ms_object.proofs.ObjectLaws.{found_names_nothing}
use Rattle.ms_object.proofs.BlobLaws.{no_blob_shown, neither_blob}
use Rattle.ms_object.proofs.object.is_blob.Goals as goal

pub returns-then-first-clause-yes : goal.returns-then-first-clause-yes
returns-then-first-clause-yes c =
    let text = c.args.text.now in
    let short : (p : Object) → object_at text ≡ Some p → length text ≤ most_text = λ p e. c.one_spelling.ensures.short text p (c.one_spelling.ensures.read text p (λ i. omega (arith, c.type_inv.text i)) e) in
    found_names_nothing formats.One text (object_at text) _ c.blob_in.result c.is_some-first.result short c.blob_in.ensures c.is_some-first.ensures

pub returns-else-first-clause-yes : goal.returns-else-first-clause-yes
returns-else-first-clause-yes c =
    let text = c.args.text.now in
    let short : (p : Object) → object_at text ≡ Some p → length text ≤ most_text = λ p e. c.one_spelling.ensures.short text p (c.one_spelling.ensures.read text p (λ i. omega (arith, c.type_inv.text i)) e) in
    found_names_nothing formats.Two text (object_at text) _ c.blob_in-2.result c.is_some-second.result short c.blob_in-2.ensures c.is_some-second.ensures

pub returns-then-first-clause-no : goal.returns-then-first-clause-no
returns-then-first-clause-no c =
    neither_blob (object_at c.args.text.now) c.is_some-first.result
    (λ e. no_blob_shown formats.One (object_at c.args.text.now) _ c.blob_in.result c.is_some-first.result c.blob_in.ensures c.is_some-first.ensures e)
    (λ e. absurd (false≢true (sym e ∙ c.if-first.true)))

pub returns-else-first-clause-no : goal.returns-else-first-clause-no
returns-else-first-clause-no c =
    neither_blob (object_at c.args.text.now) c.is_some-second.result
    (λ e. no_blob_shown formats.One (object_at c.args.text.now) _ c.blob_in.result c.is_some-first.result c.blob_in.ensures c.is_some-first.ensures c.if-first.false)
    (λ e. no_blob_shown formats.Two (object_at c.args.text.now) _ c.blob_in-2.result c.is_some-second.result c.blob_in-2.ensures c.is_some-second.ensures e)
