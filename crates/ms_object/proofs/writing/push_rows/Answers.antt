use Rattle.std.proofs.Common.{◌≡◌, List, ◌++◌, length, ap, ◌∙◌, subst}
use Rattle.std.specs.Prelude.{All}
use Rattle.std.proofs.lemmas.List.{take_all}
use Rattle.std.proofs.lemmas.List.Elements.{All-more, All-map}
use Rattle.ms_base.specs.declared.names.Name.{Name}
use Rattle.ms_object.specs.declared.object.Row.{Row}
use Rattle.ms_object.specs.Objects.{row_text}
use Rattle.ms_object.proofs.Pushed.{next_pushed}
use Rattle.ms_object.proofs.writing.push_rows.Goals as goal

pub loop-row-preserved : goal.loop-row-preserved
loop-row-preserved c =
    let is_row = λ (row : Row). length row.name.0 ≡ 32 in
    record {
      text = next_pushed row_text c.args.rows.now c.loop-row.row-index c.row-item.result c.args.out.now.items c.loop-row.out.items c.push_row.new.out.items c.loop-row-test.true c.loop-row.invariant.text (c.in_ok-push_row.ensures.ok ∙ ap (λ (row : Row). c.loop-row.out.items ++ row_text row) c.row-item.is);
      names = All-more is_row c.args.rows.now c.loop-row.row-index c.row-item.result c.loop-row-test.true c.loop-row.invariant.names (subst is_row c.row-item.is c.in_ok-push_row.ensures.name);
    }

pub returns-clause-names : goal.returns-clause-names
returns-clause-names c =
    let is_row = λ (row : Row). length row.name.0 ≡ 32 in
    All-map (λ (name : Name). length name.0 ≡ 32) (λ (row : Row). row.name) c.args.rows.now
    (subst (λ (rows : List Row). All is_row rows) (take_all c.loop-row.row-index c.args.rows.now c.loop-row-test.false) c.loop-row.invariant.names)
