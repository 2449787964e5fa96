use Rattle.std.proofs.Common.{◌≡◌, List, ◌++◌, ◌<◌, ◌^◌, length, ap, ◌∙◌, subst}
use Rattle.std.specs.Prelude.{All}
use Rattle.std.proofs.lemmas.List.{take_all}
use Rattle.std.proofs.lemmas.List.Elements.{All-more, All-map}
use Rattle.ms_base.specs.declared.names.Name.{Name}
use Rattle.ms_object.specs.declared.object.SizedRow.{SizedRow}
use Rattle.ms_object.specs.Objects.{sized_row_text}
use Rattle.ms_object.proofs.Pushed.{next_pushed}
use Rattle.ms_object.proofs.writing.push_sized_rows.Goals as goal

pub loop-row-preserved : goal.loop-row-preserved
loop-row-preserved c =
    let is_row = λ (row : SizedRow). length row.name.0 ≡ 32 in
    let is_sized = λ (row : SizedRow). row.size < 2 ^ 64 in
    record {
      text = next_pushed sized_row_text c.args.rows.now c.loop-row.row-index c.row-item.result c.args.out.now.items c.loop-row.out.items c.push_sized_row.new.out.items c.loop-row-test.true c.loop-row.invariant.text (c.in_ok-push_sized_row.ensures.ok ∙ ap (λ (row : SizedRow). c.loop-row.out.items ++ sized_row_text row) c.row-item.is);
      names = All-more is_row c.args.rows.now c.loop-row.row-index c.row-item.result c.loop-row-test.true c.loop-row.invariant.names (subst is_row c.row-item.is c.in_ok-push_sized_row.ensures.fits.0);
      sizes = All-more is_sized c.args.rows.now c.loop-row.row-index c.row-item.result c.loop-row-test.true c.loop-row.invariant.sizes (subst is_sized c.row-item.is c.in_ok-push_sized_row.ensures.fits.1);
    }

pub returns-clause-fits : goal.returns-clause-fits
returns-clause-fits c =
    let is_row = λ (row : SizedRow). length row.name.0 ≡ 32 in
    let is_sized = λ (row : SizedRow). row.size < 2 ^ 64 in
    let all = take_all c.loop-row.row-index c.args.rows.now c.loop-row-test.false in (
      All-map (λ (name : Name). length name.0 ≡ 32) (λ (row : SizedRow). row.name) c.args.rows.now
          (subst (λ (rows : List SizedRow). All is_row rows) all c.loop-row.invariant.names),
      subst (λ (rows : List SizedRow). All is_sized rows) all c.loop-row.invariant.sizes,
    )
