use Rattle.std.proofs.Common.{Option, IfOk, subst, ◌≡◌, ◌≤◌, false, List, count_by, slice_index_or, sym, ap, ◌∙◌, arith}
use Rattle.ms_world.proofs.ReachLaws.{reached}
use Rattle.ms_record.specs.declared.plan.PlanRow.{PlanRow}
use Rattle.ms_object.specs.declared.format.Format.{Format}
use Rattle.ms_object.specs.Objects.{numbered}
use Rattle.ms_world.specs.Reaching.{MeetsText}
use Rattle.ms_world.proofs.placing.reach.Goals as goal

pub returns-clause-reaches : goal.returns-clause-reaches
returns-clause-reaches c =
    let found = c.in-Some.found.now in
    let copies_are : c.copies.result ≡ count_by (λ (row : PlanRow). slice_index_or found.services row.service.0 false) c.args.plan.now.rows =
    c.copies.ensures ∙ ap (λ (rows : List PlanRow). count_by (λ (row : PlanRow). slice_index_or found.services row.service.0 false) rows) c.rows-rows.ensures.rows in
    let enough : c.args.plan.now.replicas ≤ count_by (λ (row : PlanRow). slice_index_or found.services row.service.0 false) c.args.plan.now.rows = omega (arith, copies_are, c.replicas.ensures) in
    reached c.args.puts.now.entries c.args.plan.now c.args.want c.args.met.now c.meet_text.new.met found c.meet_text.result (sym c.in-Some.ensures.value) enough
    (subst (λ (format : Option Format). IfOk c.meet_text.result (MeetsText format c.args.want.wanted found.text.now c.args.met.now c.meet_text.new.met))
    (c.numbered-format.ensures ∙ ap numbered c.format.ensures) c.meet_text.ensures)
