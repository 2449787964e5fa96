use Rattle.std.proofs.Common.{[], ◌∷◌, ◌++◌, ap, ◌∙◌}
use Rattle.ms_local.specs.declared.deed.Deed.{Deed}
use Rattle.ms_local.specs.Desks.{DeskView, desk_view}
use Rattle.ms_record.specs.declared.item.Item.TheVariants.{Told}
use Rattle.ms_propose.specs.Acts.{with_round}
use Rattle.ms_propose.proofs.Acting.{look_ok}
use Rattle.ms_propose.proofs.acts.look.Goals as goal

pub returns-in-Ok-clause-acts : goal.returns-in-Ok-clause-acts
returns-in-Ok-clause-acts g c =
    let old = desk_view g.W.Work.sees g.K.Keeper.sees g.L.Link.sees c.args.desk.now in
    let called = desk_view g.W.Work.sees g.K.Keeper.sees g.L.Link.sees c.list_texts-answer.new.desk in
    let calls = c.list_texts-answer.ensures.effect in
    look_ok old called c.args.service.0 c.push.new.self c.set_last.new.self calls
    (λ setting known. c.configuration_stays.ensures.stays old.pass.lists called.pass.lists (Told setting) c.recall.ensures.closed calls.pass.more known)
    c.args.aim c.args.service c.as_slice.result.now c.sight-seen.result c.args.kept.now (with_round c.args.kept.now c.raised-kept.result)
    (c.set_last.ensures old.deeds c.looked.result (ap (λ (d : DeskView). d.deeds) calls.same ∙ c.in_ok-push.ensures.ok) ∙ ap (λ (d : Deed). old.deeds ++ d ∷ []) c.looked-in-Ok.ensures)
    (λ setting known. c.as_slice.ensures ∙ c.in-Ok.ensures.lists setting known) c.sight-seen.ensures.is c.sight-seen.ensures.ranges (ap (with_round c.args.kept.now) c.raised-kept.ensures)
