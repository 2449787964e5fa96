use Rattle.std.proofs.Common.{Bool, true, [], ◌∷◌, ◌++◌, Ok, ap, subst}
use Rattle.ms_local.specs.declared.deed.Deed.TheVariants.{Appended}
use Rattle.ms_local.specs.declared.deed.Message.TheVariants.{Vote}
use Rattle.ms_local.specs.Calls.{AppendsNoted}
use Rattle.ms_local.specs.Desks.{DeskView, desk_view}
use Rattle.ms_propose.specs.Acts.{vote_list}
use Rattle.ms_record.specs.declared.item.Item.TheVariants.{Told}
use Rattle.ms_propose.proofs.Acting.{sent_ok}
use Rattle.ms_propose.proofs.Lengths.{record_short}
use Rattle.ms_propose.proofs.acts.send.Goals as goal

pub append_noted-sent-requires-clause-short : goal.append_noted-sent-requires-clause-short
append_noted-sent-requires-clause-short g c = record_short c.args.message c.requires.may.1

pub append_noted-sent-requires-clause-supported : goal.append_noted-sent-requires-clause-supported
append_noted-sent-requires-clause-supported g c = λ setting told votes. c.requires.may.2 setting told

pub returns-in-Ok-true-clause-acts : goal.returns-in-Ok-true-clause-acts
returns-in-Ok-true-clause-acts g c =
    let old = desk_view g.W.Work.sees g.K.Keeper.sees g.L.Link.sees c.args.desk.now in
    let called = desk_view g.W.Work.sees g.K.Keeper.sees g.L.Link.sees c.append_noted-sent.new.desk in
    let both = subst (λ (b : Bool). AppendsNoted old called c.args.service vote_list (Vote c.args.message) (Ok b)) c.in-Ok-true.field-0-test c.in-Ok-true.ensures.appends in
    let calls = both.1 in
    sent_ok old called c.args.service.0 (old.deeds ++ Appended c.args.service vote_list (Vote c.args.message) true ∷ []) called.deeds calls
    (λ setting known. c.configuration_stays.ensures.stays old.pass.lists called.pass.lists (Told setting) c.recall.ensures.closed calls.pass.more known)
    c.args.aim c.args.service c.args.message c.args.kept.now (ap (λ (d : DeskView). d.deeds) calls.same) both.0
