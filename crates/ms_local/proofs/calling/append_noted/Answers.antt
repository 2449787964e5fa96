use Rattle.std.proofs.Common.{◌≡◌, ℕ, List, sym, ◌∙◌, subst}
use Rattle.ms_local.specs.Calls.{IsSupportedAt, message_text}
use Rattle.ms_local.specs.Desks.{desk_view}
use Rattle.ms_record.specs.declared.log.LogEvent.TheVariants.{Rec}
use Rattle.ms_local.proofs.calling.append_noted.Goals as goal

pub append_text-requires-clause-supported : goal.append_text-requires-clause-supported
append_text-requires-clause-supported g c =
    let text : c.as_slice.result.now ≡ message_text c.args.message = c.as_slice.ensures ∙ c.in_ok-text.ensures in
    subst (λ (t : List ℕ). IsSupportedAt (desk_view g.W.Work.sees g.K.Keeper.sees g.L.Link.sees c.args.desk.now) (Rec c.args.list t)) (sym text) c.requires.supported
