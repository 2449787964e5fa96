use Rattle.std.proofs.Common.{◌++◌, ◌∷◌, [], sym, subst}
use Rattle.std.proofs.lemmas.Result.{on_ok_weaker}
use Rattle.ms_fetch.specs.declared.ask.Lack.{Lack}
use Rattle.ms_fetch.specs.Fetching.{IsAsked}
use Rattle.ms_fetch.specs.Lacks.{IsGreatestFloor, Lacking}
use Rattle.ms_fetch.proofs.Noting.{noted_reason, noted_stale}
use Rattle.ms_fetch.proofs.asked.Asked.note.Goals as goal

pub returns-in-Unread : goal.returns-in-Unread
returns-in-Unread c =
    on_ok_weaker c.push.result
    (λ is. λ lacks h.
    subst (λ (l : Lack). IsAsked (lacks ++ (let x : Lacking = record { service = c.args.service; lack = l } in x) ∷ []) c.args.self.now.floor c.push.new.self) (sym c.in-Unread.is)
    (noted_reason c.args.self.now.floor c.args.self.now.reasons c.push.new.self c.args.service c.in-Unread.reason is lacks h))
    c.push.ensures.ok

pub returns-in-Stale : goal.returns-in-Stale
returns-in-Stale c = λ lacks h.
    subst (λ (l : Lack). IsGreatestFloor (lacks ++ (let x : Lacking = record { service = c.args.service; lack = l } in x) ∷ []) c.greater.result) (sym c.in-Stale.is)
    (subst (IsGreatestFloor _) (sym c.greater.ensures) (noted_stale lacks c.args.self.now.reasons c.args.service c.in-Stale.floor c.args.self.now.floor h))
