use Rattle.std.proofs.Common.{◌+◌, ℕ, Option, Result, Ok, Err, inr, refl, sym, ap, ◌∙◌, subst, arith}
use Rattle.ms_record.specs.declared.refusal.Refusal.{Refusal}
use Rattle.ms_local.specs.Desks.{desk_view}
use Rattle.ms_local.specs.Learning.{ChainView, IsOfDesk}
use Rattle.ms_propose.specs.declared.proposal.Decided.{Decided}
use Rattle.ms_propose.specs.Catching.{Catches}
use Rattle.ms_propose.specs.Leaving.{Bids}
use Rattle.ms_propose.specs.Proposing.{Says, slack_after, slack_at}
use Rattle.ms_propose.proofs.Settling.{added, added_of_desk, catches_looser, of_desk_on, said_none, said_some, settled_leaves, unsettled}
use Rattle.ms_propose.proofs.catching.settle.Goals as goal

pub propose-requires-clause-voters : goal.propose-requires-clause-voters
propose-requires-clause-voters g c = λ s v. omega (arith, c.voters-voters.ensures.below s v, c.requires.chain.services, c.requires.setting.services)

pub returns-in-Ok-clause-settles : goal.returns-in-Ok-clause-settles
returns-in-Ok-clause-settles g c =
    let old = desk_view g.W.Work.sees g.K.Keeper.sees g.L.Link.sees c.args.desk.now in
    let new = desk_view g.W.Work.sees g.K.Keeper.sees g.L.Link.sees c.propose.new.desk in
    let chain = g.R.Learner.sees c.args.chain.now in
    let says = subst (Says old new c.voters-voters.result (c.end-position.result + 1)) (c.in-Ok-Some.is ∙ ap Ok c.in-Ok-Some.field-0-is) c.propose.ensures.says in
    added c.next_behind.ensures.chosen old new c.args.kept.now c.propose.new.kept.round chain (g.R.Learner.sees c.add.new.self) c.in-Ok-Some.decided.entry c.in-Ok.gained
    c.propose.ensures.leaves.effect c.recall.ensures.closed (of_desk_on chain old new c.requires.desk c.propose.ensures.leaves.effect c.requires.chain)
    (said_some old new chain c.voters-voters.result (c.end-position.result + 1) c.voters-voters.ensures.are (ap (λ (k : ℕ). k + 1) c.end-position.ensures) c.in-Ok-Some.decided.entry c.requires.desk c.propose.ensures.leaves.effect says)
    c.in-Ok.ensures

pub returns-in-Ok-clause-leaves : goal.returns-in-Ok-clause-leaves
returns-in-Ok-clause-leaves g c =
    let old = desk_view g.W.Work.sees g.K.Keeper.sees g.L.Link.sees c.args.desk.now in
    let new = desk_view g.W.Work.sees g.K.Keeper.sees g.L.Link.sees c.propose.new.desk in
    let is = c.in-Ok-Some.is ∙ ap Ok c.in-Ok-Some.field-0-is in
    settled_leaves 0 old new c.args.kept.now c.propose.new.kept c.voters-voters.result (c.end-position.result + 1) c.propose.result
    (subst (λ (r : Result (Option Decided) Refusal). Bids (slack_at r) old new c.args.kept.now c.propose.new.kept) is c.propose.ensures.leaves) c.propose.ensures.deeds

pub returns-in-Ok-clause-chain : goal.returns-in-Ok-clause-chain
returns-in-Ok-clause-chain g c =
    let old = desk_view g.W.Work.sees g.K.Keeper.sees g.L.Link.sees c.args.desk.now in
    let new = desk_view g.W.Work.sees g.K.Keeper.sees g.L.Link.sees c.propose.new.desk in
    let chain = g.R.Learner.sees c.args.chain.now in
    let says = subst (Says old new c.voters-voters.result (c.end-position.result + 1)) (c.in-Ok-Some.is ∙ ap Ok c.in-Ok-Some.field-0-is) c.propose.ensures.says in
    added_of_desk c.one_chain.ensures.goes_on chain (g.R.Learner.sees c.add.new.self) new c.in-Ok-Some.decided.entry c.in-Ok.gained
    (of_desk_on chain old new c.requires.desk c.propose.ensures.leaves.effect c.requires.chain)
    (said_some old new chain c.voters-voters.result (c.end-position.result + 1) c.voters-voters.ensures.are (ap (λ (k : ℕ). k + 1) c.end-position.ensures) c.in-Ok-Some.decided.entry c.requires.desk c.propose.ensures.leaves.effect says)
    c.in-Ok.ensures

pub returns-in-Err-add-clause-leaves : goal.returns-in-Err-add-clause-leaves
returns-in-Err-add-clause-leaves g c =
    let old = desk_view g.W.Work.sees g.K.Keeper.sees g.L.Link.sees c.args.desk.now in
    let new = desk_view g.W.Work.sees g.K.Keeper.sees g.L.Link.sees c.propose.new.desk in
    let is = c.in-Ok-Some.is ∙ ap Ok c.in-Ok-Some.field-0-is in
    subst (λ (e : Refusal). Catches (slack_after e) old new c.args.kept.now c.propose.new.kept) (sym c.into.ensures)
    (catches_looser old new c.args.kept.now c.propose.new.kept
    (settled_leaves 0 old new c.args.kept.now c.propose.new.kept c.voters-voters.result (c.end-position.result + 1) c.propose.result
    (subst (λ (r : Result (Option Decided) Refusal). Bids (slack_at r) old new c.args.kept.now c.propose.new.kept) is c.propose.ensures.leaves) c.propose.ensures.deeds))

pub returns-in-Err-add-clause-chain : goal.returns-in-Err-add-clause-chain
returns-in-Err-add-clause-chain g c =
    let old = desk_view g.W.Work.sees g.K.Keeper.sees g.L.Link.sees c.args.desk.now in
    let new = desk_view g.W.Work.sees g.K.Keeper.sees g.L.Link.sees c.propose.new.desk in
    let chain = g.R.Learner.sees c.args.chain.now in
    subst (λ (x : ChainView). IsOfDesk x new) (sym c.in-Err-add.ensures) (of_desk_on chain old new c.requires.desk c.propose.ensures.leaves.effect c.requires.chain)

pub returns-in-Ok-None-clause-settles : goal.returns-in-Ok-None-clause-settles
returns-in-Ok-None-clause-settles g c =
    let old = desk_view g.W.Work.sees g.K.Keeper.sees g.L.Link.sees c.args.desk.now in
    let new = desk_view g.W.Work.sees g.K.Keeper.sees g.L.Link.sees c.propose.new.desk in
    let chain = g.R.Learner.sees c.args.chain.now in
    let says = subst (Says old new c.voters-voters.result (c.end-position.result + 1)) (c.in-Ok-None.is ∙ ap Ok c.in-Ok-None.field-0-is) c.propose.ensures.says in
    (refl, said_none old new chain c.voters-voters.result (c.end-position.result + 1) c.voters-voters.ensures.are (ap (λ (k : ℕ). k + 1) c.end-position.ensures) says)

pub returns-in-Ok-None-clause-leaves : goal.returns-in-Ok-None-clause-leaves
returns-in-Ok-None-clause-leaves g c =
    let old = desk_view g.W.Work.sees g.K.Keeper.sees g.L.Link.sees c.args.desk.now in
    let new = desk_view g.W.Work.sees g.K.Keeper.sees g.L.Link.sees c.propose.new.desk in
    let is = c.in-Ok-None.is ∙ ap Ok c.in-Ok-None.field-0-is in
    settled_leaves 0 old new c.args.kept.now c.propose.new.kept c.voters-voters.result (c.end-position.result + 1) c.propose.result
    (subst (λ (r : Result (Option Decided) Refusal). Bids (slack_at r) old new c.args.kept.now c.propose.new.kept) is c.propose.ensures.leaves) c.propose.ensures.deeds

pub returns-in-Ok-None-clause-chain : goal.returns-in-Ok-None-clause-chain
returns-in-Ok-None-clause-chain g c =
    of_desk_on (g.R.Learner.sees c.args.chain.now) (desk_view g.W.Work.sees g.K.Keeper.sees g.L.Link.sees c.args.desk.now) (desk_view g.W.Work.sees g.K.Keeper.sees g.L.Link.sees c.propose.new.desk)
    c.requires.desk c.propose.ensures.leaves.effect c.requires.chain

pub returns-in-Err-clause-settles : goal.returns-in-Err-clause-settles
returns-in-Err-clause-settles g c =
    let old = desk_view g.W.Work.sees g.K.Keeper.sees g.L.Link.sees c.args.desk.now in
    let new = desk_view g.W.Work.sees g.K.Keeper.sees g.L.Link.sees c.propose.new.desk in
    let chain = g.R.Learner.sees c.args.chain.now in (
      refl,
      inr (unsettled old new chain c.voters-voters.result (c.end-position.result + 1) c.voters-voters.ensures.are (ap (λ (k : ℕ). k + 1) c.end-position.ensures)
          c.args.kept.now c.propose.new.kept.round c.in-Err.refusal c.in-Err.ensures.deeds),
    )

pub returns-in-Err-clause-leaves : goal.returns-in-Err-clause-leaves
returns-in-Err-clause-leaves g c =
    let old = desk_view g.W.Work.sees g.K.Keeper.sees g.L.Link.sees c.args.desk.now in
    let new = desk_view g.W.Work.sees g.K.Keeper.sees g.L.Link.sees c.propose.new.desk in
    settled_leaves (slack_after c.in-Err.refusal) old new c.args.kept.now c.propose.new.kept c.voters-voters.result (c.end-position.result + 1) (Err c.in-Err.refusal)
    c.in-Err.ensures.leaves c.in-Err.ensures.deeds

pub returns-in-Err-clause-chain : goal.returns-in-Err-clause-chain
returns-in-Err-clause-chain g c =
    of_desk_on (g.R.Learner.sees c.args.chain.now) (desk_view g.W.Work.sees g.K.Keeper.sees g.L.Link.sees c.args.desk.now) (desk_view g.W.Work.sees g.K.Keeper.sees g.L.Link.sees c.propose.new.desk)
    c.requires.desk c.propose.ensures.leaves.effect c.requires.chain
