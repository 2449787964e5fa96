use Rattle.std.proofs.Common.{Bool, Result, Ok, Err, true, false, sym, ap, ◌∙◌, subst, length}
use Rattle.ms_record.specs.declared.item.Item.TheVariants.{Told}
use Rattle.ms_record.specs.declared.refusal.Refusal.{Refusal}
use Rattle.ms_record.specs.declared.setting.Setting.{Setting}
use Rattle.ms_local.specs.Desks.{KnowsTold, desk_view}
use Rattle.ms_local.specs.Learning.{ChainView}
use Rattle.ms_propose.specs.Catching.{Settles}
use Rattle.ms_propose.specs.Proposing.{slack_after}
use Rattle.ms_propose.proofs.CatchingUp.{catches_looser_by, catches_on, catches_self, chain_gains, chain_learns, chain_on, chain_self, chain_stays, learnt_on, learns_go, refused_by, shorter_by}
use Rattle.ms_propose.proofs.Freshness.{all_settled, up_to_date}
use Rattle.ms_propose.proofs.Proposals.{setting_on}
use Rattle.ms_propose.proofs.catching.catch_up.Goals as goal

pub learn-init : goal.learn-init
learn-init g c = record {
  desk = c.requires.desk;
  leaves = catches_self (desk_view g.W.Work.sees g.K.Keeper.sees g.L.Link.sees c.args.desk.now) c.args.kept.now c.requires.state c.requires.ranges;
  grows = chain_self (g.R.Learner.sees c.args.chain.now);
  of_desk = c.requires.chain;
}

pub returns-in-Err-clause-grows : goal.returns-in-Err-clause-grows
returns-in-Err-clause-grows g c =
    let chain = g.R.Learner.sees c.learn.chain in
    let known = g.R.Learner.sees c.learn-learnt.new.self in
    let grown = chain_on (g.R.Learner.sees c.args.chain.now) chain known c.learn.invariant.grows (chain_learns chain known c.learn-learnt.ensures.grows) in
    grown

pub returns-in-Err-clause-leaves : goal.returns-in-Err-clause-leaves
returns-in-Err-clause-leaves g c =
    let first = desk_view g.W.Work.sees g.K.Keeper.sees g.L.Link.sees c.args.desk.now in
    let before = desk_view g.W.Work.sees g.K.Keeper.sees g.L.Link.sees c.learn.desk in
    let learnt = desk_view g.W.Work.sees g.K.Keeper.sees g.L.Link.sees c.learn-learnt.new.desk in
    let chain = g.R.Learner.sees c.learn.chain in
    let known = g.R.Learner.sees c.learn-learnt.new.self in
    let told : (setting : Setting) → KnowsTold before setting → KnowsTold learnt setting = λ setting is. c.configuration_stays.ensures.stays before.pass.lists learnt.pass.lists (Told setting) c.recall.ensures.closed c.learn-learnt.ensures.effect.pass.more is in
    let caught = learnt_on chain known first before learnt c.learn-learnt.ensures.effect c.learn-learnt.ensures.reads told c.args.kept.now c.learn.kept c.learn.invariant.desk c.learn.invariant.leaves in
    catches_looser_by c.in-Err.refusal first learnt c.args.kept.now c.learn.kept caught

pub returns-then-known-clause-answer : goal.returns-then-known-clause-answer
returns-then-known-clause-answer g c =
    let first = desk_view g.W.Work.sees g.K.Keeper.sees g.L.Link.sees c.args.desk.now in
    let before = desk_view g.W.Work.sees g.K.Keeper.sees g.L.Link.sees c.learn.desk in
    let learnt = desk_view g.W.Work.sees g.K.Keeper.sees g.L.Link.sees c.learn-learnt.new.desk in
    let chain = g.R.Learner.sees c.learn.chain in
    let known = g.R.Learner.sees c.learn-learnt.new.self in (
      c.in-Ok.ensures.learns.end,
      up_to_date c.linked_lists.ensures.one c.one_chain.ensures.front c.linked_lists.ensures.voters chain known first before learnt c.in-Ok.known c.learn.invariant.leaves.effect
          (learns_go chain known before learnt c.learn-learnt.ensures.effect c.learn-learnt.ensures.reads (λ setting is. c.configuration_stays.ensures.stays before.pass.lists learnt.pass.lists (Told setting) c.recall.ensures.closed c.learn-learnt.ensures.effect.pass.more is))
          c.recall.ensures.closed c.learn-learnt.ensures.chain c.in-Ok.ensures.learns c.if-known.true,
    )

pub returns-then-known-clause-grows : goal.returns-then-known-clause-grows
returns-then-known-clause-grows g c =
    let chain = g.R.Learner.sees c.learn.chain in
    let known = g.R.Learner.sees c.learn-learnt.new.self in
    let grown = chain_on (g.R.Learner.sees c.args.chain.now) chain known c.learn.invariant.grows (chain_learns chain known c.learn-learnt.ensures.grows) in
    grown

pub returns-then-known-clause-leaves : goal.returns-then-known-clause-leaves
returns-then-known-clause-leaves g c =
    let first = desk_view g.W.Work.sees g.K.Keeper.sees g.L.Link.sees c.args.desk.now in
    let before = desk_view g.W.Work.sees g.K.Keeper.sees g.L.Link.sees c.learn.desk in
    let learnt = desk_view g.W.Work.sees g.K.Keeper.sees g.L.Link.sees c.learn-learnt.new.desk in
    let chain = g.R.Learner.sees c.learn.chain in
    let known = g.R.Learner.sees c.learn-learnt.new.self in
    let told : (setting : Setting) → KnowsTold before setting → KnowsTold learnt setting = λ setting is. c.configuration_stays.ensures.stays before.pass.lists learnt.pass.lists (Told setting) c.recall.ensures.closed c.learn-learnt.ensures.effect.pass.more is in
    let caught = learnt_on chain known first before learnt c.learn-learnt.ensures.effect c.learn-learnt.ensures.reads told c.args.kept.now c.learn.kept c.learn.invariant.desk c.learn.invariant.leaves in
    caught

pub settle-requires-clause-setting : goal.settle-requires-clause-setting
settle-requires-clause-setting g c =
    let first = desk_view g.W.Work.sees g.K.Keeper.sees g.L.Link.sees c.args.desk.now in
    let before = desk_view g.W.Work.sees g.K.Keeper.sees g.L.Link.sees c.learn.desk in
    let learnt = desk_view g.W.Work.sees g.K.Keeper.sees g.L.Link.sees c.learn-learnt.new.desk in
    let chain = g.R.Learner.sees c.learn.chain in
    let known = g.R.Learner.sees c.learn-learnt.new.self in
    let told : (setting : Setting) → KnowsTold before setting → KnowsTold learnt setting = λ setting is. c.configuration_stays.ensures.stays before.pass.lists learnt.pass.lists (Told setting) c.recall.ensures.closed c.learn-learnt.ensures.effect.pass.more is in
    let caught = learnt_on chain known first before learnt c.learn-learnt.ensures.effect c.learn-learnt.ensures.reads told c.args.kept.now c.learn.kept c.learn.invariant.desk c.learn.invariant.leaves in
    setting_on first learnt c.args.setting.now c.requires.desk caught.effect c.requires.setting

pub learn-smaller : goal.learn-smaller
learn-smaller g c =
    let chain = g.R.Learner.sees c.learn.chain in
    let known = g.R.Learner.sees c.learn-learnt.new.self in
    let last = g.R.Learner.sees c.settle.new.chain in
    let settles : Settles (desk_view g.W.Work.sees g.K.Keeper.sees g.L.Link.sees c.learn-learnt.new.desk) (desk_view g.W.Work.sees g.K.Keeper.sees g.L.Link.sees c.settle.new.desk) c.learn.kept c.settle.new.kept.round known last (Ok true) =
    subst (λ (r : Result Bool Refusal). Settles (desk_view g.W.Work.sees g.K.Keeper.sees g.L.Link.sees c.learn-learnt.new.desk) (desk_view g.W.Work.sees g.K.Keeper.sees g.L.Link.sees c.settle.new.desk) c.learn.kept c.settle.new.kept.round known last r) (c.in-Ok-true.is ∙ ap Ok c.in-Ok-true.field-0-test) c.settle.ensures.settles in
    shorter_by chain known last c.learn-learnt.ensures.grows settles.0 settles.2 c.settle.ensures.room

pub learn-preserved : goal.learn-preserved
learn-preserved g c =
    let first = desk_view g.W.Work.sees g.K.Keeper.sees g.L.Link.sees c.args.desk.now in
    let before = desk_view g.W.Work.sees g.K.Keeper.sees g.L.Link.sees c.learn.desk in
    let learnt = desk_view g.W.Work.sees g.K.Keeper.sees g.L.Link.sees c.learn-learnt.new.desk in
    let new = desk_view g.W.Work.sees g.K.Keeper.sees g.L.Link.sees c.settle.new.desk in
    let chain = g.R.Learner.sees c.learn.chain in
    let known = g.R.Learner.sees c.learn-learnt.new.self in
    let last = g.R.Learner.sees c.settle.new.chain in
    let settles : Settles (desk_view g.W.Work.sees g.K.Keeper.sees g.L.Link.sees c.learn-learnt.new.desk) (desk_view g.W.Work.sees g.K.Keeper.sees g.L.Link.sees c.settle.new.desk) c.learn.kept c.settle.new.kept.round known last (Ok true) =
    subst (λ (r : Result Bool Refusal). Settles (desk_view g.W.Work.sees g.K.Keeper.sees g.L.Link.sees c.learn-learnt.new.desk) (desk_view g.W.Work.sees g.K.Keeper.sees g.L.Link.sees c.settle.new.desk) c.learn.kept c.settle.new.kept.round known last r) (c.in-Ok-true.is ∙ ap Ok c.in-Ok-true.field-0-test) c.settle.ensures.settles in
    let told : (setting : Setting) → KnowsTold before setting → KnowsTold learnt setting = λ setting is. c.configuration_stays.ensures.stays before.pass.lists learnt.pass.lists (Told setting) c.recall.ensures.closed c.learn-learnt.ensures.effect.pass.more is in
    let caught = learnt_on chain known first before learnt c.learn-learnt.ensures.effect c.learn-learnt.ensures.reads told c.args.kept.now c.learn.kept c.learn.invariant.desk c.learn.invariant.leaves in
    let grown = chain_on (g.R.Learner.sees c.args.chain.now) chain known c.learn.invariant.grows (chain_learns chain known c.learn-learnt.ensures.grows) in
    record {
      desk = c.settle.ensures.desk;
      leaves = catches_on 0 first learnt new c.args.kept.now c.learn.kept c.settle.new.kept caught c.in-Ok-true.ensures.leaves;
      grows = chain_on (g.R.Learner.sees c.args.chain.now) known last grown (chain_gains known last settles.0 settles.2);
      of_desk = c.settle.ensures.chain;
    }

pub returns-in-Ok-false-clause-answer : goal.returns-in-Ok-false-clause-answer
returns-in-Ok-false-clause-answer g c =
    let first = desk_view g.W.Work.sees g.K.Keeper.sees g.L.Link.sees c.args.desk.now in
    let before = desk_view g.W.Work.sees g.K.Keeper.sees g.L.Link.sees c.learn.desk in
    let learnt = desk_view g.W.Work.sees g.K.Keeper.sees g.L.Link.sees c.learn-learnt.new.desk in
    let new = desk_view g.W.Work.sees g.K.Keeper.sees g.L.Link.sees c.settle.new.desk in
    let chain = g.R.Learner.sees c.learn.chain in
    let known = g.R.Learner.sees c.learn-learnt.new.self in
    let last = g.R.Learner.sees c.settle.new.chain in
    let settles : Settles (desk_view g.W.Work.sees g.K.Keeper.sees g.L.Link.sees c.learn-learnt.new.desk) (desk_view g.W.Work.sees g.K.Keeper.sees g.L.Link.sees c.settle.new.desk) c.learn.kept c.settle.new.kept.round known last (Ok false) =
    subst (λ (r : Result Bool Refusal). Settles (desk_view g.W.Work.sees g.K.Keeper.sees g.L.Link.sees c.learn-learnt.new.desk) (desk_view g.W.Work.sees g.K.Keeper.sees g.L.Link.sees c.settle.new.desk) c.learn.kept c.settle.new.kept.round known last r) (c.in-Ok-false.is ∙ ap Ok c.in-Ok-false.field-0-test) c.settle.ensures.settles in
    let told : (setting : Setting) → KnowsTold before setting → KnowsTold learnt setting = λ setting is. c.configuration_stays.ensures.stays before.pass.lists learnt.pass.lists (Told setting) c.recall.ensures.closed c.learn-learnt.ensures.effect.pass.more is in
    let caught = learnt_on chain known first before learnt c.learn-learnt.ensures.effect c.learn-learnt.ensures.reads told c.args.kept.now c.learn.kept c.learn.invariant.desk c.learn.invariant.leaves in (
      c.in-Ok.ensures.learns.end ∙ sym (ap (λ (x : ChainView). length x.members) settles.0),
      all_settled c.linked_lists.ensures.one c.one_chain.ensures.front known first learnt c.in-Ok.known.end c.in-Ok.ensures.learns.end caught.effect c.recall.ensures.closed c.learn-learnt.ensures.chain settles.1,
    )

pub returns-in-Ok-false-clause-grows : goal.returns-in-Ok-false-clause-grows
returns-in-Ok-false-clause-grows g c =
    let chain = g.R.Learner.sees c.learn.chain in
    let known = g.R.Learner.sees c.learn-learnt.new.self in
    let last = g.R.Learner.sees c.settle.new.chain in
    let settles : Settles (desk_view g.W.Work.sees g.K.Keeper.sees g.L.Link.sees c.learn-learnt.new.desk) (desk_view g.W.Work.sees g.K.Keeper.sees g.L.Link.sees c.settle.new.desk) c.learn.kept c.settle.new.kept.round known last (Ok false) =
    subst (λ (r : Result Bool Refusal). Settles (desk_view g.W.Work.sees g.K.Keeper.sees g.L.Link.sees c.learn-learnt.new.desk) (desk_view g.W.Work.sees g.K.Keeper.sees g.L.Link.sees c.settle.new.desk) c.learn.kept c.settle.new.kept.round known last r) (c.in-Ok-false.is ∙ ap Ok c.in-Ok-false.field-0-test) c.settle.ensures.settles in
    let grown = chain_on (g.R.Learner.sees c.args.chain.now) chain known c.learn.invariant.grows (chain_learns chain known c.learn-learnt.ensures.grows) in
    chain_on (g.R.Learner.sees c.args.chain.now) known last grown (chain_stays known last settles.0)

pub returns-in-Ok-false-clause-leaves : goal.returns-in-Ok-false-clause-leaves
returns-in-Ok-false-clause-leaves g c =
    let first = desk_view g.W.Work.sees g.K.Keeper.sees g.L.Link.sees c.args.desk.now in
    let before = desk_view g.W.Work.sees g.K.Keeper.sees g.L.Link.sees c.learn.desk in
    let learnt = desk_view g.W.Work.sees g.K.Keeper.sees g.L.Link.sees c.learn-learnt.new.desk in
    let new = desk_view g.W.Work.sees g.K.Keeper.sees g.L.Link.sees c.settle.new.desk in
    let chain = g.R.Learner.sees c.learn.chain in
    let known = g.R.Learner.sees c.learn-learnt.new.self in
    let told : (setting : Setting) → KnowsTold before setting → KnowsTold learnt setting = λ setting is. c.configuration_stays.ensures.stays before.pass.lists learnt.pass.lists (Told setting) c.recall.ensures.closed c.learn-learnt.ensures.effect.pass.more is in
    let caught = learnt_on chain known first before learnt c.learn-learnt.ensures.effect c.learn-learnt.ensures.reads told c.args.kept.now c.learn.kept c.learn.invariant.desk c.learn.invariant.leaves in
    catches_on 0 first learnt new c.args.kept.now c.learn.kept c.settle.new.kept caught c.in-Ok-false.ensures.leaves

pub returns-in-Err-settle-clause-answer : goal.returns-in-Err-settle-clause-answer
returns-in-Err-settle-clause-answer g c =
    let first = desk_view g.W.Work.sees g.K.Keeper.sees g.L.Link.sees c.args.desk.now in
    let before = desk_view g.W.Work.sees g.K.Keeper.sees g.L.Link.sees c.learn.desk in
    let learnt = desk_view g.W.Work.sees g.K.Keeper.sees g.L.Link.sees c.learn-learnt.new.desk in
    let new = desk_view g.W.Work.sees g.K.Keeper.sees g.L.Link.sees c.settle.new.desk in
    let chain = g.R.Learner.sees c.learn.chain in
    let known = g.R.Learner.sees c.learn-learnt.new.self in
    let last = g.R.Learner.sees c.settle.new.chain in
    let settles : Settles (desk_view g.W.Work.sees g.K.Keeper.sees g.L.Link.sees c.learn-learnt.new.desk) (desk_view g.W.Work.sees g.K.Keeper.sees g.L.Link.sees c.settle.new.desk) c.learn.kept c.settle.new.kept.round known last (Err c.in-Err-settle.refusal) =
    subst (λ (r : Result Bool Refusal). Settles (desk_view g.W.Work.sees g.K.Keeper.sees g.L.Link.sees c.learn-learnt.new.desk) (desk_view g.W.Work.sees g.K.Keeper.sees g.L.Link.sees c.settle.new.desk) c.learn.kept c.settle.new.kept.round known last r) (c.in-Err-settle.is) c.settle.ensures.settles in
    let told : (setting : Setting) → KnowsTold before setting → KnowsTold learnt setting = λ setting is. c.configuration_stays.ensures.stays before.pass.lists learnt.pass.lists (Told setting) c.recall.ensures.closed c.learn-learnt.ensures.effect.pass.more is in
    let caught = learnt_on chain known first before learnt c.learn-learnt.ensures.effect c.learn-learnt.ensures.reads told c.args.kept.now c.learn.kept c.learn.invariant.desk c.learn.invariant.leaves in
    let grown = chain_on (g.R.Learner.sees c.args.chain.now) chain known c.learn.invariant.grows (chain_learns chain known c.learn-learnt.ensures.grows) in
    refused_by first learnt new c.args.kept.now c.learn.kept (g.R.Learner.sees c.args.chain.now) known last c.settle.new.kept.round c.in-Err-settle.refusal caught grown settles

pub returns-in-Err-settle-clause-grows : goal.returns-in-Err-settle-clause-grows
returns-in-Err-settle-clause-grows g c =
    let chain = g.R.Learner.sees c.learn.chain in
    let known = g.R.Learner.sees c.learn-learnt.new.self in
    let last = g.R.Learner.sees c.settle.new.chain in
    let settles : Settles (desk_view g.W.Work.sees g.K.Keeper.sees g.L.Link.sees c.learn-learnt.new.desk) (desk_view g.W.Work.sees g.K.Keeper.sees g.L.Link.sees c.settle.new.desk) c.learn.kept c.settle.new.kept.round known last (Err c.in-Err-settle.refusal) =
    subst (λ (r : Result Bool Refusal). Settles (desk_view g.W.Work.sees g.K.Keeper.sees g.L.Link.sees c.learn-learnt.new.desk) (desk_view g.W.Work.sees g.K.Keeper.sees g.L.Link.sees c.settle.new.desk) c.learn.kept c.settle.new.kept.round known last r) (c.in-Err-settle.is) c.settle.ensures.settles in
    let grown = chain_on (g.R.Learner.sees c.args.chain.now) chain known c.learn.invariant.grows (chain_learns chain known c.learn-learnt.ensures.grows) in
    chain_on (g.R.Learner.sees c.args.chain.now) known last grown (chain_stays known last settles.0)

pub returns-in-Err-settle-clause-leaves : goal.returns-in-Err-settle-clause-leaves
returns-in-Err-settle-clause-leaves g c =
    let first = desk_view g.W.Work.sees g.K.Keeper.sees g.L.Link.sees c.args.desk.now in
    let before = desk_view g.W.Work.sees g.K.Keeper.sees g.L.Link.sees c.learn.desk in
    let learnt = desk_view g.W.Work.sees g.K.Keeper.sees g.L.Link.sees c.learn-learnt.new.desk in
    let new = desk_view g.W.Work.sees g.K.Keeper.sees g.L.Link.sees c.settle.new.desk in
    let chain = g.R.Learner.sees c.learn.chain in
    let known = g.R.Learner.sees c.learn-learnt.new.self in
    let told : (setting : Setting) → KnowsTold before setting → KnowsTold learnt setting = λ setting is. c.configuration_stays.ensures.stays before.pass.lists learnt.pass.lists (Told setting) c.recall.ensures.closed c.learn-learnt.ensures.effect.pass.more is in
    let caught = learnt_on chain known first before learnt c.learn-learnt.ensures.effect c.learn-learnt.ensures.reads told c.args.kept.now c.learn.kept c.learn.invariant.desk c.learn.invariant.leaves in
    catches_on (slack_after c.in-Err-settle.refusal) first learnt new c.args.kept.now c.learn.kept c.settle.new.kept caught c.in-Err-settle.ensures.leaves
