use Rattle.std.proofs.Common.{◌≡◌, ◌+◌, ◌∙◌, ◌++◌, ◌∷◌, [], Option, IfSome, ℕ, List, ap, sym, subst, length, arith}
use Rattle.std.proofs.lemmas.List.{length_push}
use Rattle.ms_record.specs.InForce.{plan_push}
use Rattle.ms_world.specs.Worlds.{WorldView, votes_of_world}
use Rattle.ms_record.specs.declared.entry.Entry.{Entry}
use Rattle.ms_record.specs.declared.record.Record.{Record}
use Rattle.ms_record.specs.Chains.{IsChain, IsLinked, plan_after, plan_in, voters_of}
use Rattle.ms_record.specs.Plans.{PlanView}
use Rattle.ms_record.specs.Settings.{genesis_plan, origin_of}
use Rattle.ms_record.specs.Votes.{ChosenBy}
use Rattle.ms_world.proofs.chain.follow.Goals as goal

-- what is chosen at a position by the services of a plan
moved : (votes : ℕ → List Record) (p q : PlanView) (j k : ℕ) (e : Entry) → p ≡ q → j ≡ k → ChosenBy votes (voters_of p) j e → ChosenBy votes (voters_of q) k e
moved votes p q j k e same place h = subst (λ (x : PlanView). ChosenBy votes (voters_of x) k e) same (subst (λ (x : ℕ). ChosenBy votes (voters_of p) x e) place h)

-- the list has one entry more, and the plan behind it
abbrev IsMore : WorldView → PlanView → ℕ → List Entry → List Entry → PlanView → Type 0
IsMore w plan position old new behind = (e : Entry) × ChosenBy (votes_of_world w) (voters_of plan) position e × (new ≡ old ++ e ∷ []) × (behind ≡ plan_after plan e.plan)

pub returns-in-None-clause-chain : goal.returns-in-None-clause-chain
returns-in-None-clause-chain c =
    let w = c.args.state.now in
    let setting = c.args.setting.now in
    let i = c.loop-position.invariant in
    let end = c.in_ok-behind.ensures.end c.in-None.is in
    subst (λ (l : List Entry). IsChain (votes_of_world w) (origin_of setting) l) (sym end.0)
    (c.chains_go_on.ensures.ends setting w c.loop-position.chain c.requires.set c.requires.reached i.linked
    (λ e h. end.1 e (moved (votes_of_world w) (plan_in (genesis_plan setting) c.loop-position.chain) c.loop-position.plan (length c.loop-position.chain + 1) c.loop-position.position e (sym i.plan) (sym i.next) h)))

pub loop-position-preserved : goal.loop-position-preserved
loop-position-preserved c =
    let w = c.args.state.now in
    let setting = c.args.setting.now in
    let i = c.loop-position.invariant in
    let more = subst (λ (o : Option PlanView). IfSome o (IsMore w c.loop-position.plan c.loop-position.position c.loop-position.chain c.follow_at.new.list)) c.in-Some.is c.in_ok-behind.ensures.more in
    let chosen : ChosenBy (votes_of_world w) (voters_of (plan_in (genesis_plan setting) c.loop-position.chain)) (length c.loop-position.chain + 1) more.0 =
    moved (votes_of_world w) c.loop-position.plan (plan_in (genesis_plan setting) c.loop-position.chain) c.loop-position.position (length c.loop-position.chain + 1) more.0 i.plan i.next more.1 in
    record {
      next = omega (arith, i.next, ap (λ (l : List Entry). length l) more.2, length_push c.loop-position.chain more.0);
      linked = subst (λ (l : List Entry). IsLinked (votes_of_world w) (origin_of setting) l) (sym more.2)
          (c.chains_go_on.ensures.goes_on setting w c.loop-position.chain more.0 c.requires.set c.requires.reached i.linked chosen);
      plan = more.3 ∙ ap (λ (p : PlanView). plan_after p more.0.plan) i.plan ∙ sym (plan_push (genesis_plan setting) c.loop-position.chain more.0) ∙ sym (ap (plan_in (genesis_plan setting)) more.2);
    }
