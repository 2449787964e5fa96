-- Live masters stay placed in every run.
use Rattle.std.proofs.Common.{◌≡◌, ℕ, ◌+◌, ◌≤◌, List, ap, subst, take, arith}
use Rattle.ms_record.specs.declared.entry.Entry.{Entry}
use Rattle.ms_record.specs.declared.record.Record.{Record}
use Rattle.ms_record.specs.declared.setting.Setting.{Setting}
use Rattle.ms_record.specs.Chains.{IsChain, IsLinked, plan_in}
use Rattle.ms_record.specs.InForce.{formats_rise}
use Rattle.ms_record.specs.Logs.{HasPut, Stands}
use Rattle.ms_record.specs.Plans.{PlanView}
use Rattle.ms_record.specs.Settings.{IsSetting, genesis_plan, origin_of}
use Rattle.ms_core.specs.Growth.{placed_more}
use Rattle.ms_core.specs.Placing.{IsPlaced, StaysPlaced}
use Rattle.ms_core.specs.Valid.{IsLive, plan_at}
use Rattle.ms_record.specs.ChainLaws.{ChainLaws}
use Rattle.ms_core.specs.Living.{OneList, LiveLaws}
use Rattle.ms_world.proofs.Invariant.{Inv}
use Rattle.ms_world.proofs.Runs.{inv_valid, inv_begins}
use Rattle.ms_world.specs.Worlds.{WorldView, log_of, votes_of_world}

pub live_placed : (l : ChainLaws) (live_laws : LiveLaws) (setting : Setting) (w : WorldView) (chain : List Entry) (i : ℕ) (e : Entry) → IsSetting setting → Inv setting w
    → IsChain (votes_of_world w) (origin_of setting) chain → IsLive setting chain i e → StaysPlaced (log_of w) (plan_at setting chain i) e.version
live_placed l live_laws setting w chain i e set h is live =
    let v = inv_valid setting w h (i + 1) e (l.chosen (votes_of_world w) (origin_of setting) chain i e is.linked live.is) in
    let begins : OneList setting (log_of w) = λ a b la lb short. inv_begins l setting w a b h la lb short in
    let plan = plan_at setting chain i in
    let placed : IsPlaced (log_of w) plan e.version = subst (λ (p : PlanView). IsPlaced (log_of w) p e.version) (live_laws.plan setting (log_of w) chain i e begins is live.is v) v.placed in
    placed_more (λ s name. HasPut (log_of w s) plan.generation name) (λ s name. Stands (log_of w s) plan.generation name) plan e.version
    (live_laws.stands setting (log_of w) chain i e set begins h.dropped is live) placed

-- formats do not fall along a linked list
pub formats_after : (setting : Setting) (votes : ℕ → List Record) (c : List Entry) → IsLinked votes (origin_of setting) c → (i n : ℕ) → (plan_at setting c i).format ≤ (plan_at setting c (i + n)).format
formats_after setting votes c linked i n =
    let e : i + 1 + n ≡ i + n + 1 = omega arith in
    omega (arith, formats_rise votes (origin_of setting) c linked (i + 1) n, ap (λ (j : ℕ). (plan_in (genesis_plan setting) (take j c)).format) e)
