-- Live masters stay placed, whatever was dropped.
use Rattle.std.proofs.Common.{◌≡◌, ℕ, ◌+◌, ◌≤◌, List, [], Some, inl, inr, refl, sym, ap, ◌∙◌, slice_get, length, take, Contains, arith}
use Rattle.std.proofs.lemmas.List.{take_at}
use Rattle.std.proofs.lemmas.Option.{slice_get_within}
use Rattle.ms_base.specs.declared.names.Name.{Name}
use Rattle.ms_core.specs.Living.{OneList, AreBacked, LiveLaws}
use Rattle.ms_core.specs.Valid.{IsBacked, IsLive, IsValid, judging_plan, plan_at, votes_of_logs}
use Rattle.ms_record.specs.declared.entry.Entry.{Entry}
use Rattle.ms_record.specs.declared.log.LogEvent.{LogEvent}
use Rattle.ms_record.specs.declared.setting.Setting.{Setting}
use Rattle.ms_record.specs.Chains.{IsChain, generation_in}
use Rattle.ms_record.specs.InForce.{begins_lower, first_generation, plan_next}
use Rattle.ms_record.specs.Logs.{HasPut, Stands}
use Rattle.ms_record.specs.Settings.{IsSetting, genesis_plan, origin_of}

-- no floor is above the generation in force at the chain's end
pub floor_low : (setting : Setting) (logs : ℕ → List LogEvent) (chain : List Entry) → IsSetting setting → OneList setting logs
    → IsChain (votes_of_logs logs) (origin_of setting) chain → (floor : ℕ) → IsBacked setting logs floor → floor ≤ generation_in (genesis_plan setting) chain
floor_low setting logs chain set begins is floor (inl low) =
    omega (arith, low, first_generation setting set, begins_lower (votes_of_logs logs) (origin_of setting) [] chain is.linked (chain, refl))
floor_low setting logs chain set begins is floor (inr c) =
    omega (arith, c.2, begins_lower (votes_of_logs logs) (origin_of setting) c.0 chain is.linked (begins c.0 chain c.1 is.linked (is.longest c.0 c.1)))

-- what was put in the generation in force stands
pub live_stands : (setting : Setting) (logs : ℕ → List LogEvent) (chain : List Entry) (i : ℕ) (e : Entry) → IsSetting setting → OneList setting logs → AreBacked setting logs
    → IsChain (votes_of_logs logs) (origin_of setting) chain → IsLive setting chain i e
    → (s : ℕ) (name : Name) → HasPut (logs s) (plan_at setting chain i).generation name → Stands (logs s) (plan_at setting chain i).generation name
live_stands setting logs chain i e set begins backed is live s name put = record {
  put = put;
  kept = λ floor has. omega (arith, live.current, floor_low setting logs chain set begins is floor (backed s floor has));
}

-- the plan that a valid member was judged by is the one in force there
pub live_plan : (setting : Setting) (logs : ℕ → List LogEvent) (chain : List Entry) (i : ℕ) (e : Entry) → OneList setting logs
    → IsChain (votes_of_logs logs) (origin_of setting) chain → slice_get chain i ≡ Some e → (v : IsValid setting logs (i + 1) e) → judging_plan setting v.next.members e ≡ plan_at setting chain i
live_plan setting logs chain i e begins is at v =
    let members = v.next.members in
    let long : length members ≡ i = omega (arith, v.next.at) in
    let b = begins members chain v.next.linked is.linked (omega (arith, long, slice_get_within chain i e at)) in
    let front : take i chain ≡ members = ap (take i) (sym b.1) ∙ take_at members b.0 i long in
    ap (λ (l : List Entry). judging_plan setting l e) (sym front) ∙ sym (plan_next (genesis_plan setting) chain i e at)

pub live_laws : LiveLaws
live_laws = record { floors = floor_low; stands = live_stands; plan = live_plan }
