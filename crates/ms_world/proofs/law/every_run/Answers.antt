use Rattle.std.proofs.Common.{◌≡◌, ℕ, ◌+◌, ◌-◌, inl, inr, ap, length, arith}
use Rattle.std.proofs.lemmas.Bool.{cases_lt}
use Rattle.ms_world.proofs.Living.{live_placed, formats_after}
use Rattle.ms_world.proofs.ReachedLaws.{reached_inv, run_chain}
use Rattle.ms_world.specs.Worlds.{votes_of_world}
use Rattle.ms_core.specs.Valid.{plan_at}
use Rattle.ms_world.proofs.Runs.{inv_agrees, inv_valid, inv_stands, inv_begins}
use Rattle.ms_world.proofs.Supporting.{run_supported, run_declares}
use Rattle.ms_world.proofs.law.every_run.Goals as goal

pub returns-clause-agrees : goal.returns-clause-agrees
returns-clause-agrees c = λ setting w set reached. inv_agrees c.chain_laws.ensures setting w (reached_inv c.chain_laws.ensures setting w set reached)

pub returns-clause-valid : goal.returns-clause-valid
returns-clause-valid c = λ setting w set reached k e chosen. inv_valid setting w (reached_inv c.chain_laws.ensures setting w set reached) k e chosen

pub returns-clause-stands : goal.returns-clause-stands
returns-clause-stands c = λ setting w chain set reached is i e chosen. inv_stands c.chain_laws.ensures setting w chain (reached_inv c.chain_laws.ensures setting w set reached) is i e chosen

pub returns-clause-begins : goal.returns-clause-begins
returns-clause-begins c = λ setting w chain set reached is client x at.
    let h = reached_inv c.chain_laws.ensures setting w set reached in
    let linked = (h.clients client x at).linked in
    inv_begins c.chain_laws.ensures setting w x.chain chain h linked is.linked (is.longest x.chain linked)

pub returns-clause-one_list : goal.returns-clause-one_list
returns-clause-one_list c = λ setting w set reached i j x y ax ay.
    let h = reached_inv c.chain_laws.ensures setting w set reached in
    let lx = (h.clients i x ax).linked in
    let ly = (h.clients j y ay).linked in
    elim (cases_lt (length x.chain) (length y.chain)) [
      | inl less ↦ inl (inv_begins c.chain_laws.ensures setting w x.chain y.chain h lx ly (omega (arith, less)))
      | inr more ↦ inr (inv_begins c.chain_laws.ensures setting w y.chain x.chain h ly lx more)
    ]

pub returns-clause-names : goal.returns-clause-names
returns-clause-names c = λ setting w set reached client x at i e is.
    let h = reached_inv c.chain_laws.ensures setting w set reached in
    ((h.clients client x at).linked.links i e is).names

pub returns-clause-live : goal.returns-clause-live
returns-clause-live c = λ setting w chain set reached is i e live. live_placed c.chain_laws.ensures c.live_laws.ensures setting w chain i e set (reached_inv c.chain_laws.ensures setting w set reached) is live

pub returns-clause-supported : goal.returns-clause-supported
returns-clause-supported c = λ setting w set reached s event has. run_supported setting w s event (reached_inv c.chain_laws.ensures setting w set reached) has

pub returns-clause-declared : goal.returns-clause-declared
returns-clause-declared c = λ setting w set reached client x before r after is splits. run_declares setting w client x before r after (reached_inv c.chain_laws.ensures setting w set reached) is splits

pub returns-clause-chain : goal.returns-clause-chain
returns-clause-chain c = λ setting w set reached. run_chain c.chain_laws.ensures setting w set (reached_inv c.chain_laws.ensures setting w set reached)

pub returns-clause-formats : goal.returns-clause-formats
returns-clause-formats c = λ setting w chain set reached is i j le.
    let e : i + (j - i) ≡ j = omega arith in
    omega (arith, formats_after setting (votes_of_world w) chain is.linked i (j - i), ap (λ (k : ℕ). (plan_at setting chain k).format) e)
