use Rattle.std.proofs.Common.{◌≡◌, ◌+◌, ℕ, List, Some, slice_get, length, subst}
use Rattle.ms_world.specs.Held.{HeldView}
use Rattle.ms_core.specs.Placing.{StaysPlaced}
use Rattle.ms_core.specs.Valid.{IsLive, Names, plan_at}
use Rattle.ms_record.specs.declared.entry.Entry.{Entry}
use Rattle.ms_record.specs.Chains.{Agrees, Begins, IsChain, IsChosen}
use Rattle.ms_record.specs.Settings.{origin_of}
use Rattle.ms_world.specs.Worlds.{ClientView, log_of, votes_of_world}
use Rattle.ms_world.proofs.world.World.shows.Goals as goal

pub returns-clause-clients : goal.returns-clause-clients
returns-clause-clients c =
    let v = c.self.invariant in
    subst (λ (h : HeldView). length h.world.clients ≡ h.setting.clients) c.self.view_is (c.states_hold.ensures.present c.self.inside.setting c.self.inside.state v.set v.reached)

pub returns-clause-agrees : goal.returns-clause-agrees
returns-clause-agrees c =
    let v = c.self.invariant in
    subst (λ (h : HeldView). Agrees (votes_of_world h.world) (origin_of h.setting)) c.self.view_is (c.every_run.ensures.agrees c.self.inside.setting c.self.inside.state v.set v.reached)

pub returns-clause-chain : goal.returns-clause-chain
returns-clause-chain c =
    let v = c.self.invariant in
    subst (λ (h : HeldView). (chain : List Entry) × IsChain (votes_of_world h.world) (origin_of h.setting) chain) c.self.view_is (c.every_run.ensures.chain c.self.inside.setting c.self.inside.state v.set v.reached)

pub returns-clause-stands : goal.returns-clause-stands
returns-clause-stands c =
    let v = c.self.invariant in
    subst (λ (h : HeldView). (chain : List Entry) → IsChain (votes_of_world h.world) (origin_of h.setting) chain → (i : ℕ) (e : Entry) → IsChosen (votes_of_world h.world) (origin_of h.setting) (i + 1) e → slice_get chain i ≡ Some e)
    c.self.view_is (λ chain. c.every_run.ensures.stands c.self.inside.setting c.self.inside.state chain v.set v.reached)

pub returns-clause-begins : goal.returns-clause-begins
returns-clause-begins c =
    let v = c.self.invariant in
    subst (λ (h : HeldView). (chain : List Entry) → IsChain (votes_of_world h.world) (origin_of h.setting) chain → (client : ℕ) (x : ClientView) → slice_get h.world.clients client ≡ Some x → Begins x.chain chain)
    c.self.view_is (λ chain. c.every_run.ensures.begins c.self.inside.setting c.self.inside.state chain v.set v.reached)

pub returns-clause-names : goal.returns-clause-names
returns-clause-names c =
    let v = c.self.invariant in
    subst (λ (h : HeldView). (client : ℕ) (x : ClientView) → slice_get h.world.clients client ≡ Some x → Names h.setting x.chain)
    c.self.view_is (c.every_run.ensures.names c.self.inside.setting c.self.inside.state v.set v.reached)

pub returns-clause-live : goal.returns-clause-live
returns-clause-live c =
    let v = c.self.invariant in
    subst (λ (h : HeldView). (chain : List Entry) → IsChain (votes_of_world h.world) (origin_of h.setting) chain → (i : ℕ) (e : Entry) → IsLive h.setting chain i e → StaysPlaced (log_of h.world) (plan_at h.setting chain i) e.version)
    c.self.view_is (λ chain. c.every_run.ensures.live c.self.inside.setting c.self.inside.state chain v.set v.reached)
