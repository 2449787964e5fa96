use Rattle.std.proofs.Common.{◌≡◌, ap, arith}
use Rattle.ms_world.specs.Held.{HeldView}
use Rattle.ms_world.proofs.world.World.known.Goals as goal

pub chain_length-requires-clause-there : goal.chain_length-requires-clause-there
chain_length-requires-clause-there c =
    let v = c.self.invariant in
    let clients : c.self.inside.setting.clients ≡ c.args.self.now.setting.clients = ap (λ (h : HeldView). h.setting.clients) c.self.view_is in
    omega (arith, c.states_hold.ensures.present _ _ v.set v.reached, clients, c.requires)

pub chain_length-requires-clause-short : goal.chain_length-requires-clause-short
chain_length-requires-clause-short c = λ x at.
    let v = c.self.invariant in
    omega (arith, (c.states_hold.ensures.state _ _ v.set v.reached).short c.args.client.0 x at)
