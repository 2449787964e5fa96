use Rattle.ms_world.specs.Worlds.{WorldView}
use Rattle.ms_world.proofs.Acting.{stopped}
use Rattle.ms_world.proofs.state.State.stop.Goals as goal

pub returns : goal.returns
returns c = λ setting.
    let i = c.self.inside in
    let inside : WorldView = record { logs = i.logs.items; requests = i.requests.items; clients = i.clients.items } in
    stopped inside c.args.self.now c.args.client.0 c.in_default.field-0.now c.index_mut.result.now c.stop.new.self c.self.view_is c.in_default.ensures.up c.index_mut.ensures.value c.stop.ensures
