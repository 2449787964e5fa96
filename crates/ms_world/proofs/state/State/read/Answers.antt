use Rattle.std.proofs.Common.{◌<◌, ap, length, arith}
use Rattle.ms_world.specs.Worlds.{WorldView}
use Rattle.ms_world.proofs.Acting.{read_to}
use Rattle.ms_world.proofs.state.State.read.Goals as goal

pub returns : goal.returns
returns c =
    let i = c.self.inside in
    let inside : WorldView = record { logs = i.logs.items; requests = i.requests.items; clients = i.clients.items } in
    let within : c.args.service.0 < length inside.logs = omega (arith, c.requires.services, ap (λ (w : WorldView). length w.logs) c.self.view_is) in
    read_to c.args.setting.now inside c.args.self.now c.args.client.0 c.args.service.0 c.args.upto c.in-Ok.c.now c.index_mut.result.now c.read.new.self c.index.result.now
    c.self.view_is c.in-Ok.ensures.up (omega arith) (omega arith) within c.index.ensures (omega arith) c.index_mut.ensures.value c.read.ensures
