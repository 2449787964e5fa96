use Rattle.ms_world.proofs.Acting.{sent_more}
use Rattle.ms_world.specs.Worlds.{WorldView}
use Rattle.ms_world.proofs.state.State.send.Goals as goal

pub returns-clause-ok : goal.returns-clause-ok
returns-clause-ok c =
    let i = c.self.inside in
    let inside : WorldView = record { logs = i.logs.items; requests = i.requests.items; clients = i.clients.items } in
    sent_more inside c.args.self.now c.args.voters.now c.args.message.now c.in_ok-sent.sent.items c.append.new.self.items c.self.view_is c.in_ok-sent.ensures c.in_ok-append.ensures.items
