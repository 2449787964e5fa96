use Rattle.std.proofs.Common.{◌≡◌, ◌≤◌, ◌∙◌, length, arith}
use Rattle.std.proofs.lemmas.List.{length-map, take_all}
use Rattle.ms_world.specs.Worlds.{ClientView}
use Rattle.ms_top.specs.Drills.{known_of}
use Rattle.ms_top.proofs.Running.{known_more}
use Rattle.ms_top.proofs.drills.known.Goals as goal

pub loop-client-init : goal.loop-client-init
loop-client-init c = c.new-known.ensures

pub loop-client-preserved : goal.loop-client-preserved
loop-client-preserved c =
    known_more c.args.world.now.world.clients c.loop-client.client c.known.result c.loop-client.known c.push.new.self
    (omega (arith, c.loop-client-test.true, c.requires.there)) c.known.ensures c.loop-client.invariant c.in_ok-push.ensures.ok

pub returns : goal.returns
returns c =
    let known = known_of c.args.world.now.world in
    let count : length known ≡ length c.args.world.now.world.clients = length-map c.args.world.now.world.clients (λ (client : ClientView). length client.chain) in
    let all : length known ≤ c.loop-client.client = omega (arith, count, c.requires.there, c.loop-client-test.false) in
    c.loop-client.invariant ∙ take_all c.loop-client.client known all
