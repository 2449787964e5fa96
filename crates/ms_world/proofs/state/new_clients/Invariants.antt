use Rattle.std.proofs.Common.{◌≡◌, replicate}
use Rattle.ms_world.specs.Worlds.{new_client}
use Rattle.ms_world.proofs.state.new_clients.Given as goal

abbrev pub invariant-loop : goal.invariant-loop
invariant-loop l = l.clients.items ≡ replicate l.counter new_client
