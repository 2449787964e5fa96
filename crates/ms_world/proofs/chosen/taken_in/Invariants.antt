use Rattle.std.proofs.Common.{◌≡◌, take}
use Rattle.ms_world.specs.Passes.{IsReadOf}
use Rattle.ms_record.specs.Logs.{votes_in}
use Rattle.ms_world.proofs.chosen.taken_in.Given as goal

abbrev pub invariant-loop-event : goal.invariant-loop-event
invariant-loop-event l = record {
  position : l.acceptor.position ≡ l.fn.position;
  read : IsReadOf (votes_in (take l.event-index l.log)) l.acceptor l.votes;
}
