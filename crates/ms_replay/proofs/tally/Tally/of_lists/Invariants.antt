use Rattle.std.proofs.Common.{◌≡◌}
use Rattle.ms_replay.specs.Audits.{lists_of}
use Rattle.ms_replay.specs.Places.{AreKept}
use Rattle.ms_replay.specs.Tallies.{IsTallyOf}
use Rattle.ms_replay.proofs.ListOn.{lists_below}
use Rattle.ms_replay.proofs.tally.Tally.of_lists.Given as goal

abbrev pub invariant-loop-service : goal.invariant-loop-service
invariant-loop-service l = record {
  kept : AreKept l.places;
  services : l.places.services ≡ l.services;
  read : IsTallyOf (lists_below l.service (lists_of l.lists)) l.places;
}
