use Rattle.std.proofs.Common.{◌≡◌, length}
use Rattle.ms_replay.specs.Places.{all_taken_back}
use Rattle.ms_replay.proofs.places.Places.take_all_back.Given as goal

abbrev pub invariant-loop-put : goal.invariant-loop-put
invariant-loop-put l = record {
  places : all_taken_back l.service l.done.items l.self.places ≡ all_taken_back l.service l.initial.done.items l.fn.self.places;
  services : l.self.services ≡ l.fn.self.services;
}

-- each turn takes one back
abbrev pub decreases-loop-put : goal.decreases-loop-put
decreases-loop-put l = length l.done.items
