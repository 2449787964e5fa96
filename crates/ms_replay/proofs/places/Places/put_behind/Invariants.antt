use Rattle.std.proofs.Common.{◌≡◌, ℕ, ◌≤◌, List, take, length}
use Rattle.ms_record.specs.declared.record.Record.{Record}
use Rattle.ms_record.specs.Reading.{votes_of}
use Rattle.ms_replay.specs.Places.{AreKept}
use Rattle.ms_replay.specs.Tallies.{IsTallyOf, goes_on}
use Rattle.ms_replay.proofs.places.Places.put_behind.Given as goal

abbrev pub invariant-loop-text : goal.invariant-loop-text
invariant-loop-text l = record {
  kept : AreKept l.self;
  services : l.self.services ≡ l.fn.self.services;
  read : (lists : ℕ → List Record) → IsTallyOf lists l.fn.self → IsTallyOf (goes_on lists l.service (votes_of (take l.text-index l.more))) l.self;
}
