use Rattle.std.proofs.Common.{◌≡◌, ℕ, ◌≤◌, List, take, length, vec_capacity}
use Rattle.ms_record.specs.declared.record.Record.{Record}
use Rattle.ms_record.specs.Reading.{votes_of}
use Rattle.ms_replay.specs.Places.{AreKept, AreInOrder, all_taken_back}
use Rattle.ms_replay.specs.Tallies.{IsTallyOf, goes_on}
use Rattle.ms_replay.proofs.places.Places.put_all.Given as goal

abbrev pub invariant-loop-text : goal.invariant-loop-text
invariant-loop-text l = record {
  kept : AreKept l.self;
  services : l.self.services ≡ l.fn.self.services;
  read : (lists : ℕ → List Record) → IsTallyOf lists l.fn.self → IsTallyOf (goes_on lists l.service (votes_of (take l.text-index l.more))) l.self;
  order : AreInOrder l.self;
  back : all_taken_back l.service l.done.items l.self.places ≡ l.fn.self.places;
  count : length l.done.items ≡ l.text-index;
  room : length l.more ≤ vec_capacity l.done;
}
