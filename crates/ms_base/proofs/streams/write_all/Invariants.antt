use Rattle.std.proofs.Common.{◌≡◌, ◌≤◌, ◌-◌, length, take}
use Rattle.std.specs.Io.KnownBytes.{Appends}
use Rattle.ms_base.specs.Outside.{StaysTold}
use Rattle.ms_base.proofs.streams.write_all.Given as goal

abbrev pub invariant-loop-at : goal.invariant-loop-at
invariant-loop-at g l = record {
  within : l.at ≤ length l.text;
  went : Appends (g.S.Sink.seen l.fn.sink).contents (g.S.Sink.seen l.sink).contents (take l.at l.text);
  told : StaysTold (g.S.Sink.seen l.fn.sink).contents (g.S.Sink.seen l.sink).contents;
  steady : (g.S.Sink.seen l.sink).faults ≡ (g.S.Sink.seen l.fn.sink).faults;
}

abbrev pub decreases-loop-at : goal.decreases-loop-at
decreases-loop-at g l = length l.text - l.at
