use Rattle.std.proofs.Common.{◌≡◌, ◌≤◌, ◌+◌, ◌-◌, length, vec_len}
use Rattle.std.specs.Io.KnownBytes.{Consumes}
use Rattle.ms_base.specs.Outside.{StaysTold}
use Rattle.ms_base.proofs.streams.read_all.Given as goal

abbrev pub invariant-loop-text : goal.invariant-loop-text
invariant-loop-text g l = record {
  came : Consumes (g.S.Source.seen l.fn.source).left (g.S.Source.seen l.source).left l.text.items;
  few : length l.text.items ≤ l.most;
  most_is : l.most ≡ l.limit + 1;
  room : vec_len l.piece ≡ 65536;
  told : StaysTold (g.S.Source.seen l.fn.source).left (g.S.Source.seen l.source).left;
  steady : (g.S.Source.seen l.source).faults ≡ (g.S.Source.seen l.fn.source).faults;
}

abbrev pub decreases-loop-text : goal.decreases-loop-text
decreases-loop-text g l = l.most - length l.text.items
