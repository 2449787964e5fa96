use Rattle.std.proofs.Common.{◌≡◌, drop}
use Rattle.ms_base.specs.Memory.{pairs_of}
use Rattle.ms_base.specs.Outside.{text_named}
use Rattle.ms_base.proofs.memory.place_of.Given as goal

abbrev pub invariant-loop-i : goal.invariant-loop-i
invariant-loop-i l = text_named (pairs_of (drop l.i l.inputs)) l.name ≡ text_named (pairs_of l.inputs) l.name
