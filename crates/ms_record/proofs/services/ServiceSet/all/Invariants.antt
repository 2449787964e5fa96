use Rattle.std.proofs.Common.{◌≡◌}
use Rattle.std.specs.List.{range_with_len}
use Rattle.ms_record.specs.ServicesInside.{places_of}
use Rattle.ms_record.proofs.services.ServiceSet.all.Given as goal

abbrev pub invariant-loop-i : goal.invariant-loop-i
invariant-loop-i l = l.all ≡ places_of (range_with_len 0 l.i)
