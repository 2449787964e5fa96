use Rattle.std.proofs.Common.{◌≡◌, map, take}
use Rattle.ms_record.specs.ServicesInside.{places_of}
use Rattle.ms_record.proofs.ServicesFilled.{service_in}
use Rattle.ms_record.proofs.services.ServiceSet.of_plan.Given as goal

abbrev pub invariant-loop-i : goal.invariant-loop-i
invariant-loop-i l = l.services ≡ places_of (map service_in (take l.i l.rows))
