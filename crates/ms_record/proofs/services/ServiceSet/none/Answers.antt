use Rattle.std.proofs.Common.{refl}
use Rattle.ms_record.proofs.ServicesFilled.{none_kept}
use Rattle.ms_record.proofs.services.ServiceSet.none.Goals as goal

pub invariant_of-result : goal.invariant_of-result
invariant_of-result c = none_kept.kept
