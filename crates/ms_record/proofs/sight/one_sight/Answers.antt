use Rattle.ms_record.proofs.OneSight.{one_sight}
use Rattle.ms_record.proofs.sight.one_sight.Goals as goal

pub returns : goal.returns
returns c = one_sight
