use Rattle.ms_local.proofs.DeskLaws.{told_back}
use Rattle.ms_record.specs.declared.item.Item.TheVariants.{Told}
use Rattle.ms_local.proofs.desk_law.tellings_stay.Goals as goal

pub returns-clause-back : goal.returns-clause-back
returns-clause-back c = told_back

pub returns-clause-on : goal.returns-clause-on
returns-clause-on c = λ desk pass setting closed learns known. c.configuration_stays.ensures.stays desk.pass.lists pass.lists (Told setting) closed learns.more known
