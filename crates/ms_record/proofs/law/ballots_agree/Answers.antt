use Rattle.ms_record.proofs.Agreement.{later_offers_agree, chosen_agree}
use Rattle.ms_record.proofs.law.ballots_agree.Goals as goal

pub returns-clause-later : goal.returns-clause-later
returns-clause-later c = λ votes offers voters k e b f sound chosen o l. later_offers_agree votes offers voters k sound e chosen b f o l

pub returns-clause-one : goal.returns-clause-one
returns-clause-one c = λ votes offers voters k e f sound c d. chosen_agree votes offers voters k sound e f c d
