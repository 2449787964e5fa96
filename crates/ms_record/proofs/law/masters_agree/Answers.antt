use Rattle.std.proofs.Common.{refl, sym, length}
use Rattle.ms_record.proofs.Masters.{masters_agree, one_of}
use Rattle.ms_record.proofs.law.masters_agree.Goals as goal

pub returns-clause-one : goal.returns-clause-one
returns-clause-one x = λ votes offers origin sound. masters_agree votes offers origin sound

pub returns-clause-one_list : goal.returns-clause-one_list
returns-clause-one_list x = λ votes offers origin c d sound hc hd h. one_of votes offers origin sound (length c) c d refl (sym h) hc hd
