use Rattle.ms_record.specs.Growing.{linked_grows, is_chosen_grows, is_justified_grows}
use Rattle.ms_record.proofs.law.masters_stay.Goals as goal

pub returns-clause-linked : goal.returns-clause-linked
returns-clause-linked x = λ old new origin c g h. linked_grows old new origin c g h

pub returns-clause-chosen : goal.returns-clause-chosen
returns-clause-chosen x = λ old new origin k e g h. is_chosen_grows old new origin k e g h

pub returns-clause-justified : goal.returns-clause-justified
returns-clause-justified x = λ old new origin k b e g h. is_justified_grows old new origin k b e g h
