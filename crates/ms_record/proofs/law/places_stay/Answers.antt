use Rattle.std.proofs.Common.{length}
use Rattle.std.proofs.lemmas.Option.{slice_get_within}
use Rattle.ms_record.specs.Growing.{same_grown, promised_same, first_promised_same, taken_grows, best_same, chosen_grows, justified_grows}
use Rattle.ms_record.proofs.law.places_stay.Goals as goal

pub returns-clause-promised : goal.returns-clause-promised
returns-clause-promised c = λ old new s p k b g h.
    promised_same (old s) (new s) (length (old s)) (same_grown (old s) (new s) (g s).0 (g s).1) p k b (slice_get_within (old s) p _ h.stands) h

pub returns-clause-first : goal.returns-clause-first
returns-clause-first c = λ old new s p k b g h.
    first_promised_same (old s) (new s) (length (old s)) (same_grown (old s) (new s) (g s).0 (g s).1) p k b (slice_get_within (old s) p _ h.promised.stands) h

pub returns-clause-taken : goal.returns-clause-taken
returns-clause-taken c = λ old new s p k b e g h. taken_grows (old s) (new s) (g s).0 p k b e (g s).1 h

pub returns-clause-best : goal.returns-clause-best
returns-clause-best c = λ old new s p k best g l h.
    best_same (old s) (new s) (length (old s)) (same_grown (old s) (new s) (g s).0 (g s).1) k p best l h

pub returns-clause-chosen : goal.returns-clause-chosen
returns-clause-chosen c = λ old new voters k e g h. chosen_grows old new voters k e g h

pub returns-clause-justified : goal.returns-clause-justified
returns-clause-justified c = λ old new voters k b e g h. justified_grows old new voters k b e g h
