use Rattle.ms_upload.proofs.Enough.{exact_places, few_others}
use Rattle.ms_upload.proofs.law.placings.Goals as goal

pub returns-clause-exact : goal.returns-clause-exact
returns-clause-exact c = exact_places

pub returns-clause-few : goal.returns-clause-few
returns-clause-few c = λ plan job failed rules follows lacks. few_others plan job failed (c.orders_are_sorted.ensures.all plan job.name rules) follows lacks

pub returns-clause-short : goal.returns-clause-short
returns-clause-short c = λ format texts version holds name text is.
    let o = holds.formats name text is in
    c.one_spelling.ensures.short text o.object o.spells
