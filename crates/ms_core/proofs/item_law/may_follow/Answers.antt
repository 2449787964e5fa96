use Rattle.ms_core.proofs.Following.{closed_may_follow, event_may_follow, untold_may_follow, offer_closed, told_first, untold_first}
use Rattle.ms_core.proofs.item_law.may_follow.Goals as goal

pub returns-clause-event : goal.returns-clause-event
returns-clause-event c = closed_may_follow

pub returns-clause-supported : goal.returns-clause-supported
returns-clause-supported c = event_may_follow

pub returns-clause-untold : goal.returns-clause-untold
returns-clause-untold c = untold_may_follow

pub returns-clause-offer : goal.returns-clause-offer
returns-clause-offer c = λ view setting client position ballot entry t. offer_closed view setting client position ballot entry t.closed t.told

pub returns-clause-first : goal.returns-clause-first
returns-clause-first c = told_first

pub returns-clause-first_untold : goal.returns-clause-first_untold
returns-clause-first_untold c = untold_first
