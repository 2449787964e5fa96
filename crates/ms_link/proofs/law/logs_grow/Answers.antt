use Rattle.ms_link.specs.Composing.{log_grows, texts_grow, event_stays, added_known, added_text}
use Rattle.ms_link.proofs.law.logs_grow.Goals as goal

pub returns-clause-log : goal.returns-clause-log
returns-clause-log c = log_grows

pub returns-clause-texts : goal.returns-clause-texts
returns-clause-texts c = texts_grow

pub returns-clause-event : goal.returns-clause-event
returns-clause-event c = event_stays

pub returns-clause-added : goal.returns-clause-added
returns-clause-added c = added_known

pub returns-clause-text : goal.returns-clause-text
returns-clause-text c = added_text
