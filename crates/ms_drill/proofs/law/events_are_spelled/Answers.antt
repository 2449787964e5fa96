use Rattle.ms_drill.proofs.EventSpelling.{WordLaws, event_read, event_spelled}
use Rattle.ms_drill.proofs.law.events_are_spelled.Goals as goal

laws : (c : goal.After-rules_are_tested) → WordLaws
laws c = record {
  words = c.words_are_joined.ensures;
  read = c.one_spelling.ensures.read;
  again = c.one_spelling.ensures.again;
  no_space = c.one_spelling.ensures.no_space;
  passed = c.rules_are_tested.ensures.passed;
  passes = c.rules_are_tested.ensures.passes;
}

pub returns : goal.returns
returns c = λ line event. (event_spelled (laws c) line event, event_read (laws c) line event)
