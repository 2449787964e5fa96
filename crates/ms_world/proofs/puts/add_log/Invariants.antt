use Rattle.std.proofs.Common.{◌≡◌, ◌∷◌, ◌++◌, [], List, length, take}
use Rattle.ms_world.specs.Puts.{Knows}
use Rattle.ms_record.specs.declared.log.LogEvent.{LogEvent}
use Rattle.ms_world.proofs.puts.add_log.Given as goal

abbrev pub invariant-loop-event : goal.invariant-loop-event
invariant-loop-event l =
    (logs : List (List LogEvent)) → length logs ≡ l.service → Knows logs l.generation l.fn.puts.entries → Knows (logs ++ take l.event-index l.event-items ∷ []) l.generation l.puts.entries
