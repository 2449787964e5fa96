use Rattle.std.proofs.Common.{All, ◌≡◌, ◌+◌, ◌≤◌, length}
use Rattle.ms_drill.specs.Drills.{event_line, events_at, whole}
use Rattle.ms_text.specs.Lines.{lines_of, read_lines}
use Rattle.ms_world.specs.Steps.{IsEvent}
use Rattle.ms_drill.proofs.drill.read_events.Given as goal

abbrev pub invariant-loop-rest : goal.invariant-loop-rest
invariant-loop-rest l = record {
  same : read_lines event_line whole l.line l.events (lines_of l.rest) ≡ events_at (lines_of l.text);
  lines : l.line + length (lines_of l.rest) ≤ 2 + length (lines_of l.text);
  ranges : All IsEvent l.events;
}

abbrev pub decreases-loop-rest : goal.decreases-loop-rest
decreases-loop-rest l = length l.rest
