use Rattle.std.proofs.Common.{◌≡◌, ◌≤◌, ◌+◌, length, vec_len, Some}
use Rattle.ms_text.specs.Lines.{lines_of, read_lines}
use Rattle.ms_replay.specs.Dumps.{dump_line, whole, dump_of}
use Rattle.ms_replay.proofs.dump.read_rows.Given as goal

abbrev pub invariant-loop-rest : goal.invariant-loop-rest
invariant-loop-rest l = record {
  same : read_lines dump_line whole l.line (Some (dump_of l.services l.genesis l.lists.items)) (lines_of l.rest)
      ≡ read_lines dump_line whole 2 (Some (dump_of l.services l.genesis l.fn.lists.items)) (lines_of l.text);
  count : vec_len l.lists ≡ l.services;
  lines : l.line + length l.rest ≤ 2 + length l.text;
}

abbrev pub decreases-loop-rest : goal.decreases-loop-rest
decreases-loop-rest l = length l.rest
