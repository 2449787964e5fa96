use Rattle.std.proofs.Common.{◌≡◌, ◌++◌, drop}
use Rattle.ms_words.specs.Texts.{reason_lines}
use Rattle.ms_words.proofs.lines.push_reasons.Given as goal

abbrev pub invariant-loop-i : goal.invariant-loop-i
invariant-loop-i l = l.out.items ++ reason_lines (drop l.i l.rows) ≡ l.fn.out.items ++ reason_lines l.rows
