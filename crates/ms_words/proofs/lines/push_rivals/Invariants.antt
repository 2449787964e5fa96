use Rattle.std.proofs.Common.{◌≡◌, ◌++◌, drop}
use Rattle.ms_words.specs.Texts.{rival_lines}
use Rattle.ms_words.proofs.lines.push_rivals.Given as goal

abbrev pub invariant-loop-i : goal.invariant-loop-i
invariant-loop-i l = l.out.items ++ rival_lines (drop l.i l.rivals) ≡ l.fn.out.items ++ rival_lines l.rivals
