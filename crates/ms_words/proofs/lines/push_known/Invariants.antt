use Rattle.std.proofs.Common.{◌≡◌, ◌++◌, drop}
use Rattle.ms_words.specs.Texts.{known_lines}
use Rattle.ms_words.proofs.lines.push_known.Given as goal

abbrev pub invariant-loop-i : goal.invariant-loop-i
invariant-loop-i l = l.out.items ++ known_lines l.i (drop l.i l.known) ≡ l.fn.out.items ++ known_lines 0 l.known
