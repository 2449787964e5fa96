use Rattle.std.proofs.Common.{◌≡◌, ◌++◌, ◌+◌, drop}
use Rattle.ms_words.specs.Texts.{member_lines}
use Rattle.ms_words.proofs.lines.push_members.Given as goal

abbrev pub invariant-loop-i : goal.invariant-loop-i
invariant-loop-i l = l.out.items ++ member_lines (l.i + 1) (drop l.i l.entries) ≡ l.fn.out.items ++ member_lines 1 l.entries
