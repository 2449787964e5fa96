use Rattle.std.proofs.Common.{◌≡◌, ◌+◌, ◌≤◌, length, Some}
use Rattle.ms_text.specs.Lines.{lines_of, read_lines}
use Rattle.ms_plan.specs.Configuration.{config_line, whole}
use Rattle.ms_plan.specs.Drafts.{lines_in}
use Rattle.ms_plan.proofs.config.read_parties.Given as goal

abbrev pub invariant-loop-rest : goal.invariant-loop-rest
invariant-loop-rest l = record {
  same : read_lines config_line (whole l.text) l.line (Some l.draft) (lines_of l.rest)
      ≡ read_lines config_line (whole l.text) 2 (Some l.fn.draft) (lines_of l.lines);
  count : l.line ≡ lines_in l.draft + 1;
  few : lines_in l.draft ≤ 33;
}

abbrev pub decreases-loop-rest : goal.decreases-loop-rest
decreases-loop-rest l = length l.rest
