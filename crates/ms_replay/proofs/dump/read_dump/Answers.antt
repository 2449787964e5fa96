use Rattle.std.proofs.Common.{subst, None, Result}
use Rattle.ms_record.specs.declared.refusal.Refusal.{Refusal}
use Rattle.ms_text.specs.Lines.{lines_of}
use Rattle.ms_replay.specs.declared.dump.Dump.{Dump}
use Rattle.ms_replay.specs.Dumps.{dump_at, dump_line, whole, ReadsDump}
use Rattle.ms_replay.proofs.dump.read_dump.Goals as goal

pub returns-clause-first : goal.returns-clause-first
returns-clause-first c = λ line e.
    c.first_wrong_lines.ensures.found dump_line whole None (lines_of c.args.text.now) line
    (subst (λ (r : Result Dump Refusal). ReadsDump (dump_at c.args.text.now) r) e c.read_whole.ensures.exact)
