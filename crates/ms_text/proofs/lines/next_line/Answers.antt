use Rattle.std.proofs.Common.{sym, arith, length}
use Rattle.std.proofs.lemmas.List.{take_rest, drop_all}
use Rattle.ms_text.proofs.Cutting.{cut_some, cut_none}
use Rattle.ms_text.proofs.lines.next_line.Goals as goal

pub returns-in-Some-clause-lines : goal.returns-in-Some-clause-lines
returns-in-Some-clause-lines c = rw take_rest (cut_some c.args.text.now c.in-Some.at (sym c.in-Some.ensures))

pub returns-in-None-clause-lines : goal.returns-in-None-clause-lines
returns-in-None-clause-lines c = rw (take_rest c.args.text.now (length c.args.text.now), drop_all (length c.args.text.now) c.args.text.now (omega arith)) (cut_none c.args.text.now (sym c.in-None.ensures) c.requires)
