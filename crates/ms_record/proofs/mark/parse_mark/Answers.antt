use Rattle.std.proofs.Common.{ap, ◌∙◌, arith}
use Rattle.ms_record.specs.Marks.{mark_at}
use Rattle.ms_record.proofs.MarkLaws.{mark_is_found, mark_is_read_again}
use Rattle.ms_record.proofs.mark.parse_mark.Goals as goal

pub returns-clause-found : goal.returns-clause-found
returns-clause-found c = mark_is_found c.fields_are_spelled.ensures c.args.text.now c.read_mark.result (λ i. omega (arith, c.type_inv.text i)) c.read_mark.ensures

pub returns-clause-only : goal.returns-clause-only
returns-clause-only c = λ m h is. c.read_mark.ensures ∙ ap mark_at is ∙ mark_is_read_again c.spelled_fields_are_read.ensures m h
