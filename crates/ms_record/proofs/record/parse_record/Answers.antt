use Rattle.std.proofs.Common.{ap, ◌∙◌, arith}
use Rattle.ms_record.specs.Reading.{record_at}
use Rattle.ms_record.proofs.RecordLaws.{record_is_found, record_is_read_again}
use Rattle.ms_record.proofs.record.parse_record.Goals as goal

pub returns-clause-found : goal.returns-clause-found
returns-clause-found c = record_is_found c.fields_are_spelled.ensures c.args.text.now c.read_record.result (λ i. omega (arith, c.type_inv.text i)) c.read_record.ensures

pub returns-clause-only : goal.returns-clause-only
returns-clause-only c = λ e h is. c.read_record.ensures ∙ ap record_at is ∙ record_is_read_again c.spelled_fields_are_read.ensures e h
