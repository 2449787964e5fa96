use Rattle.std.proofs.Common.{ap, ◌∙◌, arith}
use Rattle.ms_record.specs.Reading.{entry_at}
use Rattle.ms_record.proofs.EntryLaws.{entry_is_found, entry_is_read_again}
use Rattle.ms_record.proofs.entry.parse_entry.Goals as goal

pub returns-clause-found : goal.returns-clause-found
returns-clause-found c = entry_is_found c.fields_are_spelled.ensures c.args.text.now c.read_entry.result (λ i. omega (arith, c.type_inv.text i)) c.read_entry.ensures

pub returns-clause-only : goal.returns-clause-only
returns-clause-only c = λ e h is. c.read_entry.ensures ∙ ap entry_at is ∙ entry_is_read_again c.spelled_fields_are_read.ensures e h
