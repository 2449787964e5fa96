use Rattle.std.proofs.Common.{arith}
use Rattle.ms_object.specs.Reading.{object_at}
use Rattle.ms_object.proofs.ObjectLaws.{answers_short, object_is_found, object_is_given}
use Rattle.ms_object.proofs.object.parse.Goals as goal

pub returns-clause-found : goal.returns-clause-found
returns-clause-found c =
    object_is_found c.fields_are_spelled.ensures c.spelled_fields_are_read.ensures c.args.text.now c.read_object.result (λ i. omega (arith, c.type_inv.text i)) (answers_short c.args.text.now (object_at c.args.text.now) c.read_object.result (omega arith) c.read_object.ensures)

pub returns-clause-only : goal.returns-clause-only
returns-clause-only c = λ o h few. object_is_given c.fields_are_spelled.ensures c.spelled_fields_are_read.ensures c.args.text.now c.read_object.result o h few (answers_short c.args.text.now (object_at c.args.text.now) c.read_object.result few c.read_object.ensures)
