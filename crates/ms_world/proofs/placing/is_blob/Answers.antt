use Rattle.std.proofs.Common.{arith}
use Rattle.ms_object.specs.Reading.{object_at}
use Rattle.ms_world.proofs.ReachLaws.{blob_decides, some_found}
use Rattle.ms_world.proofs.placing.is_blob.Goals as goal

pub returns : goal.returns
returns c =
    let text = c.args.text.now in
    blob_decides c.args.format text (object_at text) c.is_some.result
    (λ o e. c.one_spelling.ensures.read text o (λ i. omega (arith, c.type_inv.text i)) e)
    (λ o spells. c.one_spelling.ensures.again text o spells)
    (some_found _ c.blob_in.result _ c.is_some.result c.blob_in.ensures c.is_some.ensures)
