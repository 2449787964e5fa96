use Rattle.std.proofs.Common.{sym, ◌∙◌}
use Rattle.ms_object.specs.Stores.{text_of}
use Rattle.ms_object.specs.Trees.{blob_of}
use Rattle.ms_tree.proofs.Named.{wanted_text, wanted_nothing}
use Rattle.ms_tree.proofs.looking.blob_named.Goals as goal

pub returns-in-Some : goal.returns-in-Some
returns-in-Some c =
    wanted_text (blob_of c.args.format c.args.name.now c.args.size) (text_of c.args.store.now) c.args.name.now c.in-Some.text.now (sym c.in-Some.ensures.text) ∙ c.read_blob.ensures

pub returns-in-None : goal.returns-in-None
returns-in-None c = wanted_nothing (blob_of c.args.format c.args.name.now c.args.size) (text_of c.args.store.now) c.args.name.now (sym c.in-None.ensures.text)
